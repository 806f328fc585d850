-- A point is within its type.
use Prim.Native.Nat.{ℕ, ◌+◌, ◌^◌, ◌≤◌, ◌<◌}
use mathlib.Core.Path.{◌≡◌}
use mathlib.Core.List.{List}
use native.Mathlib.Omega.{arith}
use borrow.Author.Tests.{ltb-true, ltb-false}
use lib.Dec.{ltb}
use lib.IntN.{ℤ, pos, negsuc, nat_abs}
use lib.ListN.{length, get_or-eq_default}
use mir.Val.{SFits}
use mir.Syntax.{w32}
use Rattle.cube_spec.proofs.Sums.{by}
use Rattle.run_spec.specs.Memory.{read}
use Rattle.totals_group.specs.Grouped.{Small}

pub within : (z : ℤ) → SFits w32 z → nat_abs z ≤ 2 ^ 31
within (pos n) f = let s = f.sfits in omega arith
within (negsuc n) f = let s = f.sfits in omega arith

-- one point more
pub bounded_more : (l : List ℤ) (i : ℕ) → ((j : ℕ) → j < i → nat_abs (read l j) ≤ 2 ^ 31) → nat_abs (read l i) ≤ 2 ^ 31 → (j : ℕ) → j < i + 1 → nat_abs (read l j) ≤ 2 ^ 31
bounded_more l i h k j b = by (ltb j i) (λ t. h j (ltb-true j i t)) (λ t. let g = ltb-false j i t in let e : j ≡ i = omega arith in rw e k)

-- all of them, and what is read past the end
pub bounded_all : (l : List ℤ) (i : ℕ) → length l ≤ i → ((j : ℕ) → j < i → nat_abs (read l j) ≤ 2 ^ 31) → Small l
bounded_all l i b h j = by (ltb j i) (λ t. h j (ltb-true j i t)) (λ t. let g = ltb-false j i t in rw (get_or-eq_default l (pos 0) {n = j} (omega arith)) (omega arith))
