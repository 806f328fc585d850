-- What a turn of a loop over at most eight slots asks, in plain variables: an answer in a function's proof only applies one of these.
use Prim.Native.Nat.{ℕ, ◌+◌, ◌≤◌, ◌<◌}
use mathlib.Core.Path.{◌≡◌, ◌∙◌, ap}
use mathlib.Core.List.{List}
use native.Mathlib.Nat.{le_antisymm}
use lib.ListN.{set}
use Rattle.cube_spec.specs.Limits.{padded}
use Rattle.cube_spec.specs.Boxes.{table}
use Rattle.cube_spec.proofs.Slots.{padded_next}
use native.Mathlib.Omega.{arith}
use mir.Syntax.{w64}
use mir.Val.{Fits}

-- ---- what fits

-- a number of points
pub fits_points : (x : ℕ) → x ≤ 16777216 → Fits w64 x
fits_points x h = omega arith

pub same_le : {x y z : ℕ} → x ≡ y → y ≤ z → x ≤ z
same_le e h = omega arith

-- ---- from the first slot to the last

pub slot_below : {i n : ℕ} → i < n → n ≤ 8 → i < 8
slot_below h k = omega arith

pub next_le : {i n : ℕ} → i < n → i + 1 ≤ n
next_le h = omega arith

-- ---- slots that are filled one by one

pub filled : (f : ℕ → ℕ) (out : List ℕ) (i x : ℕ) → i < 8 → x ≡ f i → out ≡ padded (table i f) → set out i x ≡ padded (table (i + 1) f)
filled f out i x h e o = ap (λ y. set out i y) e ∙ ap (λ l. set l i (f i)) o ∙ padded_next i f h

pub all_filled : (f : ℕ → ℕ) (out : List ℕ) (n i : ℕ) → i ≤ n → n ≤ i → out ≡ padded (table i f) → out ≡ padded (table n f)
all_filled f out n i l h o = o ∙ ap (λ k. padded (table k f)) (le_antisymm l h)
