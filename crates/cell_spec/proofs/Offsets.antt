-- Offsets by positions: each axis adds its stride once for each position.
use Prim.Native.Nat.{ℕ, zero, suc, ◌+◌, ◌*◌, ◌/◌, ◌%◌}
use mathlib.Core.Path.{◌≡◌, ◌∙◌, refl, sym, ap₂}
use mathlib.Core.List.{List}
use native.Mathlib.Omega.{arith}
use native.Mathlib.Nat.{add-zero}
use borrow.Author.Tests.{eq-eqb, ne_eqb}
use lib.ListN.{get_or}
use Rattle.cube_spec.specs.Boxes.{sum_n, product, position}
use Rattle.cube_spec.proofs.Naturals.{sum_n_cong, sum_n_first}
use Rattle.cell_spec.specs.Strides.{box_size, offset}

module _ (e : ℕ → ℕ) (m d q : ℕ) where
  -- the position on the first axis, and on a later one
  position_first : position e (suc m) d q (d + 0) ≡ q / product e m (d + 1)
  unfolding position
  position_first = rw (add-zero, eq-eqb d d refl)

  position_later : (i : ℕ) → position e (suc m) d q (d + suc i) ≡ position e m (d + 1) (q % product e m (d + 1)) (d + 1 + i)
  unfolding position
  position_later i = let z : d + suc i ≡ d + 1 + i = omega arith in rw (z, ne_eqb (d + 1 + i) d (λ x. omega arith))

pub offset_sum : (e t : List ℕ) (m d q : ℕ) → offset e t m d q ≡ sum_n m (λ i. position (λ i. get_or e i 0) m d q (d + i) * get_or t (d + i) 0)
unfolding offset sum_n box_size
offset_sum e t zero d q = refl
offset_sum e t (suc m) d q =
    ap₂ ◌+◌ (rw (position_first (λ i. get_or e i 0) m d q, add-zero)) (offset_sum e t m (d + 1) (q % box_size e m (d + 1)) ∙ sum_n_cong m (λ i h. later i))
    ∙ sym (sum_n_first m (λ i. position (λ i. get_or e i 0) (suc m) d q (d + i) * get_or t (d + i) 0))
  where
    later : (i : ℕ) → position (λ i. get_or e i 0) m (d + 1) (q % box_size e m (d + 1)) (d + 1 + i) * get_or t (d + 1 + i) 0
        ≡ position (λ i. get_or e i 0) (suc m) d q (d + suc i) * get_or t (d + suc i) 0
    later i = let z : d + suc i ≡ d + 1 + i = omega arith in rw (position_later (λ i. get_or e i 0) m d q i, z)
