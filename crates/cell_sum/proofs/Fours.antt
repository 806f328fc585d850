-- Four rows added at once.
use Prim.Native.Nat.{ℕ, ◌+◌, ◌*◌, ◌≤◌, ◌<◌}
use mathlib.Core.Path.{◌≡◌, sym, ◌∙◌, ap}
use mathlib.Core.List.{List}
use native.Mathlib.Omega.{arith}
use lib.IntN.{ℤ, pos, ◌+ℤ◌}
use lib.ListN.{length, get_or}
use Rattle.cube_spec.specs.Boxes.{sum_z}
use Rattle.cube_spec.proofs.Sums.{sum_append, sum_cong}
use Rattle.cell_spec.specs.Wrapped.{wrapped}
use Rattle.cell_spec.specs.Rows.{from, every, written, added_to, combs}
use Rattle.cell_spec.proofs.Modulo.{wrapped_both}
use Rattle.cell_spec.proofs.Writing.{over, same, inside}

module _ (w a : List ℤ) (at t dst n m : ℕ) (b : dst + n ≤ length w) where
  abbrev v : List ℤ
  v = written w dst n (combs a at 1 m t)

  here : (i k : ℕ) → every a (at + m * t + i * 1) t k ≡ every a (at + i * 1) t (m + k)
  unfolding every
  here i k = let e : at + m * t + i * 1 + k * t ≡ at + i * 1 + (m + k) * t = omega arith in ap (λ x. get_or a x (pos 0)) e

  cell : (i : ℕ) → i < n → added_to v dst (combs a (at + m * t) 1 4 t) i ≡ combs a at 1 (m + 4) t i
  unfolding added_to from combs
  cell i h =
      ap (λ x. wrapped (x +ℤ wrapped (sum_z 4 (every a (at + m * t + i * 1) t)))) (inside w dst n (combs a at 1 m t) i b h)
      ∙ wrapped_both (sum_z m (every a (at + i * 1) t)) (sum_z 4 (every a (at + m * t + i * 1) t))
      ∙ ap (λ x. wrapped (sum_z m (every a (at + i * 1) t) +ℤ x)) (sum_cong 4 (λ k l. here i k))
      ∙ ap wrapped (sym (sum_append m 4 (every a (at + i * 1) t)))

  pub rows_four : written v dst n (added_to v dst (combs a (at + m * t) 1 4 t)) ≡ written w dst n (combs a at 1 (m + 4) t)
  rows_four = over w dst n (combs a at 1 m t) (added_to v dst (combs a (at + m * t) 1 4 t)) b ∙ same w dst n (added_to v dst (combs a (at + m * t) 1 4 t)) (combs a at 1 (m + 4) t) cell

-- a sum of neighbours, as the code reads it
pub sum_here : (a : List ℤ) (at e t i : ℕ) (x : ℤ) → x ≡ wrapped (sum_z e (every a (at + i) t)) → x ≡ combs a at 1 e t i
unfolding combs
sum_here a at e t i x h = let z : at + i ≡ at + i * 1 = omega arith in h ∙ ap (λ s. wrapped (sum_z e (every a s t))) z
