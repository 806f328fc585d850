-- Laws of tables.
use Prim.Native.Nat.{ℕ, zero, suc, ◌+◌, ◌≤◌, ◌<◌}
use mathlib.Core.Path.{◌≡◌, refl, sym, ap, ap₂, ◌∙◌}
use mathlib.Core.List.{List, ◌∷◌}
use native.Mathlib.Omega.{arith}
use native.Mathlib.Nat.{zero-add}
use lib.ListN.{length, get_or}
use lib.Seq.{ext_get_or}
use Rattle.cube_spec.specs.Boxes.{table_from}

module _ {A : Type 0} where
  pub table_length : (n i : ℕ) (f : ℕ → A) → length (table_from n i f) ≡ n
  unfolding table_from
  table_length zero i f = refl
  table_length (suc n) i f = ap suc (table_length n (i + 1) f)

  pub table_at : (n i : ℕ) (f : ℕ → A) (j : ℕ) (z : A) → j < n → get_or (table_from n i f) j z ≡ f (i + j)
  unfolding table_from
  table_at zero i f j z h = absurd (omega arith)
  table_at (suc n) i f zero z h = ap f (omega arith)
  table_at (suc n) i f (suc j) z h = table_at n (i + 1) f j z (omega arith) ∙ ap f (omega arith)

  pub table_cong : (m d : ℕ) (f g : ℕ → A) → ((i : ℕ) → d ≤ i → i < d + m → f i ≡ g i) → table_from m d f ≡ table_from m d g
  unfolding table_from
  table_cong zero d f g h = refl
  table_cong (suc m) d f g h = ap₂ ◌∷◌ (h d (omega arith) (omega arith)) (table_cong m (d + 1) f g (λ i l r. h i (omega arith) (omega arith)))

  -- a list whose elements are those of a function is its table
  pub table_of : (n : ℕ) (f : ℕ → A) (l : List A) (z : A) → length l ≡ n → ((j : ℕ) → j < n → get_or l j z ≡ f j) → l ≡ table_from n 0 f
  table_of n f l z e h =
      ext_get_or z l (table_from n 0 f) (e ∙ sym (table_length n 0 f)) (λ j k. let r : j < n = omega arith in h j r ∙ sym (table_at n 0 f j z r ∙ ap f (zero-add j)))
