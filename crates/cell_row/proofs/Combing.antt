-- Laws of combs.
use Rattle.std.proofs.Common.{refl, ◌≤◌, ◌≡◌, ℕ, ◌+◌, ◌*◌, ◌%◌, ◌^◌, ◌<◌, List, length, get_or, map, ℤ, ◌+ℤ◌, to_z, of_z, SFits, w64, ap, ◌∙◌, arith}
use Rattle.cell_spec.specs.Wrapped.{wrapped}
use Rattle.cell_spec.specs.Rows.{written, combs}
use Rattle.cell_spec.proofs.Bits.{wrapping_onto}
use Rattle.cell_spec.proofs.Writing.{row_fits, joined}
use Rattle.cell_spec.proofs.Combs.{comb_more, comb_shift, rows_fit}
use Rattle.cell_row.specs.declared.combs.Comb.{Comb}
use Rattle.cell_row.specs.Combs.{Within, part, sums}
use Rattle.cell_row.proofs.Values.{read}

-- one value more of sum i, which a loop keeps as bits
pub one_value : {A : Type 0} (f : A → ℤ) (l : List A) (at u e t i p b : ℕ) (r : A) (x : ℤ) → to_z w64 b ≡ combs (map f l) at u e t i → p ≡ at + i * u + e * t
    → r ≡ get_or l p r → x ≡ f r → p < length l → b < 2 ^ 64 → SFits w64 x → to_z w64 ((b + of_z w64 x) % 2 ^ 64) ≡ combs (map f l) at u (e + 1) t i
one_value f l at u e t i p b r x h q j k m n o =
    comb_more (map f l) at u e t i p (to_z w64 b) _ h q (wrapping_onto b x n o ∙ ap (λ y. wrapped (to_z w64 b +ℤ y)) (read f l p r x j k m))

module _ (c : Comb) (l : ℕ) (w : Within c l) where
  -- value m of sum i
  pub within_value : (i m : ℕ) → i < c.count → m < c.values → c.first + i * c.apart + m * c.step < l
  within_value i m h k = omega (arith, w, row_fits i c.count c.apart h, row_fits m c.values c.step k)

  pub within_first : (i : ℕ) → i < c.count → c.first + i * c.apart < l
  within_first i h = omega (arith, within_value i 0 h w.1)

  pub within_sum : (i : ℕ) → i < c.count → c.first + i * c.apart + c.values * c.step < l + c.step
  within_sum i h = omega (arith, w, row_fits i c.count c.apart h)

  pub within_part : (i n : ℕ) → i + n ≤ c.count → Within (part c i n) l
  within_part i n h = (omega (arith, w, rows_fit i n c.count c.apart h), w.1)

  -- of neighbours, in row m, and of runs, in run i
  pub within_row : c.apart ≡ 1 → (i m : ℕ) → i < c.count → m < c.values → c.first + m * c.step + i < l
  within_row q i m h k = let b = within_value i m h k in omega (arith, (rw q at b))

  pub within_run : c.step ≡ 1 → (i : ℕ) → i < c.count → c.first + i * c.apart + c.values ≤ l
  within_run q i h = let b = within_sum i h in omega (arith, (rw q at b))

-- n sums more, so that they are m
pub part_written : (w : List ℤ) (c : Comb) (l : List ℤ) (dst i n m : ℕ) → i + n ≡ m → written (written w dst i (sums c l)) (dst + i) n (sums (part c i n) l) ≡ written w dst m (sums c l)
part_written w c l dst i n m e = joined w dst i n _ _ (λ j h. comb_shift l c.first c.apart c.values c.step i j) ∙ rw e refl
