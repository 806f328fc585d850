-- A mask of one byte keeps none but the first eight axes.
use native.Mathlib.Decide.{dec_le}
use Rattle.std.proofs.Common.{ℕ, zero, suc, ◌+◌, ◌-◌, ◌<◌, ◌≤◌, ◌^◌, ◌≡◌, true, false, List, length, min, arith, ◌∙◌, ap, refl}
use Rattle.std.proofs.Math.Pow.{pow_mono}
use borrow.Author.Tests.{eqb-true}
use Rattle.cube_spec.specs.Limits.{axis_limit}
use Rattle.cube_spec.specs.Choices.{keeps, counted_cells}
use Rattle.cube_spec.proofs.Digits.{digit_le, keeps_past}
use Rattle.cube_spec.proofs.Counting.{counted, counted_summed, counted_end}

pub past_byte : (mask d : ℕ) → mask < 256 → 8 ≤ d → keeps mask d ≡ false
past_byte mask d h l = let m = pow_mono l in keeps_past mask d (omega arith)

-- a kept axis is below 8, and its bit at most the mask
pub bit_below : (mask d : ℕ) → keeps mask d ≡ true → 2 ^ d ≤ mask
unfolding keeps
bit_below mask d k = digit_le (eqb-true _ _ k)

pub kept_below : (mask d : ℕ) → mask < 256 → keeps mask d ≡ true → d < 8
kept_below mask d h k = go (dec_le 8 d)
  where
    go : Dec (8 ≤ d) → d < 8
    go (yes l) = let m = pow_mono l in let b = bit_below mask d k in absurd (omega arith)
    go (no n) = omega (arith, n)

plus-suc : (n : ℕ) → 8 + suc n ≡ 8 + n + 1
plus-suc n = omega arith

-- so no more than eight axes count
past_counted : (ds : List ℕ) (mask : ℕ) → mask < 256 → (n : ℕ) → counted ds mask 8 ≡ counted ds mask (8 + n)
past_counted ds mask h zero = refl
past_counted ds mask h (suc n) = rw (plus-suc n) (counted_summed ds mask (8 + n) (counted ds mask 8) (past_counted ds mask h n) (past_byte mask (8 + n) h (omega arith)))

pub counted_byte : (ds : List ℕ) (mask count : ℕ) → mask < 256 → count ≡ counted ds mask (min (length ds) axis_limit) → count ≡ counted_cells ds mask
counted_byte ds mask count h e = go (dec_le (length ds) 8)
  where
    go : Dec (length ds ≤ 8) → count ≡ counted_cells ds mask
    go (yes l) = let m : min (length ds) 8 ≡ length ds = omega arith in counted_end ds mask (length ds) count (e ∙ ap (counted ds mask) m) refl
    go (no n) =
        let m : min (length ds) 8 ≡ 8 = omega (arith, n) in
        let l : 8 + (length ds - 8) ≡ length ds = omega (arith, n) in
        counted_end ds mask (length ds) count (e ∙ ap (counted ds mask) m ∙ past_counted ds mask h (length ds - 8) ∙ ap (counted ds mask) l) refl
