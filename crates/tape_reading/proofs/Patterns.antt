-- A float against its bits.
use Prim.Native.Nat.{ℕ}
use mathlib.Core.Path.{◌≡◌, sym, ap, ◌∙◌}
use mathlib.Core.Bool.{true, not}
use native.Mathlib.Omega.{arith}
use lib.Dec.{T}
use lib.Ieee.{Float, nan, inf, fin, binary32, of_bits, to_bits, nan_bits, is_nan, fits}
use lib.Ieee.Bits.{nan_bits_is, of_bits-to_bits}
use Rattle.tape_reading.specs.Readings.{in_centimetres, refusal_in, from_bits}
use Rattle.tape_reading.proofs.Readings.{from_bits_lem}

-- what is not refused is a number
pub number : (scale : ℕ) (x : Float) → refusal_in (in_centimetres scale x) ≡ 0 → T (not (is_nan x))
unfolding is_nan in_centimetres
number scale nan e = absurd (omega arith)
number scale (inf s) e = tt
number scale (fin s m k) e = tt

pub number_bits : (scale n : ℕ) → refusal_in (in_centimetres scale (of_bits binary32 n)) ≡ 0 → T (not (nan_bits binary32 n))
number_bits scale n e = rw (nan_bits_is binary32 n) (number scale (of_bits binary32 n) e)

pub by_bits : (scale : ℕ) (x : Float) → fits binary32 x ≡ true → from_bits scale (to_bits binary32 x) ≡ in_centimetres scale x
by_bits scale x f = sym (from_bits_lem scale (to_bits binary32 x)) ∙ ap (in_centimetres scale) (of_bits-to_bits binary32 x (rw f tt))
