-- "The result is the whole centimetre nearest to the float's exact value, halves to the even one": what that says of a finite pattern, proved for
-- every one of them (`proofs/Readings.antt`, `rounded_right`); those that are not finite give 14 (`none_finite`).
use Rattle.std.specs.Prelude.{ℕ, ◌*◌, ◌^◌, ◌≡◌, false, ℤ}
use Rattle.cube_spec.specs.Checks.{Reply}
use Rattle.tape_reading.specs.Nearest.{NearestZ}
use Rattle.tape_reading.specs.Patterns.{negative, not_finite, parts}
use Rattle.tape_reading.specs.Readings.{in_range}

-- b is finite, and r is the nearest whole number, if that lies in the range: the exact value of b is ± its parts · 2^−149 (`exact_value`)
pub record Rounds (scale b : ℕ) (r : Reply ℤ) : Type 0 where
  pub finite : not_finite b ≡ false
  pub z : ℤ
  pub nearest : NearestZ (negative b) (parts b * scale) (2 ^ 149) z
  pub is : r ≡ in_range z
