-- Names every definition, so that a fact that computes with them says `unfolding computing`.
use Rattle.std.specs.Prelude.{ℕ}
use Rattle.std.specs.Float.Ieee.{of_bits, of_fields, odd}
use Rattle.std.specs.Int.Count.{count_trailing_zeros}
use Rattle.tape_reading.specs.Nearest
use Rattle.tape_reading.specs.Patterns
use Rattle.tape_reading.specs.Readings

unfoldable pub computing : ℕ
unfolding Nearest.nearest Nearest.signed Nearest.off_z Patterns.negative Patterns.field Patterns.digits Patterns.not_finite Patterns.mantissa_of Patterns.power_of Patterns.parts Readings.in_range Readings.in_centimetres Readings.centimetres_of Readings.signed32 Readings.reading_of Readings.from_bits of_bits of_fields odd count_trailing_zeros
computing = 0
