-- Laws of refusals' numbers.
use Rattle.std.specs.Prelude.{◌<◌}
use native.Mathlib.Omega.{arith}
use Rattle.cube_spec.specs.declared.refusals.Refusal.{Refusal}
use Rattle.cube_spec.specs.declared.refusals.Refusal.TheVariants as Refusal'
use Rattle.cube_spec.specs.Refusals.{number_of}

-- no refusal has the number 0, which says that nothing is refused
pub number_positive : (e : Refusal) → 0 < number_of e
number_positive Refusal'.LongTape = omega arith
number_positive Refusal'.Form = omega arith
number_positive Refusal'.Axes = omega arith
number_positive Refusal'.Length = omega arith
number_positive Refusal'.Points = omega arith
number_positive Refusal'.Boards = omega arith
number_positive Refusal'.Order = omega arith
number_positive Refusal'.Exponents = omega arith
number_positive Refusal'.Array = omega arith
number_positive Refusal'.Memory = omega arith
number_positive Refusal'.Position = omega arith
number_positive Refusal'.Result = omega arith
number_positive Refusal'.NotANumber = omega arith
number_positive Refusal'.TooFar = omega arith
number_positive Refusal'.Budget = omega arith
number_positive Refusal'.Links = omega arith
number_positive Refusal'.Seed = omega arith
