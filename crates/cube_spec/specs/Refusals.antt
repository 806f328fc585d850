-- The numbers of refusals, and what a check found.
use Rattle.std.specs.Prelude.{ℕ, Result, Ok, Err}
use Rattle.cube_spec.specs.Checks.{Reply, gives, refuses}
use Rattle.cube_spec.specs.declared.refusals.Refusal.{Refusal}
use Rattle.cube_spec.specs.declared.refusals.Refusal.TheVariants as Refusal'

-- the number of a refusal
abbrev pub number_of : Refusal → ℕ
number_of Refusal'.LongTape = 1
number_of Refusal'.Form = 2
number_of Refusal'.Axes = 3
number_of Refusal'.Length = 4
number_of Refusal'.Points = 5
number_of Refusal'.Boards = 6
number_of Refusal'.Order = 8
number_of Refusal'.Exponents = 9
number_of Refusal'.Array = 10
number_of Refusal'.Memory = 11
number_of Refusal'.Position = 12
number_of Refusal'.Result = 13
number_of Refusal'.NotANumber = 14
number_of Refusal'.TooFar = 15
number_of Refusal'.Budget = 18
number_of Refusal'.Links = 19
number_of Refusal'.Seed = 22

-- what a check found, by its number: 0 where nothing is refused
abbrev pub refused_by : {A : Type 0} → Result A Refusal → ℕ
refused_by (Ok a) = 0
refused_by (Err e) = number_of e

-- what an entry answers: its value, or "its number alone"
abbrev pub reply_of : {A : Type 0} → Result A Refusal → Reply A
reply_of (Ok a) = gives a
reply_of (Err e) = refuses (number_of e)
