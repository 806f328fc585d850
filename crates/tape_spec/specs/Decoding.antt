-- What the reader's answers mean: a command at a position, and a count of points and commands; and what is stored.
use Rattle.std.specs.Prelude.{ℕ, ◌+◌, ◌-◌, ◌^◌, ◌<◌, ◌≡◌, List, [], eqb, length, drop, ℤ, Some, None}
use Rattle.std.specs.Prelude as Prelude
use Rattle.std.proofs.Math.Option.{Option, none, some}
use Rattle.cube_spec.specs.Boxes.{pick}
use Rattle.cube_spec.specs.Checks.{first, Reply, refuses, answered}
use Rattle.tape_reading.specs.declared.types.Reading.TheVariants as Reading'
use Rattle.tape_reading.specs.Readings.{Floating, reading_of}
use Rattle.tape_spec.specs.declared.types.Command.{Command}
use Rattle.tape_spec.specs.declared.types.Command.TheVariants.{Axis, Boards, Points, Float, End}
use Rattle.tape_spec.specs.declared.types.Count.{Count}
use Rattle.tape_spec.specs.Tapes as Tapes
use Rattle.tape_spec.specs.Tapes.{First, found, bad, first_of, Entry, entries_of, points_of}
use Rattle.tape_spec.specs.Reading.{entry_checks, command_count}

-- a command with the position after it, or none
pub data Placed : Type 0 where
  placed : Tapes.Command → ℕ → Placed
  nothing : Placed

-- what an answer says
abbrev pub meant_by : Command → Placed
meant_by (Axis d at) = placed (Tapes.axis d) at
meant_by (Boards p at) = placed (Tapes.boards p) at
meant_by (Points n v at) = placed (Tapes.points n (Reading'.Centimetres v)) at
meant_by (Float c b at) = placed (Tapes.points 1 (reading_of c b)) at
meant_by (End at) = placed Tapes.end at

abbrev pub meant : Prelude.Option Command → Placed
meant (Some c) = meant_by c
meant None = nothing

-- what is known of an answer beside its meaning: the count of a command of points is at least 1 and fits two bytes, and a float's command is 4D or 4B
abbrev pub KnownOf : Command → Type 0
KnownOf (Axis d at) = Unit
KnownOf (Boards p at) = Unit
KnownOf (Points n v at) = (0 < n) × (n < 2 ^ 16)
KnownOf (Float c b at) = Floating c
KnownOf (End at) = Unit

abbrev pub Known : Prelude.Option Command → Type 0
Known (Some c) = KnownOf c
Known None = Unit

-- what bytes begin with, on a tape of n bytes: the bytes that follow begin at n less their number
unfoldable pub told : ℕ → First → Placed
told n (found c r) = placed c (n - length r)
told n bad = nothing

-- the command at a position of a tape; past the last byte there is none
unfoldable pub decoding : List ℕ → ℕ → Placed
decoding tape at = told (length tape) (first_of (drop at tape))

-- the readings of some commands from the 42 on, if they keep the form
abbrev pub entries_from : Option (List Tapes.Command) → Option (List Entry)
entries_from none = none
entries_from (some cs) = entries_of cs

-- the count of some commands from the 42 on, or its refusal: k points, m commands and the first refusal b, 0 for none, stand before them
abbrev pub counted_as : ℕ → ℕ → ℕ → Option (List Entry) → Reply Count
counted_as k m b none = refuses 2
counted_as k m b (some es) = answered (pick (eqb b 0) (first (entry_checks es)) b) (record { points = k + length (points_of es); commands = m })

abbrev pub counted : ℕ → ℕ → ℕ → Option (List Tapes.Command) → Reply Count
counted k m b o = counted_as k (m + command_count o) b (entries_from o)

-- the readings that some bytes are from the 42 on
abbrev pub left : List ℕ → Option (List Entry)
left bytes = entries_from (Tapes.commands bytes)

-- the form is kept and no reading is refused
abbrev pub Passed : Option (List Entry) → Type 0
Passed none = ⊥
Passed (some es) = first (entry_checks es) ≡ 0

abbrev pub points_in : Option (List Entry) → List ℤ
points_in none = []
points_in (some es) = points_of es
