-- The tape: its commands, its form, and what it holds.
use Rattle.std.specs.Prelude.{ℕ, zero, suc, Bool, ◌||◌, List, [], ◌∷◌, ◌++◌, eqb, ltb, length, take, drop, replicate, ℤ}
use Rattle.std.proofs.Math.Option.{Option, none, some}
use Rattle.cube_spec.specs.Bytes.{little}
use Rattle.cube_spec.specs.Boxes.{pick}
use Rattle.tape_reading.specs.declared.types.Reading.{Reading}
use Rattle.tape_reading.specs.Readings.{reading_of, centimetres_of, value_in}

-- ---- "one-byte commands with operands of fixed width, little-endian"

pub data Command : Type 0 where
  -- 41: an axis length
  axis : ℕ → Command
  -- 42: p, for 2^p boards
  boards : ℕ → Command
  -- 56, 4D and 4B: a reading, once; 52: how often a reading stands
  points : ℕ → Reading → Command
  -- 45
  end : Command

-- What bytes begin with: a command, and the bytes that follow it; or no command, or one cut short, or a 52 of count 0.
pub data First : Type 0 where
  found : Command → List ℕ → First
  bad : First

-- an operand of n bytes, handed to k with the bytes that follow
unfoldable pub operand : ℕ → List ℕ → (ℕ → List ℕ → First) → First
operand n bytes k = pick (ltb (length bytes) n) bad (k (little (take n bytes)) (drop n bytes))

-- "4D (metres) and 4B (kilometres) .. stand wherever a 56 may"
unfoldable pub single : ℕ → Bool
single c = eqb c 0x56 || eqb c 0x4D || eqb c 0x4B

-- "52 a count (2 bytes, at least 1) and a point repeated that often"
unfoldable pub repeated : ℕ → Reading → List ℕ → First
repeated zero v rest = bad
repeated (suc n) v rest = found (points (suc n) v) rest

-- the first command of some bytes; "command 52 still repeats centimetres"
unfoldable pub first_of : List ℕ → First
first_of [] = bad
first_of (c ∷ r) =
    pick (eqb c 0x41) (operand 2 r (λ d s. found (axis d) s))
    (pick (eqb c 0x42) (operand 1 r (λ p s. found (boards p) s))
    (pick (single c) (operand 4 r (λ b s. found (points 1 (reading_of c b)) s))
    (pick (eqb c 0x52) (operand 2 r (λ n s. operand 4 s (λ b t. repeated n (reading_of c b) t)))
    (pick (eqb c 0x45) (found end r) bad))))

-- one command more in front
abbrev pub prepend : Command → Option (List Command) → Option (List Command)
prepend c none = none
prepend c (some cs) = some (c ∷ cs)

-- `k` reads the bytes that follow
unfoldable pub first_then : First → (List ℕ → Option (List Command)) → Option (List Command)
first_then (found c r) k = prepend c (k r)
first_then bad k = none

unfoldable pub commands_of : ℕ → List ℕ → Option (List Command)
commands_of zero [] = some []
commands_of zero (b ∷ r) = none
commands_of (suc f) [] = some []
commands_of (suc f) (b ∷ r) = first_then (first_of (b ∷ r)) (commands_of f)

-- the commands of a tape from its first byte to its last: there are at most as many as bytes
unfoldable pub commands : List ℕ → Option (List Command)
commands tape = commands_of (length tape) tape

-- ---- "All 41s, then one 42, then points, then 45 and nothing further."

-- a reading and how often it stands
pub record Entry : Type 0 where
  pub times : ℕ
  pub reading : Reading

-- what a tape says
pub record Form : Type 0 where
  pub lengths : List ℕ
  pub p : ℕ
  pub entries : List Entry

abbrev pub with_entry : ℕ → Reading → Option (List Entry) → Option (List Entry)
with_entry n v none = none
with_entry n v (some l) = some (record { times = n; reading = v } ∷ l)

abbrev pub with_length : ℕ → Option Form → Option Form
with_length d none = none
with_length d (some f) = some (record { lengths = d ∷ f.lengths; p = f.p; entries = f.entries })

abbrev pub with_boards : ℕ → Option (List Entry) → Option Form
with_boards p none = none
with_boards p (some l) = some (record { lengths = []; p = p; entries = l })

-- from the 42 on: "points, then 45 and nothing further"
unfoldable pub entries_of : List Command → Option (List Entry)
entries_of [] = none
entries_of (axis d ∷ cs) = none
entries_of (boards p ∷ cs) = none
entries_of (points n v ∷ cs) = with_entry n v (entries_of cs)
entries_of (end ∷ []) = some []
entries_of (end ∷ c ∷ cs) = none

-- from the start: "All 41s, then one 42"
unfoldable pub form_of : List Command → Option Form
form_of [] = none
form_of (axis d ∷ cs) = with_length d (form_of cs)
form_of (boards p ∷ cs) = with_boards p (entries_of cs)
form_of (points n v ∷ cs) = none
form_of (end ∷ cs) = none

abbrev pub form_in : Option (List Command) → Option Form
form_in none = none
form_in (some cs) = form_of cs

-- what a tape says, if it keeps the form
unfoldable pub form : List ℕ → Option Form
form tape = form_in (commands tape)

-- ---- the points

unfoldable pub points_of : List Entry → List ℤ
points_of [] = []
points_of (e ∷ es) = replicate e.times (value_in (centimetres_of e.reading)) ++ points_of es

-- what a campaign holds; where a reading is refused, a 0 is in its place (`Reading.scan_checks` refuses such a tape)
pub record Campaign : Type 0 where
  pub lengths : List ℕ
  pub p : ℕ
  pub points : List ℤ

abbrev pub as_campaign : Option Form → Option Campaign
as_campaign none = none
as_campaign (some f) = some (record { lengths = f.lengths; p = f.p; points = points_of f.entries })

unfoldable pub campaign : List ℕ → Option Campaign
campaign tape = as_campaign (form tape)
