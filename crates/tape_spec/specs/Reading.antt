-- Scanning a tape, and reading it into a lent slice: the refusals, and what there is afterwards.
use Rattle.std.specs.Prelude.{ℕ, zero, suc, Bool, true, false, List, [], ◌∷◌, ◌++◌, eqb, ltb, length, drop, ℤ}
use Rattle.std.proofs.Math.Option.{Option, none, some}
use Rattle.cube_spec.specs.Limits.{tape_limit, padded}
use Rattle.cube_spec.specs.Checks.{Check, check, first, Reply, answered}
use Rattle.tape_reading.specs.Readings.{centimetres_of, refusal_in}
use Rattle.tape_spec.specs.declared.types.Scan.{Scan}
use Rattle.tape_spec.specs.Tapes.{Command, commands, Entry, Form, form, Campaign, campaign}

-- 1. "The tape is over 65,536 bytes."
unfoldable pub too_long : List ℕ → Bool
too_long tape = ltb tape_limit (length tape)

-- 2. "The tape departs from its form."
abbrev pub is_none : Option Campaign → Bool
is_none none = true
is_none (some c) = false

-- the campaign, or an empty one where the tape departs from its form
abbrev pub or_empty : Option Campaign → Campaign
or_empty none = record { lengths = []; p = 0; points = [] }
or_empty (some c) = c

abbrev pub entries_in : Option Form → List Entry
entries_in none = []
entries_in (some f) = f.entries

-- ---- scanning: the form, the readings, and what the tape holds, without its points

-- "14 for a float that is infinite or not a number, and 15 for a result outside .." and "the first offending reading decides": the readings in the tape's order
unfoldable pub entry_checks : List Entry → List Check
entry_checks [] = []
entry_checks (e ∷ es) =
    let n = refusal_in (centimetres_of e.reading) in
    check 14 (eqb n 14) ∷ check 15 (eqb n 15) ∷ entry_checks es

-- "both come right after 2"
unfoldable pub scan_checks : List ℕ → List Check
scan_checks tape = check 1 (too_long tape) ∷ check 2 (is_none (campaign tape)) ∷ entry_checks (entries_in (form tape))

unfoldable pub scan_refusal : List ℕ → ℕ
scan_refusal tape = first (scan_checks tape)

-- "the number of commands read, which is the number that the tape has": 41s, the 42, points and the 45
abbrev pub command_count : Option (List Command) → ℕ
command_count none = 0
command_count (some cs) = length cs

-- what a scan tells of m commands and a campaign: how many axes there are, which can pass the limit, the first lengths, p,
-- "the number of points, a 52 counting as often as it repeats", and of commands
abbrev pub scan_of : ℕ → Campaign → Scan
scan_of m c = record { axes = length c.lengths; lengths = padded c.lengths; p = c.p; points = length c.points; commands = m }

-- what a scan of a tape that is taken tells
abbrev pub scan_in : List ℕ → Scan
scan_in tape = scan_of (command_count (commands tape)) (or_empty (campaign tape))

-- the same, or a refusal
unfoldable pub scanned_as : ℕ → ℕ → Campaign → Reply Scan
scanned_as n m c = answered n (scan_of m c)

unfoldable pub scanning : List ℕ → Reply Scan
scanning tape = scanned_as (scan_refusal tape) (command_count (commands tape)) (or_empty (campaign tape))

-- ---- reading: the points

-- 11. "the tape reader's slice is too short for the points"
unfoldable pub short_slice : Campaign → ℕ → Bool
short_slice c n = ltb n (length c.points)

unfoldable pub reading_checks : List ℕ → ℕ → List Check
reading_checks tape slice = scan_checks tape ++ (check 11 (short_slice (or_empty (campaign tape)) slice) ∷ [])

unfoldable pub reading_refusal : List ℕ → ℕ → ℕ
reading_refusal tape slice = first (reading_checks tape slice)

-- "Reading puts the points at the start of a lent slice and does not touch the cells after them."
unfoldable pub filled_or : ℕ → List ℤ → List ℤ → List ℤ
filled_or zero points slice = points ++ drop (length points) slice
filled_or (suc n) points slice = slice

unfoldable pub reading : List ℕ → List ℤ → List ℤ
reading tape slice = filled_or (reading_refusal tape (length slice)) (or_empty (campaign tape)).points slice
