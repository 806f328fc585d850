-- Where the program stops.
use Rattle.std.specs.Prelude.{ℕ, ◌<◌, ◌≡◌, false, List, length, take, Result, Ok, Err}
use Rattle.report_spec.specs.Printed.{printed_lines}
use Rattle.totals.specs.declared.types.Stopped.{Stopped}

-- It stops after the last line of the tape's report, and before that only with the answer that a write failed: then there was a line left to write, and it was not taken.
abbrev pub Ends : List ℕ → Result ℕ Stopped → Type 0
Ends tape (Ok lines) = lines ≡ length (printed_lines tape)
Ends tape (Err stopped) = (stopped.lines < length (printed_lines tape)) × (stopped.taken ≡ false)

-- The first n bytes of a space are what was read of an input: all of it, or as much as there is room for.
abbrev pub ReadFrom : List ℕ → List ℕ → ℕ → Type 0
ReadFrom input space n = take n space ≡ take (length space) input

-- Whatever input they were read from, it stops where that input's report does.
abbrev pub EndsAfter : List ℕ → ℕ → Result ℕ Stopped → Type 0
EndsAfter space n w = (input : List ℕ) → ReadFrom input space n → Ends input w
