-- Where the program stops: after the last line, or at a write that fails.
use Prim.Native.Nat.{ℕ, ◌≤◌, ◌<◌}
use mathlib.Core.Path.{◌≡◌, ◌∙◌, ap}
use mathlib.Core.Bool.{Bool, false}
use mathlib.Core.List.{List}
use native.Mathlib.Omega.{arith}
use borrow.Author.Tests.{ltb-true, ltb-false}
use lib.Dec.{ltb}
use lib.ListN.{length, take}
use lib.Seq.{take_all}
use Rattle.std.specs.Prelude.{Result, Ok, Err}
use Rattle.cube_spec.specs.Limits.{tape_limit}
use Rattle.cube_spec.proofs.Sums.{by}
use Rattle.report_spec.specs.Printed.{printed_lines, line_at, joined, printed}
use Rattle.report_spec.proofs.Beginnings.{lines_begun}
use Rattle.totals_line.proofs.Lined.{line_some}
use Rattle.totals.specs.declared.types.Stopped.{Stopped}
use Rattle.totals.specs.Endings.{Ends, ReadFrom}
use Rattle.totals.proofs.Handed.{line_filled}

-- a line of no bytes comes after the last one
none_left : (tape : List ℕ) (k n : ℕ) → n ≡ length (line_at tape k) → n ≡ 0 → length (printed_lines tape) ≤ k
none_left tape k n e z = by (ltb k (length (printed_lines tape)))
    (λ t. absurd (let f = line_filled tape k (ltb-true k (length (printed_lines tape)) t) in omega arith))
    (λ t. ltb-false k (length (printed_lines tape)) t)

-- all lines were taken
pub ends_whole : (tape : List ℕ) (k n : ℕ) → k ≤ length (printed_lines tape) → n ≡ length (line_at tape k) → n ≡ 0 → Ends tape (Ok k)
ends_whole tape k n h e z = let m = none_left tape k n e z in omega arith

-- the line that was not taken is left
pub ends_cut : (tape : List ℕ) (k n : ℕ) (t : Bool) → n ≡ length (line_at tape k) → (n ≡ 0 → ⊥) → t ≡ false → Ends tape (Err (record { lines = k; taken = t }))
ends_cut tape k n t e h f = (line_some tape k n e h, f)

-- THE INPUT IN PLACE OF WHAT WAS READ OF IT: where there is room for more bytes than a tape may have, the report is that of the whole input.
pub ends_input : (space input : List ℕ) (n : ℕ) (w : Result ℕ Stopped) → tape_limit < length space → ReadFrom input space n → Ends (take n space) w → Ends input w
ends_input space input n w h e s = ends w s
  where
    many : length (printed_lines (take n space)) ≡ length (printed_lines input)
    many = ap (λ t. length (printed_lines t)) e ∙ ap length (lines_begun (length space) input h)

    ends : (w : Result ℕ Stopped) → Ends (take n space) w → Ends input w
    ends (Ok lines) s = s ∙ many
    ends (Err stopped) s = (let m = many in let l = s.0 in omega arith, s.1)

-- WHERE NO WRITE FAILED, THE LINES TAKEN ARE THE PRINTED OUTPUT, one after the other, byte for byte.
pub whole_printed : (tape : List ℕ) (lines : ℕ) → Ends tape (Ok lines) → joined (take lines (printed_lines tape)) ≡ printed tape
unfolding printed
whole_printed tape lines n = ap joined (take_all lines (printed_lines tape) (omega arith))
