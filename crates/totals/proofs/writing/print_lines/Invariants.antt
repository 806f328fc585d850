-- `totals::writing::print_lines` stops where `Ends` says, and ends: each turn hands out a line more, and there are finitely many.
-- The invariant: the report stands after so many lines, which are no more than it has.
use Prim.Native.Nat.{◌-◌, ◌≤◌}
use mathlib.Core.Path.{◌≡◌}
use lib.ListN.{length}
use Rattle.report_spec.specs.Printed.{printed_lines}
use Rattle.totals_line.specs.Standing.{Stands}
use Rattle.totals.proofs.writing.print_lines.Given as goal

abbrev pub invariant-loop-judged : goal.invariant-loop-judged
invariant-loop-judged l = Stands l.tape l.judged l.lines l.points l.work l.position × (l.lines ≤ length (printed_lines l.tape)) × (length l.work ≡ length l.initial.work) × (length l.cells ≡ 8192) × (length l.out ≡ 172064)

abbrev pub decreases-loop-judged : goal.decreases-loop-judged
decreases-loop-judged l = length (printed_lines l.tape) - l.lines
