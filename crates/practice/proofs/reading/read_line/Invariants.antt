-- `read_line` reads byte after byte. The invariant: those read are digits, and the other cells are kept.
use Rattle.practice.proofs.Opened.{Read}
use Rattle.practice.proofs.reading.read_line.Given as goal

abbrev pub invariant-loop-used : goal.invariant-loop-used
invariant-loop-used l = Read l.initial.space l.space l.used
