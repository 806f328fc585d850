-- the first i cells are copied
use Rattle.std.proofs.Common.{◌≡◌}
use Rattle.cell_spec.specs.Rows.{from, written}
use Rattle.cell_copy.proofs.put_row.Given as goal

abbrev pub invariant-loop-i : goal.invariant-loop-i
invariant-loop-i l = l.res ≡ written l.initial.res l.at l.i (from l.work l.src)
