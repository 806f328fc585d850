-- the first i values have been added
use Rattle.std.proofs.Common.{◌≡◌, map}
use Rattle.cell_spec.specs.Rows.{from, written, added_to}
use Rattle.cell_row.proofs.adding.add_values.Given as goal

abbrev pub invariant-loop-i : goal.invariant-loop-i
invariant-loop-i g l = l.work ≡ written l.initial.work l.dst l.i (added_to l.initial.work l.dst (from (map g.T.Addend.value l.values) l.src))
