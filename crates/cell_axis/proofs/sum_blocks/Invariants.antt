-- the first o blocks of the child are written
use Rattle.std.proofs.Common.{◌≡◌, ◌*◌}
use Rattle.cell_spec.specs.Rows.{from, written, axis_sums}
use Rattle.cell_axis.proofs.sum_blocks.Given as goal

abbrev pub invariant-loop-o : goal.invariant-loop-o
invariant-loop-o l = l.child ≡ written l.initial.child 0 (l.o * l.inner) (axis_sums (from l.parent l.src) l.extent l.inner)
