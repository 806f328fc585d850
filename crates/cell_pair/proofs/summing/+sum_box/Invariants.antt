-- the sums and counts of the first x parts are written; the measure of the calls is the number of axes
use Rattle.std.proofs.Common.{◌≡◌, ◌-◌, ◌+◌, ◌*◌}
use Rattle.cube_spec.specs.Shots.{values, shots}
use Rattle.cell_spec.specs.Rows.{written}
use Rattle.cell_spec.specs.Strides.{box_size, box_sums}
use Rattle.cell_pair.proofs.summing.+sum_box.Given as goal

abbrev pub invariant-loop-x : goal.invariant-loop-x
invariant-loop-x l =
    let done = l.x * box_size l.extents (l.m - 1) (l.d + 1) in
    (l.to ≡ l.dst + done)
    × (l.work ≡ written l.initial.work l.dst done (box_sums (values l.array) l.extents l.strides l.m l.d l.at l.n l.step))
    × (l.counts ≡ written l.initial.counts l.dst done (box_sums (shots l.array) l.extents l.strides l.m l.d l.at l.n l.step))

abbrev pub decreases-sum_box : goal.decreases-sum_box
decreases-sum_box l = l.m
