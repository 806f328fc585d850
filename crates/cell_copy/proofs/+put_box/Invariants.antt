-- the first x parts of the box are copied; the measure of the calls is the number of axes
use Rattle.std.proofs.Common.{◌≡◌, ◌-◌, ◌+◌, ◌*◌}
use Rattle.cell_spec.specs.Rows.{from, placed}
use Rattle.cell_spec.specs.Strides.{box_size, box_place}
use Rattle.cell_copy.proofs.+put_box.Given as goal

abbrev pub invariant-loop-x : goal.invariant-loop-x
invariant-loop-x l =
    let done = l.x * box_size l.extents (l.m - 1) (l.d + 1) in
    (l.next ≡ l.src + done) × (l.res ≡ placed l.initial.res done (box_place l.extents l.strides l.m l.d l.at) (from l.work l.src))

abbrev pub decreases-put_box : goal.decreases-put_box
decreases-put_box l = l.m
