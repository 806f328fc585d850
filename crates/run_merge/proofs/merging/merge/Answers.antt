use native.Mathlib.Omega.{arith}
use Rattle.cell_spec.proofs.Merging.{axis_put, first_axis, first_then_lem}
use Rattle.run_merge.proofs.merging.merge.Goals as goal

pub merge_first-k-requires : goal.merge_first-k-requires
merge_first-k-requires c =
    let ok = c.requires in
    let s = c.loop-d.invariant in
    let h = c.loop-d-test.true in
    first_axis ok (axis_put ok s h) (omega (arith, s.least, s.axes))

pub loop-d-preserved : goal.loop-d-preserved
loop-d-preserved c =
    let ok = c.requires in
    let h = c.loop-d-test.true in
    first_then_lem ok (axis_put ok c.loop-d.invariant h) c.merge_first-k.ensures
