use mathlib.Core.Path.{sym}
use native.Mathlib.Omega.{arith}
use Rattle.plan_spec.proofs.Judging.{points_start, points_next, points_past, points_end}
use Rattle.plan_check.proofs.too_many_points.Goals as goal

pub loop-length-init : goal.loop-length-init
loop-length-init c = (omega arith, points_start c.args.lengths.now c.requires)

pub returns-then-points-gt16777216 : goal.returns-then-points-gt16777216
returns-then-points-gt16777216 c =
    let i = c.loop-length.invariant in
    sym (points_past c.args.lengths.now c.requires c.loop-length.points c.loop-length.length-index c.loop-length-test.true i.0 i.1 (rw c.from-points.ensures at c.if-points-gt16777216.true))

pub loop-length-preserved : goal.loop-length-preserved
loop-length-preserved c =
    let i = c.loop-length.invariant in
    (c.if-points-gt16777216.false, rw c.from-points.ensures (points_next c.args.lengths.now c.requires c.loop-length.points c.loop-length.length-index c.loop-length-test.true i.0 i.1))

pub returns : goal.returns
returns c =
    let i = c.loop-length.invariant in
    sym (points_end c.args.lengths.now c.requires c.loop-length.points c.loop-length.length-index c.loop-length-test.false i.0 i.1)
