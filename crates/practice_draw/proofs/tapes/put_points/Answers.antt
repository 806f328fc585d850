use Rattle.std.proofs.Common.{ap, ◌∙◌, arith}
use Rattle.practice_spec.proofs.Drawn.{after_next}
use Rattle.practice_spec.specs.Draws.{round}
use Rattle.practice_draw.proofs.Putting.{after_none, points_none_put, point_put}
use Rattle.practice_draw.proofs.tapes.put_points.Goals as goal

pub loop-i-init : goal.loop-i-init
loop-i-init c = let s = c.args in (omega arith, after_none s.start, points_none_put s.out.now s.from s.start)

pub loop-i-preserved : goal.loop-i-preserved
loop-i-preserved c =
    let l = c.loop-i in
    let s = c.args in
    let n = c.next-state in
    let e = n.ensures ∙ ap round l.invariant.1 in
    let p = c.put_point.ensures ∙ point_put s.out.now l.out s.from l._i l.at s.start n.result l.invariant.0 e l.invariant.2 in
    (omega arith, e ∙ after_next l._i s.start, p)
