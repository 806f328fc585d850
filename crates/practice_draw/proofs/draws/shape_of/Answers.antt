use Rattle.std.proofs.Common.{arith}
use Rattle.practice_draw.proofs.Shaping.{draws_none, product_fits, draws_next, shape_whole}
use Rattle.practice_draw.proofs.draws.shape_of.Goals as goal

pub loop-d-init : goal.loop-d-init
loop-d-init c = draws_none c.next-state.result

pub overflow_mul-points : goal.overflow_mul-points
overflow_mul-points c = record { fits = product_fits c.loop-d.invariant c.next-state-in-loop-d.result (omega arith) }

pub loop-d-preserved : goal.loop-d-preserved
loop-d-preserved c = draws_next c.loop-d.invariant c.next-state-in-loop-d.result (omega arith) c.next-state-in-loop-d.ensures

pub returns : goal.returns
returns c = let l = c.loop-d in
    let m = rw c.from.ensures at c.room_of.ensures in
    let x = c.next-draw in
    let p = c.power_by in
    shape_whole c.args.seed c.next-state.result l.d l.state l.lengths l.points c.room_of.result x.result p.result
    c.next-state.ensures (omega arith) l.invariant m x.ensures p.ensures
