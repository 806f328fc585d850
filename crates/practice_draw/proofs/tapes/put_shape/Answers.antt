-- `put_shape` puts the 56s after the head, and then the 45.
use Rattle.std.proofs.Common.{take, arith, length-take-le}
use Rattle.practice_spec.specs.Draws.{drawn, point_by}
use Rattle.practice_spec.proofs.Drawn.{drawn_length}
use Rattle.practice_draw.proofs.Putting.{whole_put}
use Rattle.practice_draw.proofs.tapes.put_shape.Goals as goal

pub returns : goal.returns
returns c =
    let q = c.put_points-end in
    let h = rw c.from.ensures at c.put_head-from.ensures in
    let x = c.args.shape in
    let n = length-take-le x.axes x.lengths c.requires.0 in
    let m = drawn_length point_by x.points x.state in
    let w = whole_put c.args.out.now c.put_head-from.new.out q.new.out (take x.axes x.lengths) x.p (drawn point_by x.points x.state) c.put_head-from.result q.result h.0 (omega arith) h.1 q.ensures.1 in
    (omega (arith, h.0), w)
