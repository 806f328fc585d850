-- `put_tape` puts the tape of the shape that is drawn.
use Rattle.std.proofs.Common.{ap, ◌∙◌, arith}
use Rattle.std.proofs.lemmas.List.Edits.{sets}
use Rattle.practice_draw.proofs.Putting.{shape_slots, shape_short, tape_is, tape_length}
use Rattle.practice_draw.proofs.tapes.put_tape.Goals as goal

pub put_shape-requires : goal.put_shape-requires
put_shape-requires c =
    let seed = c.args.seed in
    let h = c.shape_of in
    let s = shape_short seed h.result h.ensures in
    (shape_slots seed h.result h.ensures, omega arith)

pub returns : goal.returns
returns c =
    let s = c.args in
    let h = c.shape_of in
    let p = c.put_shape in
    let n = tape_length s.seed h.result h.ensures in
    let f = shape_short s.seed h.result h.ensures in
    (omega arith, omega arith, p.ensures.1 ∙ ap (sets s.out.now 0) (tape_is s.seed h.result h.ensures))
