-- `put_head` puts the 42 after the 41s.
use Rattle.std.proofs.Common.{◌∙◌, arith}
use Rattle.practice_draw.proofs.Putting.{head_put}
use Rattle.practice_draw.proofs.tapes.put_head.Goals as goal

pub returns : goal.returns
returns c =
    let x = c.put_axes-at in
    let a = c.args in
    (omega arith, c.put_command.ensures ∙ head_put a.out.now x.new.out a.lengths.now a.p x.result x.ensures.0 x.ensures.1)
