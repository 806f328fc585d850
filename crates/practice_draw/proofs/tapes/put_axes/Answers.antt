use Rattle.std.proofs.Common.{◌∙◌, refl, arith, ◌*◌}
use Rattle.tape_spec.specs.Writing.{axis_command}
use Rattle.practice_draw.proofs.Putting.{none_put, axis_put}
use Rattle.practice_draw.proofs.tapes.put_axes.Goals as goal

pub loop-d-init : goal.loop-d-init
loop-d-init c = none_put axis_command c.args.out.now 0

pub loop-d-preserved : goal.loop-d-preserved
loop-d-preserved c =
    let l = c.loop-d in
    c.put_axis.ensures ∙ axis_put c.args.out.now l.out c.args.lengths.now l.d (3 * l.d) (omega arith) refl l.invariant
