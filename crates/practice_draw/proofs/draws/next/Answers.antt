-- `next` is one round: the machine's shifts and exclusive or are those of the definition.
use Rattle.std.proofs.Common.{refl}
use Rattle.practice_spec.specs.Draws.{left_by, right_by, round}
use Rattle.practice_draw.proofs.draws.next.Goals as goal

pub returns : goal.returns
unfolding round left_by right_by
returns c = refl
