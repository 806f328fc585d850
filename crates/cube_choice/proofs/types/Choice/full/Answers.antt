use Rattle.std.proofs.Common.{arith}
use Rattle.std.proofs.lemmas.Nat.{one_shl}
use Rattle.cube_spec.specs.Choices.{full_mask}
use Rattle.cube_choice.proofs.types.Choice.full.Goals as goal

pub returns : goal.returns
unfolding full_mask
returns c = rw (one_shl c.min.result 16 (omega arith), c.min.ensures)
