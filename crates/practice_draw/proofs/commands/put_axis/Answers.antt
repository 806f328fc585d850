-- `put_axis` puts a 41's operand.
use Rattle.std.proofs.Common.{◌∷◌, take, ap, ◌∙◌}
use Rattle.std.proofs.lemmas.List.Edits.{sets}
use Rattle.tape_spec.specs.Writing.{axis_command, bytes}
use Rattle.practice_draw.proofs.commands.put_axis.Goals as goal

pub returns : goal.returns
unfolding axis_command bytes
returns c = let a = c.args in c.put_command.ensures ∙ ap (λ x. sets a.out.now a.at (65 ∷ take 2 x)) c.to_le_bytes.ensures
