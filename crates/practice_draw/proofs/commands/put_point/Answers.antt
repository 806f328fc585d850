-- `put_point` puts a 56's operand: the point modulo 2^32.
use Rattle.std.proofs.Common.{◌∷◌, ap, ◌∙◌}
use Rattle.std.proofs.lemmas.List.Edits.{sets}
use Rattle.practice_draw.proofs.Putting.{word_bytes, point_bits}
use Rattle.tape_spec.specs.Writing.{point_command, bytes}
use Rattle.practice_draw.proofs.commands.put_point.Goals as goal

pub returns : goal.returns
unfolding point_command
returns c =
    let a = c.args in
    c.put_command.ensures ∙ ap (λ x. sets a.out.now a.at (0x56 ∷ x)) (c.to_le_bytes.ensures ∙ word_bytes _ ∙ ap (bytes 4) (point_bits a.draw))
