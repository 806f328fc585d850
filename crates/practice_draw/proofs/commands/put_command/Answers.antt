-- `put_command` puts the operand after the command's byte.
use Rattle.std.proofs.Common.{◌+◌, set, ◌∙◌, arith, length-set}
use Rattle.report_field.proofs.Spelling.{put_whole, sets_first}
use Rattle.practice_draw.proofs.commands.put_command.Goals as goal

pub returns : goal.returns
returns c =
    let a = c.args in
    put_whole (set a.out.now a.at a.command) c.copy_from_slice.new.self a.operand.now (a.at + 1) _ (omega (arith, length-set a.out.now a.at a.command)) c.copy_from_slice.ensures.after (omega arith)
    ∙ sets_first a.out.now a.at a.command a.operand.now
