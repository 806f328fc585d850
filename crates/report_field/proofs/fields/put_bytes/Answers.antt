use Rattle.std.proofs.Common.{refl, arith}
use Rattle.report_field.proofs.Spelling.{put_whole}
use Rattle.report_field.proofs.fields.put_bytes.Goals as goal

pub returns : goal.returns
returns c = (refl, put_whole c.args.out.now _ c.args.bytes.now c.args.at _ c.requires c.copy_from_slice.ensures.after (omega arith))
