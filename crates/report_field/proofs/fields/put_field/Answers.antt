use Rattle.std.proofs.Common.{◌∙◌}
use Rattle.report_field.proofs.Spelling.{space}
use Rattle.report_field.proofs.fields.put_field.Goals as goal

pub returns : goal.returns
returns g c = let k = c.put_number.ensures in (k.0, k.1 ∙ space c.args.out.now c.args.at (g.T.Spelled.spelling c.args.n))
