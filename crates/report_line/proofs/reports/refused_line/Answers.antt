use Rattle.report_spec.specs.Text.{text}
use Rattle.report_spec.specs.Printed.{numbers, refused_line}
use Rattle.report_line.proofs.reports.refused_line.Goals as goal

pub returns : goal.returns
unfolding text numbers refused_line
returns c = rw c.from.ensures at c.put_line.ensures
