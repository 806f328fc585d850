use Rattle.report_spec.specs.Text.{text}
use Rattle.report_spec.specs.Printed.{numbers, end_line}
use Rattle.report_line.proofs.reports.end_line.Goals as goal

pub returns : goal.returns
unfolding text numbers end_line
returns c = c.put_line.ensures
