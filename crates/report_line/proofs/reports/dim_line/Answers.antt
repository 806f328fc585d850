use Rattle.report_spec.specs.Text.{text}
use Rattle.report_line.specs.Reports.{plan_text, dim_text}
use Rattle.report_line.proofs.reports.dim_line.Goals as goal

pub returns : goal.returns
unfolding text plan_text dim_text
returns c = rw (c.from.ensures, c.from-2.ensures, c.from-3.ensures, c.from-a.ensures) at c.put_line.ensures
