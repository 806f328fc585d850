-- Names every definition, so that a fact that computes with them says `unfolding computing`.
use Rattle.std.specs.Prelude.{ℕ}
use Rattle.report_spec.specs.Text
use Rattle.report_spec.specs.Printed
use Rattle.tape_spec.specs.Computing as tape_spec
use Rattle.run_spec.specs.Computing as runs

unfoldable pub computing : ℕ
unfolding Text.text Text.digits Text.decimal Text.signed Printed.too_large Printed.program_checks Printed.program_refusal Printed.fields Printed.numbers Printed.signeds Printed.plan_line Printed.dim_line Printed.dim_lines Printed.group_line Printed.group_lines Printed.end_line Printed.refused_line Printed.ended Printed.report Printed.report_or Printed.printed_lines Printed.line_at Printed.joined Printed.printed tape_spec.computing runs.computing
computing = 0
