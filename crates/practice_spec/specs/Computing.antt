-- Names every definition, so that a fact that computes with them says `unfolding computing`.
use Rattle.std.specs.Prelude.{ℕ}
use Rattle.practice_spec.specs.Draws
use Rattle.practice_spec.specs.Seeds
use Rattle.practice_spec.specs.Exercises
use Rattle.report_spec.specs.Computing as report

unfoldable pub computing : ℕ
unfolding Draws.left_by Draws.right_by Draws.round Draws.after Draws.drawn Draws.axes_of Draws.length_by Draws.lengths_of Draws.power_draw Draws.power_of Draws.point_by Draws.points_of Draws.practice Draws.tape_of Seeds.is_digit Seeds.digits_of Seeds.after_digits Seeds.seed_line Seeds.value Seeds.seed_of Seeds.bad_seed Seeds.practice_checks Seeds.practice_refusal Seeds.practised_or Seeds.practised Exercises.spelt report.computing
computing = 0
