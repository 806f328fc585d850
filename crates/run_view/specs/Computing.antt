-- Names every definition, so that a fact that computes with them says `unfolding computing`.
use Rattle.std.specs.Prelude.{ℕ}
use Rattle.run_view.specs.Places
use Rattle.run_spec.specs.Computing as runs

unfoldable pub computing : ℕ
unfolding Places.part_of runs.computing
computing = 0
