-- Names every definition, so that a fact that computes with them says `unfolding computing`.
use Rattle.std.specs.Prelude.{ℕ}
use Rattle.campaign.specs.Calls
use Rattle.campaign_slices.specs.Computing as campaign_slices
use Rattle.run_view.specs.Computing as run_view
use Rattle.controller.specs.Computing as controller

unfoldable pub computing : ℕ
unfolding Calls.wrong_slices Calls.make_refusal Calls.made_or Calls.making Calls.read_back Calls.idle_refusal Calls.idling Calls.run_refusal Calls.ran_or Calls.running Calls.part_refusal Calls.parting campaign_slices.computing run_view.computing controller.computing
computing = 0
