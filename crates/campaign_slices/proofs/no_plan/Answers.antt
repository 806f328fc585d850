-- `campaign_slices::no_plan` meets its contract.
use mathlib.Core.Path.{refl}
use Rattle.cube_spec.specs.Limits.{padded}
use Rattle.plan_spec.specs.Plans.{slotted}
use Rattle.campaign_slices.specs.Racks.{no_plan}
use Rattle.campaign_slices.proofs.no_plan.Goals as goal

pub returns : goal.returns
unfolding no_plan slotted padded
returns c = refl
