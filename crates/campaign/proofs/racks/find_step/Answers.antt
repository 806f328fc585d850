-- `campaign::racks::find_step` meets its contract: the plan's refusal, a position past the end, and one that is not.
use Rattle.std.proofs.Common.{sym}
use Rattle.std.proofs.lemmas.Result.{err_from_is_err_and}
use Rattle.campaign_slices.proofs.Racking as racking
use Rattle.campaign.proofs.racks.find_step.Goals as goal

pub returns-in_err-check_plan : goal.returns-in_err-check_plan
returns-in_err-check_plan c =
    let p = err_from_is_err_and c.from_residual.result c.from_residual.ensures.1 in
    rw (p.1, p.2) (racking.at_refused _ _ _ _ c.in_err-check_plan.ensures)

pub returns-then-steps_by-position : goal.returns-then-steps_by-position
returns-then-steps_by-position c =
    racking.at_past _ _ _ (sym c.in_ok-check_plan.ensures) (rw c.steps_by.ensures at c.if-steps_by-position.true)

pub returns : goal.returns
returns c =
    racking.at_given _ _ _ (sym c.in_ok-check_plan.ensures) (rw c.steps_by.ensures at c.if-steps_by-position.false) _ c.step_by.ensures _ _ c.put_step.ensures
