-- `campaign::racks::count_steps` meets its contract.
use Rattle.std.proofs.lemmas.Result.{err_from_is_err_and}
use Rattle.campaign_slices.proofs.Racking as racking
use Rattle.campaign.proofs.racks.count_steps.Goals as goal

pub returns-in_err-step_count : goal.returns-in_err-step_count
returns-in_err-step_count c =
    let p = err_from_is_err_and c.from_residual.result c.from_residual.ensures.1 in
    rw (p.1, p.2) (racking.count_refused _ _ _ c.in_err-step_count.ensures)

pub returns : goal.returns
returns c = racking.count_given _ _ _ c.in_ok-step_count.ensures _ _ c.put_number.ensures
