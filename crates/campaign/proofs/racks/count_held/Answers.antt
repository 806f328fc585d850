-- `campaign::racks::count_held` meets its contract.
use Rattle.std.proofs.lemmas.Result.{err_from_is_err_and}
use Rattle.campaign_slices.proofs.Racking as racking
use Rattle.campaign.proofs.racks.count_held.Goals as goal

pub returns-in_err-held : goal.returns-in_err-held
returns-in_err-held c =
    let p = err_from_is_err_and c.from_residual.result c.from_residual.ensures.1 in
    rw (p.1, p.2) (racking.held_refused _ _ _ _ _ c.in_err-held.ensures)

pub returns : goal.returns
returns c = racking.held_given _ _ _ _ _ c.in_ok-held.ensures _ _ c.put_number.ensures
