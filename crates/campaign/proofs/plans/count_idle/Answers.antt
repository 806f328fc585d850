-- `campaign::plans::count_idle` meets its contract.
use Rattle.std.proofs.lemmas.Result.{err_from_is_err_and}
use Rattle.campaign.proofs.Calling as calling
use Rattle.campaign.proofs.plans.count_idle.Goals as goal

pub returns-in_err-found : goal.returns-in_err-found
returns-in_err-found c =
    let p = err_from_is_err_and c.from_residual.result c.from_residual.ensures.1 in
    rw (p.1, p.2) (calling.idle_refused _ _ _ _ c.in_err-found.ensures)

pub returns : goal.returns
returns c = calling.idle_given _ _ _ _ c.in_ok-found.ensures _ _ (rw c.from.ensures at c.put_number.ensures)
