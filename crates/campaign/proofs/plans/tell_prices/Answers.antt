-- `campaign::plans::tell_prices` meets its contract.
use Rattle.std.proofs.lemmas.Result.{err_from_is_err_and}
use Rattle.campaign_slices.proofs.Racking as racking
use Rattle.campaign.proofs.plans.tell_prices.Goals as goal

pub returns-in_err-price : goal.returns-in_err-price
returns-in_err-price c =
    let p = err_from_is_err_and c.from_residual.result c.from_residual.ensures.1 in
    rw (p.1, p.2) (racking.price_refused _ _ _ c.in_err-price.ensures)

pub returns : goal.returns
returns c = racking.price_given _ _ _ c.in_ok-price.ensures _ _ c.put_marked.ensures
