-- `campaign::plans::make` meets its contract.
use Rattle.std.proofs.lemmas.Result.{err_from_is_err_and}
use Rattle.campaign.proofs.Calling as calling
use Rattle.campaign.proofs.plans.make.Goals as goal
use Rattle.campaign.proofs.plans.make.Goals.{then-small-ne18-via-then-small-ne18, then-small-ne18-via-else-small-ne18+then-slots-ne8, then-small-ne18-via-else-small-ne18+else-slots-ne8+then-cells-ne4}

pub returns-in_err-found : goal.returns-in_err-found
returns-in_err-found c =
    let p = err_from_is_err_and c.from_residual.result c.from_residual.ensures.1 in
    rw (p.1, p.2) (calling.make_refused _ _ _ _ _ _ c.in_err-found.ensures)

pub returns-then-small-ne18 : goal.returns-then-small-ne18
returns-then-small-ne18 c =
    let f = c.in_ok-found.ensures in
    elim c.then-small-ne18.branch [
      | then-small-ne18-via-then-small-ne18 w ↦ calling.wrong_small _ _ _ _ _ _ f w.if-small-ne18.true
      | then-small-ne18-via-else-small-ne18+then-slots-ne8 w ↦ calling.wrong_slots _ _ _ _ _ _ f w.if-small-ne18.false w.if-slots-ne8.true
      | then-small-ne18-via-else-small-ne18+else-slots-ne8+then-cells-ne4 w ↦ calling.wrong_cells _ _ _ _ _ _ f w.if-small-ne18.false w.if-slots-ne8.false w.if-cells-ne4.true
    ]

pub returns : goal.returns
returns c =
    calling.make_given _ _ _ _ _ _ c.in_ok-found.ensures c.if-small-ne18.false c.if-slots-ne8.false c.if-cells-ne4.false _ _ _ _ c.put_plan.ensures (rw c.from.ensures at c.put_prices.ensures)
