-- `campaign::runs::place` meets its contract.
use Rattle.std.proofs.Common.{sym}
use Rattle.std.proofs.lemmas.Result.{err_from_is_err_and}
use Rattle.run_spec.proofs.Shown.{showing}
use Rattle.campaign.proofs.Calling as calling
use Rattle.campaign.proofs.runs.place.Goals as goal

pub returns-in_err-check_view : goal.returns-in_err-check_view
returns-in_err-check_view c =
    let p = err_from_is_err_and c.from_residual.result c.from_residual.ensures.1 in
    rw (p.1, p.2) (calling.part_refused _ _ _ _ _ _ c.in_err-check_view.ensures)

pub part_of-found-requires : goal.part_of-found-requires
part_of-found-requires c = let p = showing _ _ _ _ (sym c.in_ok-check_view.ensures) in (p.plan, p.board)

pub returns : goal.returns
returns c = calling.part_given _ _ _ _ _ (sym c.in_ok-check_view.ensures) _ c.part_of-found.ensures.0 _ _ c.put_pair.ensures
