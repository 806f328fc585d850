-- `campaign::runs::run` meets its contract.
use Rattle.std.proofs.Common.{sym}
use Rattle.std.proofs.lemmas.Result.{err_from_is_err_and}
use Rattle.run_spec.proofs.Stepped.{passed}
use Rattle.campaign.proofs.Calling as calling
use Rattle.campaign.proofs.runs.run.Goals as goal

pub returns-in_err-check_step : goal.returns-in_err-check_step
returns-in_err-check_step c =
    let p = err_from_is_err_and c.from_residual.result c.from_residual.ensures.1 in
    rw (p.1, p.2) (calling.run_refused _ c.args.array.now _ _ _ _ c.in_err-check_step.ensures)

pub returns-then-step-ne5 : goal.returns-then-step-ne5
returns-then-step-ne5 c = calling.not_run _ c.args.array.now _ _ _ (sym c.in_ok-check_step.ensures) c.if-step-ne5.true

pub tallies_of-tallies-requires : goal.tallies_of-tallies-requires
tallies_of-tallies-requires c = let p = passed _ _ _ _ (sym c.in_ok-check_step.ensures) in p.plan

pub returns : goal.returns
returns c = calling.run _ _ _ _ _ (sym c.in_ok-check_step.ensures) c.if-step-ne5.false _ _ _ c.take.ensures _ _ c.put_step.ensures
