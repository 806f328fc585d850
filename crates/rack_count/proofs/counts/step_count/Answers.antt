use Rattle.std.proofs.Common.{sym}
use Rattle.std.proofs.lemmas.Result.{err_from_is_err_and}
use Rattle.cube_spec.proofs.Answered.{given, error}
use Rattle.plan_spec.specs.Plans.{lists_of, step_count}
use Rattle.plan_spec.specs.Refusals.{plan_refusal}
use Rattle.rack_spec.specs.Answers.{counting}
use Rattle.rack_count.proofs.counts.step_count.Goals as goal

pub returns-in_err-check_plan : goal.returns-in_err-check_plan
unfolding counting
returns-in_err-check_plan c =
    let p = err_from_is_err_and c.from_residual.result c.from_residual.ensures.1 in
    rw (p.1, p.2) (error c.in_err-check_plan.field-0.0 (plan_refusal c.args.plan) (step_count (lists_of c.args.plan)) c.in_err-check_plan.ensures)

pub returns : goal.returns
unfolding counting
returns c = rw c.steps_of.ensures (given (plan_refusal c.args.plan) (step_count (lists_of c.args.plan)) (sym c.in_ok-check_plan.ensures))
