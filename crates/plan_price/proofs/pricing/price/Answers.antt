-- `plan_price::pricing::price` meets its contract: the refusal, or the prices with the mark.
use mathlib.Core.Path.{sym}
use Rattle.std.proofs.lemmas.Result.{err_from_is_err_and}
use Rattle.cube_spec.proofs.Answered.{given, error}
use Rattle.plan_spec.specs.Plans.{lists_of}
use Rattle.plan_spec.specs.Refusals.{plan_refusal}
use Rattle.plan_spec.specs.Answers.{pricing, marked_of}
use Rattle.plan_price.proofs.pricing.price.Goals as goal

pub returns-in_err-check_plan : goal.returns-in_err-check_plan
unfolding pricing
returns-in_err-check_plan c =
    let q = c.args.plan in
    let p = err_from_is_err_and c.from_residual.result c.from_residual.ensures.1 in
    rw (p.1, p.2) (error c.in_err-check_plan.field-0.0 (plan_refusal q) (marked_of (lists_of q)) c.in_err-check_plan.ensures)

pub returns : goal.returns
unfolding pricing marked_of
returns c =
    let q = c.args.plan in
    rw (c.prices.ensures, c.fewest.ensures) (given (plan_refusal q) (marked_of (lists_of q)) (sym c.in_ok-check_plan.ensures))
