use Rattle.std.proofs.Common.{sym, ◌∙◌}
use Rattle.std.proofs.lemmas.Result.{err_from_is_err_and}
use Rattle.rack_spec.proofs.Refusing.{some_due}
use Rattle.run_spec.proofs.Refusing.{step_due, step_points, step_area, step_past, step_passed}
use Rattle.run_check.proofs.check_step.Goals as goal

pub returns-in_err-check_plan : goal.returns-in_err-check_plan
returns-in_err-check_plan c =
    let p = err_from_is_err_and c.from_residual.result c.from_residual.ensures.1 in
    let e = c.in_err-check_plan.ensures in
    rw (p.1, p.2) (e ∙ step_due c.args.plan c.args.array c.args.work c.args.at (some_due c.in_err-check_plan.field-0.0 e))

pub returns-then-points_of-array : goal.returns-then-points_of-array
returns-then-points_of-array c =
    step_points c.args.plan c.args.array c.args.work c.args.at (sym c.in_ok-check_plan.ensures) (rw c.points_of.ensures at c.if-points_of-array.true)

pub returns-then-work-area_of : goal.returns-then-work-area_of
returns-then-work-area_of c =
    let p = sym c.points_of.ensures ∙ c.if-points_of-array.false in
    step_area c.args.plan c.args.array c.args.work c.args.at (sym c.in_ok-check_plan.ensures) p (rw c.area_of.ensures.0 at c.if-work-area_of.true)

pub returns-then-steps_of-at : goal.returns-then-steps_of-at
returns-then-steps_of-at c =
    let p = sym c.points_of.ensures ∙ c.if-points_of-array.false in
    step_past c.args.plan c.args.array c.args.work c.args.at (sym c.in_ok-check_plan.ensures) p (rw c.area_of.ensures.0 at c.if-work-area_of.false) (rw c.steps_of.ensures at c.if-steps_of-at.true)

pub returns : goal.returns
returns c =
    let p = sym c.points_of.ensures ∙ c.if-points_of-array.false in
    step_passed c.args.plan c.args.array c.args.work c.args.at (sym c.in_ok-check_plan.ensures) p (rw c.area_of.ensures.0 at c.if-work-area_of.false) (rw c.steps_of.ensures at c.if-steps_of-at.false)
