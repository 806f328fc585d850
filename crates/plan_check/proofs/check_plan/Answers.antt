use mathlib.Core.Path.{sym, ◌∙◌}
use native.Mathlib.Omega.{arith}
use Rattle.std.proofs.lemmas.Result.{err_from_is_err_and}
use Rattle.cube_spec.specs.Checks.{first}
use Rattle.cube_spec.proofs.Numbers.{number_positive}
use Rattle.plan_spec.proofs.Judging.{bad_none, bad_many, good_axes, plan_3, plan_lengths, plan_later, few_boards, many_boards}
use Rattle.plan_check.proofs.check_plan.Goals as goal
use Rattle.plan_check.proofs.check_plan.Goals.{then-plan-eq0-via-then-plan-eq0, then-plan-eq0-via-else-plan-eq0+then-plan-gt8}

pub returns-then-plan-eq0 : goal.returns-then-plan-eq0
returns-then-plan-eq0 c =
    elim c.then-plan-eq0.branch [
      | then-plan-eq0-via-then-plan-eq0 w ↦ sym (plan_3 c.args.plan (bad_none _ w.if-plan-eq0.true))
      | then-plan-eq0-via-else-plan-eq0+then-plan-gt8 w ↦ sym (plan_3 c.args.plan (bad_many _ w.if-plan-gt8.true))
    ]

pub returns-in_err-check_lengths : goal.returns-in_err-check_lengths
returns-in_err-check_lengths c =
    let p = err_from_is_err_and c.from_residual.result c.from_residual.ensures.1 in
    let t = c.in_err-check_lengths.ensures in
    let some = number_positive c.in_err-check_lengths.field-0.0 in
    rw (p.1, p.2) (sym (plan_lengths c.args.plan (good_axes c.args.plan.axes (omega arith) c.if-plan-gt8.false) (λ z. let q = t ∙ z in omega arith) ∙ sym t))

pub returns-then-plan-gt10 : goal.returns-then-plan-gt10
unfolding first
returns-then-plan-gt10 c = rw (plan_later c.args.plan (good_axes _ (omega arith) c.if-plan-gt8.false) (sym c.in_ok-check_lengths.ensures), many_boards _ c.if-plan-gt10.true)

pub returns-then-bad_order : goal.returns-then-bad_order
unfolding first
returns-then-bad_order c = rw (plan_later c.args.plan (good_axes _ (omega arith) c.if-plan-gt8.false) (sym c.in_ok-check_lengths.ensures), few_boards _ c.if-plan-gt10.false, sym c.bad_order.ensures ∙ c.if-bad_order.true)

pub returns-then-bad_exponents : goal.returns-then-bad_exponents
unfolding first
returns-then-bad_exponents c = rw (plan_later c.args.plan (good_axes _ (omega arith) c.if-plan-gt8.false) (sym c.in_ok-check_lengths.ensures), few_boards _ c.if-plan-gt10.false, sym c.bad_order.ensures ∙ c.if-bad_order.false, sym c.bad_exponents.ensures ∙ c.if-bad_exponents.true)

pub returns : goal.returns
unfolding first
returns c = rw (plan_later c.args.plan (good_axes _ (omega arith) c.if-plan-gt8.false) (sym c.in_ok-check_lengths.ensures), few_boards _ c.if-plan-gt10.false, sym c.bad_order.ensures ∙ c.if-bad_order.false, sym c.bad_exponents.ensures ∙ c.if-bad_exponents.false)
