use Rattle.std.proofs.Common.{◌∙◌, rules, sym}
use Rattle.std.proofs.lemmas.Result.{err_from_is_err_and}
use Rattle.plan_spec.proofs.Accepting.{passed_accepted}
use Rattle.plan_spec.proofs.PricingLaws.{few_axes}
use Rattle.rack_spec.specs.Finding.{plan_grid, summed_in}
use Rattle.rack_spec.proofs.Refusing.{some_due}
use Rattle.rack_spec.proofs.Tallied.{lawful}
use Rattle.rack_spec.proofs.Told.{not_finish}
use Rattle.run_spec.proofs.Shown.{finished_is, other_none}
use Rattle.run_spec.proofs.Gathers.{gather_due, gather_area, gather_past, gather_unfinished, gather_wrong, gather_passed, cells_told_lem}
use Rattle.run_gather.proofs.copying.check_gather.Goals as goal

pub returns-in_err-check_plan-clause-refusal : goal.returns-in_err-check_plan-clause-refusal
returns-in_err-check_plan-clause-refusal c =
    let p = err_from_is_err_and c.from_residual.result c.from_residual.ensures.1 in
    let e = c.in_err-check_plan.ensures in
    rw (p.1, p.2) (e ∙ gather_due c.args.plan c.args.work c.args.position c.args.res (some_due c.in_err-check_plan.field-0.0 e))

pub returns-then-work-area_of-clause-refusal : goal.returns-then-work-area_of-clause-refusal
returns-then-work-area_of-clause-refusal c =
    gather_area c.args.plan c.args.work c.args.position c.args.res (sym c.in_ok-check_plan.ensures) (rw c.area_of.ensures.0 at c.if-work-area_of.true)

pub returns-then-steps_of-position-clause-refusal : goal.returns-then-steps_of-position-clause-refusal
returns-then-steps_of-position-clause-refusal c =
    let r = rw c.area_of.ensures.0 at c.if-work-area_of.false in
    gather_past c.args.plan c.args.work c.args.position c.args.res (sym c.in_ok-check_plan.ensures) r (rw c.steps_of.ensures at c.if-steps_of-position.true)

pub returns-in_default-clause-refusal : goal.returns-in_default-clause-refusal
returns-in_default-clause-refusal c =
    let r = rw c.area_of.ensures.0 at c.if-work-area_of.false in
    let k = rw c.steps_of.ensures at c.if-steps_of-position.false in
    gather_unfinished c.args.plan c.args.work c.args.position c.args.res (sym c.in_ok-check_plan.ensures) r k (other_none (plan_grid c.args.plan) c.args.position _ c.step_before.ensures (not_finish c.step_before.result (search rules)))

pub shared_ref_as_front-cells : goal.shared_ref_as_front-cells
shared_ref_as_front-cells c =
    let z = sym c.in_ok-check_plan.ensures in
    let ok = passed_accepted c.args.plan (search rules) (search rules) (search rules) z in
    few_axes ok

pub returns-then-res-cells-clause-refusal : goal.returns-then-res-cells-clause-refusal
returns-then-res-cells-clause-refusal c =
    let z = sym c.in_ok-check_plan.ensures in
    let ok = passed_accepted c.args.plan (search rules) (search rules) (search rules) z in
    let r = rw c.area_of.ensures.0 at c.if-work-area_of.false in
    let k = rw c.steps_of.ensures at c.if-steps_of-position.false in
    let e = finished_is (plan_grid c.args.plan) (lawful c.args.plan ok) c.args.position _ c.in-Finish.ensures in
    let m = c.in-Finish.choice.mask in
    gather_wrong c.args.plan c.args.work c.args.position c.args.res z r k (summed_in c.args.plan m) e.0 (λ same. c.if-res-cells.true (same ∙ sym (c.cells.ensures ∙ cells_told_lem c.args.plan ok m)))

pub returns : goal.returns
returns c =
    let z = sym c.in_ok-check_plan.ensures in
    let ok = passed_accepted c.args.plan (search rules) (search rules) (search rules) z in
    let r = rw c.area_of.ensures.0 at c.if-work-area_of.false in
    let k = rw c.steps_of.ensures at c.if-steps_of-position.false in
    let e = finished_is (plan_grid c.args.plan) (lawful c.args.plan ok) c.args.position _ c.in-Finish.ensures in
    let m = c.in-Finish.choice.mask in
    record {
      refusal = gather_passed c.args.plan c.args.work c.args.position c.args.res z r k (summed_in c.args.plan m) e.0 (c.if-res-cells.false ∙ c.cells.ensures ∙ cells_told_lem c.args.plan ok m);
      choice = e.0;
    }
