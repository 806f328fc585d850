use Rattle.std.proofs.Common.{◌∙◌, arith, rules, sym}
use Rattle.std.proofs.lemmas.Result.{err_from_is_err_and}
use Rattle.plan_spec.proofs.Accepting.{passed_accepted}
use Rattle.rack_spec.proofs.Refusing.{some_due, boards_shifted}
use Rattle.run_spec.proofs.Shown.{view_due, view_area, view_past, view_unfinished, view_outside, view_passed}
use Rattle.run_view.proofs.viewing.check_view.Goals as goal

pub returns-in_err-check_plan : goal.returns-in_err-check_plan
returns-in_err-check_plan c =
    let p = err_from_is_err_and c.from_residual.result c.from_residual.ensures.1 in
    let e = c.in_err-check_plan.ensures in
    rw (p.1, p.2) (e ∙ view_due c.args.plan _ c.args.position c.args.board (some_due c.in_err-check_plan.field-0.0 e))

pub returns-then-work-area_of : goal.returns-then-work-area_of
returns-then-work-area_of c = view_area c.args.plan _ c.args.position c.args.board (sym c.in_ok-check_plan.ensures) (rw c.area_of.ensures.0 at c.if-work-area_of.true)

pub returns-then-steps_of-position : goal.returns-then-steps_of-position
returns-then-steps_of-position c =
    let r = rw c.area_of.ensures.0 at c.if-work-area_of.false in
    view_past c.args.plan _ c.args.position c.args.board (sym c.in_ok-check_plan.ensures) r (rw c.steps_of.ensures at c.if-steps_of-position.true)

pub returns-then-not-is_finished : goal.returns-then-not-is_finished
returns-then-not-is_finished c =
    let r = rw c.area_of.ensures.0 at c.if-work-area_of.false in
    let k = rw c.steps_of.ensures at c.if-steps_of-position.false in
    view_unfinished c.args.plan _ c.args.position c.args.board (sym c.in_ok-check_plan.ensures) r k (sym c.is_finished.ensures ∙ c.if-not-is_finished.true)

pub overflow_shl-plan : goal.overflow_shl-plan
overflow_shl-plan c =
    let z = sym c.in_ok-check_plan.ensures in
    let ok = passed_accepted c.args.plan (search rules) (search rules) (search rules) z in
    let b = ok.boards in
    omega arith

pub returns-then-plan-board : goal.returns-then-plan-board
returns-then-plan-board c =
    let z = sym c.in_ok-check_plan.ensures in
    let ok = passed_accepted c.args.plan (search rules) (search rules) (search rules) z in
    let r = rw c.area_of.ensures.0 at c.if-work-area_of.false in
    let k = rw c.steps_of.ensures at c.if-steps_of-position.false in
    view_outside c.args.plan _ c.args.position c.args.board z r k (sym c.is_finished.ensures ∙ c.if-not-is_finished.false) (rw (← boards_shifted c.args.plan 32 (let p = ok.boards in omega arith)) c.if-plan-board.true)

pub returns : goal.returns
returns c =
    let z = sym c.in_ok-check_plan.ensures in
    let ok = passed_accepted c.args.plan (search rules) (search rules) (search rules) z in
    let r = rw c.area_of.ensures.0 at c.if-work-area_of.false in
    let k = rw c.steps_of.ensures at c.if-steps_of-position.false in
    view_passed c.args.plan _ c.args.position c.args.board z r k (sym c.is_finished.ensures ∙ c.if-not-is_finished.false) (rw (← boards_shifted c.args.plan 32 (let p = ok.boards in omega arith)) c.if-plan-board.false)
