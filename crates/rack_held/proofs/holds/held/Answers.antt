use Rattle.std.proofs.Common.{arith, rules, sym}
use Rattle.std.proofs.lemmas.Result.{err_from_is_err_and}
use Rattle.plan_spec.specs.Plans.{lists_of}
use Rattle.plan_spec.proofs.Accepting.{passed_accepted}
use Rattle.rack_spec.proofs.Counting.{board_count_lem}
use Rattle.rack_spec.proofs.Refusing.{held_due, held_past, held_outside, held_given, boards_shifted}
use Rattle.rack_held.proofs.holds.held.Goals as goal

pub returns-in_err-check_plan : goal.returns-in_err-check_plan
returns-in_err-check_plan c =
    let p = err_from_is_err_and c.from_residual.result c.from_residual.ensures.1 in
    rw (p.1, p.2) (held_due c.args.plan c.args.position c.args.board c.in_err-check_plan.field-0.0 c.in_err-check_plan.ensures)

pub returns-then-steps_of-position : goal.returns-then-steps_of-position
returns-then-steps_of-position c =
    held_past c.args.plan c.args.position c.args.board (sym c.in_ok-check_plan.ensures) (rw (← c.steps_of.ensures) c.if-steps_of-position.true)

pub overflow_shl-plan : goal.overflow_shl-plan
overflow_shl-plan c =
    let z = sym c.in_ok-check_plan.ensures in
    let ok = passed_accepted c.args.plan (search rules) (search rules) (search rules) z in
    let b = ok.boards in
    omega arith

pub returns-then-plan-board : goal.returns-then-plan-board
returns-then-plan-board c =
    let z = sym c.in_ok-check_plan.ensures in
    let ok = passed_accepted c.args.plan (search rules) (search rules) (search rules) z in
    let w = boards_shifted c.args.plan 32 (let p = ok.boards in omega arith) in
    held_outside c.args.plan c.args.position c.args.board z (rw (← c.steps_of.ensures) c.if-steps_of-position.false) (rw (← w) c.if-plan-board.true)

pub held_at-requires : goal.held_at-requires
held_at-requires c =
    let z = sym c.in_ok-check_plan.ensures in
    let ok = passed_accepted c.args.plan (search rules) (search rules) (search rules) z in
    let w = boards_shifted c.args.plan 32 (let p = ok.boards in omega arith) in
    (z, rw (board_count_lem (lists_of c.args.plan) ok.sound, ← w, c.from.ensures) c.if-plan-board.false)

pub returns : goal.returns
returns c =
    let z = sym c.in_ok-check_plan.ensures in
    let ok = passed_accepted c.args.plan (search rules) (search rules) (search rules) z in
    let w = boards_shifted c.args.plan 32 (let p = ok.boards in omega arith) in
    rw (c.held_at.ensures, c.from.ensures) (held_given c.args.plan c.args.position c.args.board z (rw (← c.steps_of.ensures) c.if-steps_of-position.false) (rw (← w) c.if-plan-board.false))
