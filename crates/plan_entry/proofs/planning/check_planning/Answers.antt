-- `plan_entry::planning::check_planning` meets its contract.
use mathlib.Core.Path.{sym, ◌∙◌}
use native.Mathlib.Omega.{arith}
use borrow.Author.Tests.{eqb-true, eqb-false}
use Rattle.std.proofs.lemmas.Result.{err_from_is_err_and}
use Rattle.cube_spec.proofs.Numbers.{number_positive}
use Rattle.plan_spec.proofs.Answering.{too_many_lem}
use Rattle.plan_spec.proofs.Deciding.{refuses_none, refuses_lengths, refuses_boards, refuses_nothing}
use Rattle.plan_entry.proofs.planning.check_planning.Goals as goal
use Rattle.plan_entry.proofs.planning.check_planning.Goals.{then-is_empty-via-then-is_empty, then-is_empty-via-else-is_empty+then-lengths-gt8}

pub returns-then-is_empty : goal.returns-then-is_empty
returns-then-is_empty c =
    elim c.then-is_empty.branch [
      | then-is_empty-via-then-is_empty w ↦ refuses_none c.args.lengths.now c.args.p (eqb-true _ 0 (sym c.is_empty.ensures ∙ w.if-is_empty.true))
      | then-is_empty-via-else-is_empty+then-lengths-gt8 w ↦ too_many_lem c.args.lengths.now c.args.p w.if-lengths-gt8.true
    ]

pub returns-in_err-check_lengths : goal.returns-in_err-check_lengths
returns-in_err-check_lengths c =
    let l = c.args.lengths.now in
    let p = err_from_is_err_and c.from_residual.result c.from_residual.ensures.1 in
    let e = c.in_err-check_lengths.ensures in
    let q = number_positive c.in_err-check_lengths.field-0.0 in
    rw (p.1, p.2) (refuses_lengths l c.args.p (eqb-false _ 0 (sym c.is_empty.ensures ∙ c.if-is_empty.false)) c.if-lengths-gt8.false _ e (λ z. omega arith))

pub returns-then-p-gt10 : goal.returns-then-p-gt10
returns-then-p-gt10 c =
    refuses_boards c.args.lengths.now c.args.p (eqb-false _ 0 (sym c.is_empty.ensures ∙ c.if-is_empty.false)) c.if-lengths-gt8.false c.in_ok-check_lengths.ensures c.if-p-gt10.true

pub returns : goal.returns
returns c = refuses_nothing c.args.lengths.now c.args.p (eqb-false _ 0 (sym c.is_empty.ensures ∙ c.if-is_empty.false)) c.if-lengths-gt8.false c.in_ok-check_lengths.ensures c.if-p-gt10.false
