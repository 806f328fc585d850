-- `plan_entry::planning::plan` meets its contract.
use mathlib.Core.Path.{sym}
use native.Mathlib.Omega.{arith}
use Rattle.std.proofs.lemmas.Result.{err_from_is_err_and}
use Rattle.cube_spec.proofs.Answered.{error}
use Rattle.plan_spec.specs.Answers.{planning}
use Rattle.plan_spec.proofs.Accepting.{planning_passed}
use Rattle.plan_spec.proofs.Answering.{passed, few_lengths, fine_lengths, used_asked, placed, made_accepted, made_planned}
use Rattle.plan_entry.proofs.planning.plan.Goals as goal

pub returns-in_err-check_planning : goal.returns-in_err-check_planning
unfolding planning
returns-in_err-check_planning c =
    let p = err_from_is_err_and c.from_residual.result c.from_residual.ensures.1 in
    rw (p.1, p.2) (error c.in_err-check_planning.field-0.0 _ _ c.in_err-check_planning.ensures)

pub power_used-used-requires : goal.power_used-used-requires
power_used-used-requires c = (planning_passed c.args.lengths.now c.args.p (sym c.in_ok-check_planning.ensures)).0.few

pub arrange-arrangement-requires : goal.arrange-arrangement-requires
arrange-arrangement-requires c = fine_lengths (passed (sym c.in_ok-check_planning.ensures) c.power_used-used.ensures)

pub overflow_cast-plan : goal.overflow_cast-plan
overflow_cast-plan c = let f = few_lengths (passed (sym c.in_ok-check_planning.ensures) c.power_used-used.ensures) in omega arith

pub slots-requires : goal.slots-requires
slots-requires c = few_lengths (passed (sym c.in_ok-check_planning.ensures) c.power_used-used.ensures)

pub shared_ref_as_front-by_axis : goal.shared_ref_as_front-by_axis
shared_ref_as_front-by_axis c = few_lengths (passed (sym c.in_ok-check_planning.ensures) c.power_used-used.ensures)

pub by_axis-requires-clause-found : goal.by_axis-requires-clause-found
by_axis-requires-clause-found c = placed (passed (sym c.in_ok-check_planning.ensures) c.power_used-used.ensures) c.arrange-arrangement.result c.arrange-arrangement.ensures

pub prices-requires : goal.prices-requires
prices-requires c =
    let k = passed (sym c.in_ok-check_planning.ensures) c.power_used-used.ensures in
    made_accepted k c.arrange-arrangement.result c.arrange-arrangement.ensures c.slots.result c.by_axis.result c.slots.ensures c.by_axis.ensures

pub idle_of-requires : goal.idle_of-requires
idle_of-requires c = used_asked (passed (sym c.in_ok-check_planning.ensures) c.power_used-used.ensures)

pub returns : goal.returns
returns c =
    let k = passed (sym c.in_ok-check_planning.ensures) c.power_used-used.ensures in
    made_planned k c.arrange-arrangement.result c.arrange-arrangement.ensures c.slots.result c.by_axis.result c.slots.ensures c.by_axis.ensures c.prices.result c.idle_of.result c.prices.ensures c.idle_of.ensures
