use Rattle.rack_spec.specs.Finding.{plan_grid}
use Rattle.run_spec.proofs.Shown.{before_none, before_some}
use Rattle.run_finish.proofs.step_before.Goals as goal

pub returns-then-at-eq0 : goal.returns-then-at-eq0
returns-then-at-eq0 c = before_none (plan_grid c.args.plan) c.args.at c.if-at-eq0.true

pub returns : goal.returns
returns c = before_some (plan_grid c.args.plan) c.args.at _ c.if-at-eq0.false c.step_at.ensures
