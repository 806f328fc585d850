-- The search begins at the root.
use Rattle.std.proofs.Common.{rules, ◌∙◌}
use Rattle.plan_spec.proofs.Accepting.{passed_accepted}
use Rattle.rack_spec.proofs.Seeking.{steps_first, steps_later}
use Rattle.rack_find.proofs.Searches.{root_searching}
use Rattle.rack_find.proofs.steps.step_by.Goals as goal

pub returns-then-at-eq0 : goal.returns-then-at-eq0
returns-then-at-eq0 c =
    let ok = passed_accepted c.args.plan (search rules) (search rules) (search rules) c.requires.0 in
    rw c.full-root.ensures (steps_first ok c.requires.0 c.if-at-eq0.true)

pub walk-requires : goal.walk-requires
walk-requires c =
    let ok = passed_accepted c.args.plan (search rules) (search rules) (search rules) c.requires.0 in
    root_searching ok c.requires.0 c.requires.1 c.full-root.ensures c.from.ensures

pub step_of-requires : goal.step_of-requires
step_of-requires c = c.walk.ensures.1

pub returns : goal.returns
returns c =
    let ok = passed_accepted c.args.plan (search rules) (search rules) (search rules) c.requires.0 in
    let e = c.walk.ensures.0 in
    c.step_of.ensures ∙ rw c.full-root.ensures at e ∙ steps_later ok c.requires.0 c.if-at-eq0.false
