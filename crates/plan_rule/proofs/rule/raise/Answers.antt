use mathlib.Core.Path.{◌∙◌, ap}
use native.Mathlib.Omega.{arith}
use Rattle.plan_spec.specs.Rule.{Entry, greedy}
use Rattle.plan_spec.proofs.Raising.{raised_none, raised_same, raised_next}
use Rattle.plan_rule.proofs.rule.raise.Goals as goal
use Rattle.plan_rule.proofs.rule.raise.Goals.{in-Some, in_default}

abbrev spare : Entry
spare = record { weight = 0; len = 0; exp = 0 }

pub loop-turn-init : goal.loop-turn-init
loop-turn-init c = raised_none c.args.entries.now c.requires.0

pub cheapest-requires : goal.cheapest-requires
cheapest-requires c = λ k d h. let q = c.loop-turn.invariant.low k d h in (q.0, omega arith)

pub overflow_add-entries : goal.overflow_add-entries
overflow_add-entries c = let q = c.loop-turn.invariant.low c.in-Some.i spare c.in-Some.ensures.within in omega arith

pub loop-turn-preserved : goal.loop-turn-preserved
loop-turn-preserved c =
    elim c.match-cheapest.branch [
      | in-Some w ↦ rw w.entries-is (raised_next c.loop-turn.invariant w.in-Some.i spare w.in-Some.ensures.within w.in-Some.ensures.raised)
      | in_default w ↦ rw w.entries-is (raised_same c.loop-turn.invariant w.in_default.ensures.raised)
    ]

pub returns : goal.returns
returns c = c.loop-turn.invariant.entries ∙ ap (λ t. greedy t c.args.entries.now) (omega arith)
