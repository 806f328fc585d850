use Rattle.plan_spec.proofs.Raising.{Raised}
use Rattle.plan_rule.proofs.rule.raise.Given as goal

abbrev pub invariant-loop-turn : goal.invariant-loop-turn
invariant-loop-turn l = Raised l.initial.entries l._turn l.entries
