-- `run_expand::expansions::expand_all` meets its contract. The invariant: the leads of a rank below r are expanded.
use Rattle.plan_spec.specs.Accepted.{Accepted}
use Rattle.run_spec.specs.Memory.{read}
use Rattle.run_spec.proofs.Expanded.{Ranks}
use Rattle.run_expand.proofs.expansions.expand_all.Given as goal

abbrev pub invariant-loop-rank : goal.invariant-loop-rank
invariant-loop-rank l = (Accepted l.plan) × Ranks l.plan l.choice.mask (read l.array) l.leads l.initial.work l.work l.rank
