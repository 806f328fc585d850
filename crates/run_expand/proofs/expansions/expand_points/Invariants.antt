-- `run_expand::expansions::expand_points` meets its contract. The invariant: the board's children in regions before j are formed.
use Rattle.plan_spec.specs.Accepted.{Accepted}
use Rattle.run_spec.specs.Memory.{read}
use Rattle.run_spec.proofs.Expanded.{Children}
use Rattle.run_expand.proofs.expansions.expand_points.Given as goal

abbrev pub invariant-loop-j : goal.invariant-loop-j
invariant-loop-j l = (Accepted l.plan) × Children l.plan l.root.mask (read l.array) l.board l.initial.work l.work l.j
