-- `run_expand::expansions::expand_cells` meets its contract. The invariant: the lead's children in regions before j are formed.
use mathlib.Core.List.{[]}
use Rattle.plan_spec.specs.Accepted.{Accepted}
use Rattle.rack_spec.specs.Finding.{plan_grid, summed_in, lead_at}
use Rattle.run_spec.specs.Memory.{read}
use Rattle.run_spec.proofs.Expanded.{Children}
use Rattle.run_expand.proofs.expansions.expand_cells.Given as goal

abbrev pub invariant-loop-j : goal.invariant-loop-j
invariant-loop-j l = (Accepted l.plan) × Children l.plan l.choice.mask (read []) (lead_at (plan_grid l.plan) (summed_in l.plan l.choice.mask) l.rank) l.initial.work l.work l.j
