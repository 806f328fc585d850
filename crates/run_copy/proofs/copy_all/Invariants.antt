use Prim.Native.Nat.{ℕ, ◌≤◌}
use mathlib.Core.Path.{◌≡◌}
use Rattle.plan_spec.specs.Plans.{lists_of}
use Rattle.plan_spec.specs.Accepted.{Accepted}
use Rattle.plan_spec.specs.declared.types.Plan.{Plan}
use Rattle.rack_spec.specs.Finding.{plan_grid, summed_in, leads}
use Rattle.run_spec.specs.Memory.{read}
use Rattle.run_spec.specs.Copies.{leads_to}
use Rattle.run_copy.proofs.copy_all.Given as goal

abbrev leadCount : Plan → ℕ → ℕ
leadCount q mask = leads (plan_grid q) (summed_in q mask)

abbrev pub invariant-loop-rank : goal.invariant-loop-rank
invariant-loop-rank l = (Accepted l.plan) × (l.leads ≡ leadCount l.plan l.choice.mask) × (l.rank ≤ l.leads) × (l.leads ≤ 1024) × (l.res ≡ leads_to (lists_of l.plan).lengths (plan_grid l.plan) (summed_in l.plan l.choice.mask) l.rank (read l.work) l.initial.res)
