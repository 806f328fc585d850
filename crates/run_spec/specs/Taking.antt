-- What the code that takes one step asks.
use Rattle.std.specs.Prelude.{ℕ, zero, suc, ◌≤◌, ◌≡◌}
use Rattle.std.proofs.Math.Option.{some}
use Rattle.std.proofs.Math.ListN.{get_elem?}
use Rattle.plan_spec.specs.Plans.{lists_of}
use Rattle.plan_spec.specs.Refusals.{plan_refusal}
use Rattle.plan_spec.specs.declared.types.Plan.{Plan}
use Rattle.rack_spec.specs.Steps.{TreeStep, steps}
use Rattle.rack_spec.specs.Finding.{plan_grid}
use Rattle.rack_spec.specs.Grids.{Grid}
use Rattle.rack_spec.specs.Answers.{Told, done, told_at}
use Rattle.run_spec.specs.Entries.{work_cells}

-- m is a step of the plan's list, and a work area of n cells is large enough
pub record Taking (q : Plan) (m : TreeStep) (n : ℕ) : Type 0 where
  pub passed : plan_refusal q ≡ 0
  pub at : ℕ
  pub listed : get_elem? (steps (plan_grid q)) at ≡ some m
  pub room : work_cells (lists_of q) ≤ n

-- what is told of the step that leads to a position: done where there is none
unfoldable pub told_before : Grid → ℕ → Told
told_before g zero = done
told_before g (suc at) = told_at g (steps g) at
