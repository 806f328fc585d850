-- `run_box::points::strides_of` meets its contract. The invariant: the slots before d are filled, and the others are zero.
use Prim.Native.Nat.{ℕ, ◌≤◌}
use mathlib.Core.Path.{◌≡◌}
use Rattle.cube_spec.specs.Limits.{padded}
use Rattle.cube_spec.specs.Boxes.{table}
use Rattle.plan_spec.specs.Accepted.{Accepted}
use Rattle.plan_spec.specs.declared.types.Plan.{Plan}
use Rattle.rack_spec.specs.Finding.{plan_grid, summed_in}
use Rattle.run_spec.specs.Copies.{cell_stride}
use Rattle.run_box.proofs.points.strides_of.Given as goal

-- the strides of a choice, by place
abbrev apart : Plan → ℕ → ℕ → ℕ
apart q mask = cell_stride (plan_grid q) (summed_in q mask)

abbrev pub invariant-loop-d : goal.invariant-loop-d
invariant-loop-d l = (Accepted l.plan) × (l.d ≤ l.plan.axes) × (l.strides ≡ padded (table l.d (apart l.plan l.choice.mask)))
