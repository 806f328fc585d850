-- `run_box::points::extents_of` meets its contract. The invariant: the slots before d are filled, and the others are zero.
use Prim.Native.Nat.{ℕ, ◌≤◌}
use mathlib.Core.Path.{◌≡◌}
use mathlib.Core.List.{List}
use lib.ListN.{get_or}
use Rattle.cube_spec.specs.Limits.{padded}
use Rattle.cube_spec.specs.Boxes.{table}
use Rattle.plan_spec.specs.Accepted.{Accepted}
use Rattle.plan_spec.specs.declared.types.Plan.{Plan}
use Rattle.rack_spec.specs.Grids.{board_with, box}
use Rattle.rack_spec.specs.Finding.{plan_grid, summed_in, Labels}
use Rattle.run_box.proofs.points.extents_of.Given as goal

-- the extents of the board with these labels, by place
abbrev sides : Plan → ℕ → List ℕ → ℕ → ℕ
sides q mask labels = box (plan_grid q) (summed_in q mask) (board_with (plan_grid q) (λ i. get_or labels i 0))

abbrev pub invariant-loop-d : goal.invariant-loop-d
invariant-loop-d l = (Accepted l.plan) × (Labels l.plan l.labels) × (l.d ≤ l.plan.axes) × (l.extents ≡ padded (table l.d (sides l.plan l.choice.mask l.labels)))
