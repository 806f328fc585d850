-- `run_child::shares::regions_of` meets its contract. The invariant: the regions before region i stand in their slots, and the other slots are zero.
use Prim.Native.Nat.{◌≤◌}
use mathlib.Core.Path.{◌≡◌}
use Rattle.cube_spec.specs.Limits.{padded}
use Rattle.cube_spec.specs.Boxes.{table}
use Rattle.plan_spec.specs.Accepted.{Accepted}
use Rattle.rack_spec.specs.Grids.{region_start}
use Rattle.rack_spec.specs.Finding.{plan_grid}
use Rattle.run_child.proofs.shares.regions_of.Given as goal

abbrev pub invariant-loop-i : goal.invariant-loop-i
invariant-loop-i l = (Accepted l.plan) × (l.i ≤ l.plan.axes) × (l.starts ≡ padded (table l.i (region_start (plan_grid l.plan))))
