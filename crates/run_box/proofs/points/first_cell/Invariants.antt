use Prim.Native.Nat.{◌*◌, ◌≤◌}
use mathlib.Core.Path.{◌≡◌}
use lib.ListN.{get_or}
use Rattle.cube_spec.specs.Boxes.{sum_n}
use Rattle.plan_spec.specs.Accepted.{Accepted}
use Rattle.rack_spec.specs.Finding.{plan_grid, Labels}
use Rattle.run_box.proofs.points.first_cell.Given as goal

abbrev pub invariant-loop-d : goal.invariant-loop-d
invariant-loop-d l = (Accepted l.plan) × (Labels l.plan l.labels) × (l.d ≤ l.plan.axes) × (l.at ≡ sum_n l.d (λ i. (plan_grid l.plan).start i (get_or l.labels i 0) * get_or l.strides i 0)) × (l.at ≤ 1099511627776 * l.d)
