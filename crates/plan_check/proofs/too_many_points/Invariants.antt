use Prim.Native.Nat.{◌-◌, ◌*◌, ◌≤◌}
use mathlib.Core.Path.{◌≡◌}
use lib.ListN.{length}
use Rattle.cube_spec.specs.Limits.{point_limit}
use Rattle.cube_spec.specs.Choices as Choices
use Rattle.cube_spec.specs.Choices.{length_of}
use Rattle.cube_spec.specs.Boxes.{product}
use Rattle.plan_check.proofs.too_many_points.Given as goal

-- what is multiplied so far, and what is left
abbrev pub invariant-loop-length : goal.invariant-loop-length
invariant-loop-length l =
    (l.points ≤ point_limit) × (l.points * product (length_of l.lengths) (length l.lengths - l.length-index) l.length-index ≡ Choices.points l.lengths)
