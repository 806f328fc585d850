use mathlib.Core.Path.{◌≡◌}
use Prim.Native.Nat.{◌-◌, ◌*◌}
use lib.ListN.{length}
use Rattle.cube_spec.specs.Choices.{length_of}
use Rattle.cube_spec.specs.Boxes.{product}
use Rattle.plan_rule.proofs.rule.product_from.Given as goal

abbrev pub invariant-loop-j : goal.invariant-loop-j
invariant-loop-j l = l.product * product (length_of l.lengths) (length l.lengths - l.j) l.j ≡ product (length_of l.lengths) (length l.lengths - l.i) l.i
