use mathlib.Core.Path.{◌≡◌}
use mathlib.Core.List.{◌++◌}
use Prim.Native.Nat.{◌+◌}
use lib.ListN.{length, get_or, take, replicate}
use Rattle.cube_spec.specs.Limits.{axis_limit}
use Rattle.cube_spec.specs.Boxes.{table, product}
use Rattle.cube_spec.specs.Choices.{length_of}
use Rattle.cube_spec.specs.Tree.{weight}
use Rattle.plan_spec.specs.Rule.{Entry}
use Rattle.plan_rule.proofs.rule.entries.Given as goal

abbrev pub spare : Entry
spare = record { weight = 0; len = 0; exp = 0 }

abbrev pub invariant-loop-i : goal.invariant-loop-i
invariant-loop-i l =
    (l.before ≡ product (λ j. get_or l.lengths j 0 + 1) l.i 0)
    × (l.out ≡ take axis_limit (table l.i (λ i. record { weight = weight (length l.lengths) (length_of l.lengths) i; len = length_of l.lengths i; exp = 0 }) ++ replicate axis_limit spare))
