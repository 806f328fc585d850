use mathlib.Core.Path.{◌≡◌}
use lib.ListN.{get_or}
use Rattle.cube_spec.specs.Limits.{padded}
use Rattle.cube_spec.specs.Boxes.{table}
use Rattle.plan_spec.specs.Rule.{Entry}
use Rattle.plan_rule.proofs.rule.exponents.Given as goal

abbrev pub spare : Entry
spare = record { weight = 0; len = 0; exp = 0 }

abbrev pub invariant-loop-i : goal.invariant-loop-i
invariant-loop-i l = l.out ≡ padded (table l.i (λ j. (get_or l.entries j spare).exp))
