use mathlib.Core.Path.{◌≡◌}
use lib.ListN.{get_or}
use Rattle.cube_spec.specs.Limits.{padded}
use Rattle.cube_spec.specs.Boxes.{table}
use Rattle.controller.specs.Bytes.{pairs}
use Rattle.controller.proofs.lengths_of.Given as goal

abbrev pub invariant-loop-i : goal.invariant-loop-i
invariant-loop-i l = l.out ≡ padded (table l.i (λ j. get_or (pairs l.bytes) j 0))
