-- `link_division::trying::caps_of` meets its contract.
use Rattle.std.proofs.Common.{◌≡◌, get_or}
use Rattle.cube_spec.specs.Limits.{padded}
use Rattle.cube_spec.specs.Boxes.{table}
use Rattle.cube_spec.specs.Ways.{log2}
use Rattle.link_division.proofs.trying.caps_of.Given as goal

abbrev pub invariant-loop-i : goal.invariant-loop-i
invariant-loop-i l = l.out ≡ padded (table l.i (λ d. log2 (get_or l.lens d 0)))
