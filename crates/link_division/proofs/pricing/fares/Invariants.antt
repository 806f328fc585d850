-- `link_division::pricing::fares` meets its contract.
use Rattle.std.proofs.Common.{◌≡◌}
use Rattle.cube_spec.specs.Limits.{padded}
use Rattle.cube_spec.specs.Boxes.{table}
use Rattle.link_spec.specs.Costs.{fare}
use Rattle.link_division.proofs.pricing.fares.Given as goal

abbrev pub invariant-loop-i : goal.invariant-loop-i
invariant-loop-i l = l.out ≡ padded (table l.i (fare l.links l.exponents))
