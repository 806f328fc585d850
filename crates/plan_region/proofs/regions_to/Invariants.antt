-- `plan_region::regions_to` meets its contract. The invariant: the regions of the first d axes alone.
use mathlib.Core.Path.{◌≡◌}
use Rattle.cube_spec.specs.Boxes.{product}
use Rattle.cube_spec.specs.Tree.{region_start}
use Rattle.plan_spec.specs.Pricing.{most_of}
use Rattle.plan_region.proofs.Regions.{Started}
use Rattle.plan_region.proofs.regions_to.Given as goal

abbrev pub invariant-loop-d : goal.invariant-loop-d
invariant-loop-d l =
    (l.all ≡ product (most_of l.lengths l.exponents) l.d 0)
    × (l.share ≡ region_start l.d (most_of l.lengths l.exponents) l.d)
    × Started (most_of l.lengths l.exponents) l.i l.d l.start
