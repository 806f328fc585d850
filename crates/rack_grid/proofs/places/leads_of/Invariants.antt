use Rattle.std.proofs.Common.{◌≡◌}
use Rattle.cube_spec.specs.Boxes.{product}
use Rattle.cube_spec.specs.Tree.{kept}
use Rattle.plan_spec.specs.Accepted.{Accepted}
use Rattle.rack_spec.specs.Finding.{plan_grid, summed_in}
use Rattle.rack_grid.proofs.places.leads_of.Given as goal

abbrev pub invariant-loop-d : goal.invariant-loop-d
invariant-loop-d l = (Accepted l.plan) × (l.count ≡ product (kept (summed_in l.plan l.choice.mask) (plan_grid l.plan).parts) l.d 0)
