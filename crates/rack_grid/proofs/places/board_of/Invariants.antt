use Rattle.std.proofs.Common.{◌≡◌, get_or}
use Rattle.cube_spec.specs.Boxes.{place}
use Rattle.plan_spec.specs.Accepted.{Accepted}
use Rattle.rack_spec.specs.Finding.{plan_grid}
use Rattle.rack_grid.proofs.places.board_of.Given as goal

abbrev pub invariant-loop-d : goal.invariant-loop-d
invariant-loop-d l = (Accepted l.plan) × (l.board ≡ place (plan_grid l.plan).parts (λ i. get_or l.labels i 0) l.d 0)
