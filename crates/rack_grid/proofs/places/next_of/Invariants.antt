use Rattle.plan_spec.specs.Accepted.{Accepted}
use Rattle.rack_spec.proofs.Planned.{KeptFrom}
use Rattle.rack_grid.proofs.places.next_of.Given as goal

abbrev pub invariant-loop-d : goal.invariant-loop-d
invariant-loop-d l = (Accepted l.plan) × KeptFrom l.plan l.choice.mask l.d
