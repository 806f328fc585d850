use Rattle.std.proofs.Common.{◌≡◌, length}
use Rattle.plan_spec.specs.Accepted.{Accepted}
use Rattle.rack_spec.proofs.Planned.{Ranking}
use Rattle.rack_grid.proofs.places.lead_labels.Given as goal

abbrev pub invariant-loop-d : goal.invariant-loop-d
invariant-loop-d l = (Accepted l.plan) × (length l.labels ≡ 8) × Ranking l.plan l.choice.mask l.rank l.labels l.rest l.d
