use Rattle.std.proofs.Common.{◌≤◌}
use Rattle.plan_spec.specs.Accepted.{Accepted}
use Rattle.rack_spec.proofs.Planned.{CellsTo}
use Rattle.rack_grid.proofs.places.cells_between.Given as goal

abbrev pub invariant-loop-d : goal.invariant-loop-d
invariant-loop-d l = (Accepted l.plan) × (l.first ≤ l.d) × (l.d ≤ l.end) × CellsTo l.plan l.choice.mask l.labels l.first l.count l.d
