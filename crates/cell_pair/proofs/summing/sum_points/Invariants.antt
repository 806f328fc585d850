-- the sum and the count are those of the first m points
use Rattle.std.proofs.Common.{◌≡◌}
use Rattle.cube_spec.specs.Boxes.{sum_z}
use Rattle.cube_spec.specs.Shots.{values, shots}
use Rattle.cell_spec.specs.Wrapped.{wrapped}
use Rattle.cell_spec.specs.Rows.{every}
use Rattle.cell_pair.proofs.summing.sum_points.Given as goal

abbrev pub invariant-loop-m : goal.invariant-loop-m
invariant-loop-m l = (l.sum ≡ wrapped (sum_z l.m (every (values l.array) l.at l.step))) × (l.count ≡ wrapped (sum_z l.m (every (shots l.array) l.at l.step)))
