-- the sum of the first m values
use Rattle.std.proofs.Common.{◌≡◌, map}
use Rattle.cube_spec.specs.Boxes.{sum_z}
use Rattle.cell_spec.specs.Wrapped.{wrapped}
use Rattle.cell_spec.specs.Rows.{every}
use Rattle.cell_row.proofs.combs.sum_every.Given as goal

abbrev pub invariant-loop-m : goal.invariant-loop-m
invariant-loop-m g l = l.sum ≡ wrapped (sum_z l.m (every (map g.T.Addend.value l.values) l.at l.step))
