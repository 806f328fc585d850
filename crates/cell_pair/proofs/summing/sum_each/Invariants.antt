-- the first i sums and counts are written
use Rattle.std.proofs.Common.{◌≡◌}
use Rattle.cube_spec.specs.Shots.{values, shots}
use Rattle.cell_spec.specs.Rows.{written}
use Rattle.cell_row.specs.Combs.{sums}
use Rattle.cell_pair.proofs.summing.sum_each.Given as goal

abbrev pub invariant-loop-i : goal.invariant-loop-i
invariant-loop-i l = (l.work ≡ written l.initial.work l.dst l.i (sums l.comb (values l.array))) × (l.counts ≡ written l.initial.counts l.dst l.i (sums l.comb (shots l.array)))
