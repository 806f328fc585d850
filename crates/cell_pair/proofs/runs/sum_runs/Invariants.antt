-- the sums and counts of the first 16 k runs are written
use Rattle.std.proofs.Common.{◌≡◌, ◌*◌}
use Rattle.cube_spec.specs.Shots.{values, shots}
use Rattle.cell_spec.specs.Rows.{written}
use Rattle.cell_row.specs.Combs.{sums}
use Rattle.cell_pair.proofs.runs.sum_runs.Given as goal

abbrev pub invariant-loop-k : goal.invariant-loop-k
invariant-loop-k l =
    (l.work ≡ written l.initial.work l.dst (16 * l.k) (sums l.comb (values l.array)))
    × (l.counts ≡ written l.initial.counts l.dst (16 * l.k) (sums l.comb (shots l.array)))
