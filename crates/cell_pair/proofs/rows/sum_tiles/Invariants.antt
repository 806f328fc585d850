-- the sums and counts of the first k tiles are written
use Rattle.std.proofs.Common.{◌≡◌, ◌*◌}
use Rattle.cube_spec.specs.Shots.{values, shots}
use Rattle.cell_spec.specs.Rows.{written}
use Rattle.cell_row.specs.Combs.{sums}
use Rattle.cell_pair.proofs.rows.sum_tiles.Given as goal

abbrev pub invariant-loop-k : goal.invariant-loop-k
invariant-loop-k g l =
    (l.work ≡ written l.initial.work l.dst (l.k * g.row.N) (sums l.comb (values l.array)))
    × (l.counts ≡ written l.initial.counts l.dst (l.k * g.row.N) (sums l.comb (shots l.array)))
