-- the sums of the first i columns are written
use Rattle.std.proofs.Common.{◌≡◌}
use Rattle.cell_spec.specs.Rows.{written}
use Rattle.cell_pair.specs.Tiles.{sums_of}
use Rattle.cell_pair.proofs.tiles.write_sums.Given as goal

abbrev pub invariant-loop-i : goal.invariant-loop-i
invariant-loop-i l = l.work ≡ written l.initial.work l.dst l.i (sums_of l.lows l.highs l.hits)
