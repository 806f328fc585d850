-- the counts of the first i columns are written
use Rattle.std.proofs.Common.{◌≡◌}
use Rattle.cell_spec.specs.Rows.{written}
use Rattle.cell_pair.specs.Tiles.{counts_of}
use Rattle.cell_pair.proofs.tiles.write_counts.Given as goal

abbrev pub invariant-loop-i : goal.invariant-loop-i
invariant-loop-i l = l.counts ≡ written l.initial.counts l.dst l.i (counts_of l.hits)
