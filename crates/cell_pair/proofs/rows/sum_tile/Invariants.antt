-- each column holds its first 4 k points, and then its first m
use Rattle.std.proofs.Common.{◌*◌}
use Rattle.cell_pair.specs.Tiles.{Tile}
use Rattle.cell_pair.proofs.rows.sum_tile.Given as goal

abbrev pub invariant-loop-k : goal.invariant-loop-k
invariant-loop-k g l = Tile l.array l.comb.first 1 l.comb.step l.comb.count (4 * l.k) l.columns.lows l.columns.highs l.columns.hits

abbrev pub invariant-loop-m : goal.invariant-loop-m
invariant-loop-m g l = Tile l.array l.comb.first 1 l.comb.step l.comb.count l.m l.columns.lows l.columns.highs l.columns.hits
