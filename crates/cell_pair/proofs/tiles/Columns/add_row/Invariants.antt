-- the first i columns have their point of row m, the others not yet
use Rattle.cell_pair.specs.Tiles.{Part}
use Rattle.cell_pair.proofs.tiles.Columns.add_row.Given as goal

abbrev pub invariant-loop-i : goal.invariant-loop-i
invariant-loop-i g l = Part l.array l.fn.comb.first l.fn.comb.step l.fn.comb.count l.m 1 l.i l.self.lows l.self.highs l.self.hits
