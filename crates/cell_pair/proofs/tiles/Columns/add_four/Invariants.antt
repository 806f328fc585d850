-- the first i columns have their points of rows m to m + 3, the others not yet
use Rattle.cell_pair.specs.Tiles.{Part}
use Rattle.cell_pair.proofs.tiles.Columns.add_four.Given as goal

abbrev pub invariant-loop-i : goal.invariant-loop-i
invariant-loop-i g l = Part l.array l.fn.comb.first l.t l.fn.comb.count l.m 4 l.i l.self.lows l.self.highs l.self.hits
