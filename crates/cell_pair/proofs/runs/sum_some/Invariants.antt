-- the first i columns hold their runs
use Rattle.std.proofs.Common.{◌≡◌, length}
use Rattle.cell_pair.specs.Tiles.{Tile}
use Rattle.cell_pair.proofs.runs.sum_some.Given as goal

abbrev pub invariant-loop-i : goal.invariant-loop-i
invariant-loop-i l =
    let s = l.columns in
    (length s.lows ≡ 16) × (length s.highs ≡ 16) × (length s.hits ≡ 16) × (Tile l.array l.comb.first l.comb.apart 1 l.i l.comb.values s.lows s.highs s.hits)
