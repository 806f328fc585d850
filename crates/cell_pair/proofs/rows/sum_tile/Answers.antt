use Rattle.std.proofs.Common.{◌≡◌, ◌∙◌, arith}
use Rattle.cell_spec.proofs.Writing.{same}
use Rattle.cell_pair.proofs.Tiling.{tile_none, tile_sums, tile_counts}
use Rattle.cell_pair.proofs.rows.sum_tile.Goals as goal

pub loop-k-init : goal.loop-k-init
loop-k-init g c = let e = c.new-columns.ensures in rw (e.0, e.1, e.2) (tile_none g.row.N _ _ _ _ c.requires.3)

pub returns : goal.returns
returns g c =
    let q : c.loop-m.m ≡ c.args.comb.values = omega arith in
    let p = rw (q, ← c.requires.2) at c.loop-m.invariant in
    let b = c.requires.4 in
    (c.write_sums.ensures ∙ same _ _ _ _ _ (tile_sums p b), c.write_counts.ensures ∙ same _ _ _ _ _ (tile_counts p b))
