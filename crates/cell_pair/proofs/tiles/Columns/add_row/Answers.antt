use Rattle.std.proofs.Common.{◌+◌, ◌*◌, ◌<◌, get_or, pos, refl, SFits, w32, to_z-of_z, arith, rules}
use Rattle.cell_row.proofs.Combing.{within_row}
use Rattle.cell_pair.proofs.Tiling.{row_more}
use Rattle.cell_pair.proofs.tiles.Columns.add_row.Goals as goal

pub loop-i-preserved : goal.loop-i-preserved
loop-i-preserved g c =
    let comb = c.args.comb in
    let b = c.requires in
    let f : SFits w32 (get_or c.args.array.now (comb.first + c.args.m * comb.step + c.loop-i.i) (pos 0)) = search rules in
    let e = rw (to_z-of_z f) at c.add_point.ensures in
    let i : c.loop-i.i < comb.count = omega arith in
    row_more _ _ _ _ c.loop-i.invariant i refl f (within_row comb _ b.0 b.1 _ c.args.m i b.4) e.0 e.1 e.2
