use Rattle.std.proofs.Common.{to_z-of_z, refl}
use Rattle.cell_pair.proofs.Tiling.{low_is, high_is, count_is}
use Rattle.cell_pair.proofs.tiles.Columns.add_point.Goals as goal

pub returns : goal.returns
returns g c =
    let k = c.counted.ensures in
    let e = rw (to_z-of_z c.ranges.x) at c.raised-b.ensures in
    (rw (low_is _ _ e) refl, rw (high_is _ _ e) refl, rw (count_is _ _ _ e k.1 k.2) refl)
