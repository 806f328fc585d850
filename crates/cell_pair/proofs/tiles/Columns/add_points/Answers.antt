use Rattle.std.proofs.Common.{to_z-of_z, refl}
use Rattle.cell_pair.proofs.Tiling.{low_is, high_is, count_is}
use Rattle.cell_pair.proofs.tiles.Columns.add_points.Goals as goal

pub returns : goal.returns
returns g c =
    let e₁ = rw (to_z-of_z c.ranges.w) at c.raised-a.ensures in
    let e₂ = rw (to_z-of_z c.ranges.x) at c.raised-b.ensures in
    let e₃ = rw (to_z-of_z c.ranges.y) at c.raised-c.ensures in
    let e₄ = rw (to_z-of_z c.ranges.z) at c.raised-d.ensures in
    let k₁ = c.counted.ensures in
    let k₂ = c.counted-2.ensures in
    let k₃ = c.counted-3.ensures in
    let k₄ = c.counted-4.ensures in (
      rw (low_is _ _ e₁, low_is _ _ e₂, low_is _ _ e₃, low_is _ _ e₄) refl,
      rw (high_is _ _ e₁, high_is _ _ e₂, high_is _ _ e₃, high_is _ _ e₄) refl,
      rw (count_is _ _ _ e₁ k₁.1 k₁.2, count_is _ _ _ e₂ k₂.1 k₂.2, count_is _ _ _ e₃ k₃.1 k₃.2, count_is _ _ _ e₄ k₄.1 k₄.2) refl,
    )
