use Rattle.std.proofs.Common.{SFits, w64, to_z-of_z, refl, rules}
use Rattle.cell_spec.specs.Rows.{placed, written}
use Rattle.cell_spec.proofs.Writing.{one_more}
use Rattle.cell_pair.specs.Tiles.{sums_of}
use Rattle.cell_pair.proofs.tiles.write_sums.Goals as goal

pub loop-i-init : goal.loop-i-init
unfolding written placed
loop-i-init c = refl

pub loop-i-preserved : goal.loop-i-preserved
unfolding sums_of
loop-i-preserved c =
    let f : SFits w64 c.lowered.result = search rules in
    rw (to_z-of_z f, c.loop-i.invariant) (one_more _ _ _ _ _ c.lowered.ensures)
