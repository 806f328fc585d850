use Rattle.std.proofs.Common.{refl, SFits, w64, to_z-of_z, rules}
use Rattle.cell_spec.specs.Rows.{placed, written, combs}
use Rattle.cell_spec.proofs.Writing.{one_more}
use Rattle.cell_row.proofs.combs.sum_each.Goals as goal

pub loop-i-init : goal.loop-i-init
unfolding written placed
loop-i-init g c = refl

pub loop-i-preserved : goal.loop-i-preserved
unfolding combs
loop-i-preserved g c =
    let f : SFits w64 c.sum_every.result = search rules in
    rw (to_z-of_z f, c.loop-i.invariant) (one_more _ _ _ _ _ c.sum_every.ensures)
