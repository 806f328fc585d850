use Rattle.std.proofs.Common.{SFits, w64, to_z-of_z, refl, rules}
use Rattle.cell_spec.specs.Rows.{placed, written, combs}
use Rattle.cell_spec.proofs.Writing.{one_more}
use Rattle.cell_pair.proofs.summing.sum_each.Goals as goal

pub loop-i-init : goal.loop-i-init
unfolding written placed
loop-i-init c = (refl, refl)

pub loop-i-preserved : goal.loop-i-preserved
unfolding combs
loop-i-preserved c =
    let r = c.sum_points-both in
    let f : SFits w64 r.result.sum = search rules in
    let h : SFits w64 r.result.count = search rules in (
      rw (to_z-of_z f, c.loop-i.invariant.0) (one_more _ _ _ _ _ r.ensures.0),
      rw (to_z-of_z h, c.loop-i.invariant.1) (one_more _ _ _ _ _ r.ensures.1),
    )
