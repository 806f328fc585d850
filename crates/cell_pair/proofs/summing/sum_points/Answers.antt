use Rattle.std.proofs.Common.{◌+◌, ◌*◌, ◌<◌, length, get_or, pos, refl, sym, ◌∙◌, SFits, w32, w64, to_z-of_z, arith, rules}
use Rattle.cube_spec.specs.Boxes.{sum_z}
use Rattle.cube_spec.proofs.Shots.{value_at, shot_at}
use Rattle.cell_spec.specs.Wrapped.{residue, wrapped}
use Rattle.cell_spec.specs.Rows.{every}
use Rattle.cell_spec.proofs.Bits.{wrapping_onto}
use Rattle.cell_spec.proofs.Writing.{row_fits, sum_more}
use Rattle.cell_pair.proofs.summing.sum_points.Goals as goal

pub loop-m-init : goal.loop-m-init
unfolding sum_z wrapped residue
loop-m-init c = (refl, refl)

pub loop-m-preserved : goal.loop-m-preserved
unfolding every
loop-m-preserved c =
    let a = c.args in
    let p = a.at + c.loop-m.m * a.step in
    let b : p < length a.array.now = omega (arith, c.requires, row_fits c.loop-m.m a.n a.step (omega arith)) in
    let f : SFits w32 (get_or a.array.now p (pos 0)) = search rules in
    let fv : SFits w64 c.value-sum.result = search rules in
    let fs : SFits w64 c.shot-count.result = search rules in
    let v = rw (to_z-of_z f) at c.value-sum.ensures in
    let s = rw (to_z-of_z f) at c.shot-count.ensures in (
      sum_more _ _ _ _ _ c.loop-m.invariant.0 (v ∙ sym (value_at a.array.now p)) (wrapping_onto _ _ c.loop-m.auto.sum-fits.fits fv),
      sum_more _ _ _ _ _ c.loop-m.invariant.1 (s ∙ sym (shot_at a.array.now p b)) (wrapping_onto _ _ c.loop-m.auto.count-fits.fits fs),
    )
