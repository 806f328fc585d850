use Rattle.std.proofs.Common.{◌*◌, ◌+◌, SFits, w64, arith, rules}
use Rattle.cube_spec.specs.Boxes.{sum_z}
use Rattle.cell_spec.specs.Wrapped.{residue, wrapped}
use Rattle.cell_spec.specs.Rows.{every}
use Rattle.cell_spec.proofs.Bits.{wrapping_onto}
use Rattle.cell_spec.proofs.Writing.{row_fits, sum_more}
use Rattle.cell_row.proofs.Values.{read}
use Rattle.cell_row.proofs.combs.sum_every.Goals as goal

pub loop-m-init : goal.loop-m-init
unfolding sum_z wrapped residue
loop-m-init g c = search rules

pub loop-m-preserved : goal.loop-m-preserved
unfolding every
loop-m-preserved g c =
    let a = c.args in
    let f : SFits w64 c.wide-sum.result = search rules in
    let x = read _ a.values.now (a.at + c.loop-m.m * a.step) _ _ c.index-values-at.is c.wide-sum.ensures (omega (arith, c.requires, row_fits c.loop-m.m a.n a.step (omega arith))) in
    sum_more _ _ _ _ _ c.loop-m.invariant x (wrapping_onto _ _ c.loop-m.auto.sum-fits.fits f)
