use Rattle.std.proofs.Common.{◌+◌, get_or, pos, refl, SFits, w64, arith, rules}
use Rattle.cell_spec.specs.Rows.{from, placed, written}
use Rattle.cell_spec.proofs.Bits.{wrapping}
use Rattle.cell_spec.proofs.Writing.{added_more}
use Rattle.cell_row.proofs.Values.{read}
use Rattle.cell_row.proofs.adding.add_values.Goals as goal

pub loop-i-init : goal.loop-i-init
unfolding written placed
loop-i-init g c = refl

pub loop-i-preserved : goal.loop-i-preserved
unfolding from
loop-i-preserved g c =
    let a = c.args in
    let i = c.loop-i.i in
    let f : SFits w64 (get_or c.loop-i.work (a.dst + i) (pos 0)) = search rules in
    let h : SFits w64 c.wide.result = search rules in
    let x = read _ a.values.now (a.src + i) _ _ c.index-values-src.is c.wide.ensures (omega (arith, c.requires)) in
    rw (wrapping _ _ f h, c.loop-i.invariant) (added_more _ _ _ _ _ x)
