use Rattle.std.proofs.Common.{◌+◌, get_or, pos, refl, SFits, w64, rules}
use Rattle.std.proofs.lemmas.List.{map-id}
use Rattle.cell_spec.specs.Rows.{placed, written}
use Rattle.cell_spec.proofs.Bits.{wrapping}
use Rattle.cell_spec.proofs.Writing.{added_more}
use Rattle.cell_sum.proofs.Fours.{sum_here}
use Rattle.cell_sum.proofs.summing.add_four.Goals as goal

pub loop-i-init : goal.loop-i-init
unfolding written placed
loop-i-init c = refl

pub loop-i-preserved : goal.loop-i-preserved
loop-i-preserved c =
    let a = c.args in
    let sum = c.sum_every-sum in
    let x : SFits w64 sum.result = search rules in
    let o : SFits w64 (get_or c.loop-i.work (a.dst + c.loop-i.i) (pos 0)) = search rules in
    let e = sum_here _ _ _ _ _ _ (rw (map-id a.array.now) at sum.ensures) in
    rw (wrapping _ _ o x, c.loop-i.invariant) (added_more _ _ _ _ _ e)
