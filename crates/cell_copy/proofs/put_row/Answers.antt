use Rattle.std.proofs.Common.{◌+◌, get_or, pos, refl, SFits, w64, to_z-of_z, rules}
use Rattle.cell_spec.specs.Rows.{from, placed, written}
use Rattle.cell_spec.proofs.Writing.{one_more}
use Rattle.cell_copy.proofs.put_row.Goals as goal

pub loop-i-init : goal.loop-i-init
unfolding written placed
loop-i-init c = refl

pub loop-i-preserved : goal.loop-i-preserved
unfolding from
loop-i-preserved c =
    let a = c.args in
    let f : SFits w64 (get_or a.work.now (a.src + c.loop-i.i) (pos 0)) = search rules in
    rw (to_z-of_z f, c.loop-i.invariant) (one_more _ _ _ _ _ refl)
