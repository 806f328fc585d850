use Rattle.std.proofs.Common.{◌≡◌, ◌+◌, ◌*◌, get_or, pos, ap, SFits, w32, to_z-of_z, arith, rules}
use Rattle.cell_pair.proofs.Tiling.{none, low_is, high_is, count_is, point_more}
use Rattle.cell_pair.proofs.runs.sum_run.Goals as goal

pub loop-m-init : goal.loop-m-init
loop-m-init c = none _ _ _

pub loop-m-preserved : goal.loop-m-preserved
loop-m-preserved c =
    let a = c.args in
    let p = a.at + c.loop-m.m in
    let q : p ≡ a.at + c.loop-m.m * 1 = omega arith in
    let f : SFits w32 (get_or a.array.now p (pos 0)) = search rules in
    let e = rw (to_z-of_z f) at c.raised-b.ensures in
    let k = c.counted-hits.ensures in
    let g = ap (λ j. get_or a.array.now j (pos 0)) q in
    rw (low_is _ _ e, high_is _ _ e, count_is _ _ _ e k.1 k.2) (point_more _ _ _ _ _ _ _ _ g f (omega arith) c.loop-m.invariant)
