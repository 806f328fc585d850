use Rattle.std.proofs.Common.{◌≡◌, ◌+◌, ◌-◌, ◌*◌, ◌%◌, ◌≤◌, refl, arith}
use Rattle.cell_spec.specs.Rows.{placed, written}
use Rattle.cell_row.proofs.Combing.{within_first, within_part, part_written}
use Rattle.cell_row.proofs.combs.sum_combs.Goals as goal

pub loop-k-init : goal.loop-k-init
unfolding written placed
loop-k-init g c = refl

pub part-requires : goal.part-requires
part-requires g c = omega (arith, within_first c.args.comb _ c.requires.0 (4 * c.loop-k.k) (omega arith))

pub sum_four-requires : goal.sum_four-requires
sum_four-requires g c =
    let h : 4 * c.loop-k.k + 4 ≤ c.args.comb.count = omega arith in
    (rw c.part.ensures (within_part c.args.comb _ c.requires.0 _ _ h), rw c.part.ensures (omega arith), omega arith)

pub loop-k-preserved : goal.loop-k-preserved
loop-k-preserved g c = rw (c.sum_four.ensures, c.loop-k.invariant, c.part.ensures) (part_written _ c.args.comb _ _ _ 4 _ (omega arith))

pub sum_each-requires : goal.sum_each-requires
sum_each-requires g c =
    let n = c.args.comb.count in
    let e = c.part-then-rest-gt0.ensures in
    let h : n - n % 4 + n % 4 ≤ n = omega arith in
    (rw e (within_part c.args.comb _ c.requires.0 _ _ h), rw e (omega arith))

pub returns-then-rest-gt0 : goal.returns-then-rest-gt0
returns-then-rest-gt0 g c =
    let n = c.args.comb.count in
    let q : 4 * c.loop-k.k ≡ n - n % 4 = omega arith in
    rw (c.sum_each.ensures, c.loop-k.invariant, c.part-then-rest-gt0.ensures, q) (part_written _ c.args.comb _ _ _ _ n (omega arith))
