use Rattle.std.proofs.Common.{◌≡◌, ◌+◌, ◌-◌, ◌*◌, ◌%◌, ◌≤◌, refl, arith}
use Rattle.cell_spec.specs.Rows.{placed, written}
use Rattle.cell_row.proofs.Combing.{within_part, part_written}
use Rattle.cell_pair.proofs.runs.sum_runs.Goals as goal

pub loop-k-init : goal.loop-k-init
unfolding written placed
loop-k-init c = (refl, refl)

pub sum_some-requires : goal.sum_some-requires
sum_some-requires c =
    let e = c.part.ensures in
    let b = c.requires in
    let h : 16 * c.loop-k.k + 16 ≤ c.args.comb.count = omega arith in
    (rw e (within_part c.args.comb _ b.0 _ _ h), rw e b.1, rw e (omega arith), rw e b.2, rw e (omega arith), rw e (omega arith))

pub loop-k-preserved : goal.loop-k-preserved
loop-k-preserved c =
    let e = c.sum_some.ensures in
    let p = c.part.ensures in
    let s = c.loop-k.invariant in
    (rw (e.0, s.0, p) (part_written _ c.args.comb _ _ _ 16 _ (omega arith)), rw (e.1, s.1, p) (part_written _ c.args.comb _ _ _ 16 _ (omega arith)))

pub sum_some-requires-then-rest-gt0 : goal.sum_some-requires-then-rest-gt0
sum_some-requires-then-rest-gt0 c =
    let n = c.args.comb.count in
    let e = c.part-then-rest-gt0.ensures in
    let b = c.requires in
    let h : n - n % 16 + n % 16 ≤ n = omega arith in
    (rw e (within_part c.args.comb _ b.0 _ _ h), rw e b.1, rw e (omega arith), rw e b.2, rw e (omega arith), rw e (omega arith))

pub returns-then-rest-gt0 : goal.returns-then-rest-gt0
returns-then-rest-gt0 c =
    let n = c.args.comb.count in
    let q : 16 * c.loop-k.k ≡ n - n % 16 = omega arith in
    let e = c.sum_some-then-rest-gt0.ensures in
    let p = c.part-then-rest-gt0.ensures in
    let s = c.loop-k.invariant in
    (rw (e.0, s.0, p, q) (part_written _ c.args.comb _ _ _ _ n (omega arith)), rw (e.1, s.1, p, q) (part_written _ c.args.comb _ _ _ _ n (omega arith)))
