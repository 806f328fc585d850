use Rattle.std.proofs.Common.{◌≡◌, ◌+◌, ◌-◌, ◌*◌, ◌/◌, ◌%◌, refl, arith}
use Rattle.std.proofs.Math.Nat.{zero-mul, add-mul, one-mul, div-add-mod'}
use Rattle.cell_spec.specs.Rows.{placed, written}
use Rattle.cell_row.proofs.Combing.{part_written}
use Rattle.cell_pair.proofs.rows.sum_tiles.Goals as goal

pub loop-k-init : goal.loop-k-init
unfolding written placed
loop-k-init g c = (rw zero-mul refl, rw zero-mul refl)

pub loop-k-preserved : goal.loop-k-preserved
loop-k-preserved g c =
    let N = g.row.N in
    let k = c.loop-k.k in
    let e = c.sum_tile.ensures in
    let p = c.part.ensures in
    let s = c.loop-k.invariant in
    let m : k * N + N ≡ (k + 1) * N = omega (arith, add-mul k 1 N, one-mul N) in
    (rw (e.0, s.0, p) (part_written _ c.args.comb _ _ _ N _ m), rw (e.1, s.1, p) (part_written _ c.args.comb _ _ _ N _ m))

pub returns-then-rest-gt0 : goal.returns-then-rest-gt0
returns-then-rest-gt0 g c =
    let N = g.row.N in
    let n = c.args.comb.count in
    let e = c.sum_tile-then-rest-gt0.ensures in
    let p = c.part-then-rest-gt0.ensures in
    let s = c.loop-k.invariant in
    let d : c.loop-k.k ≡ n / N = omega arith in
    let q : c.loop-k.k * N ≡ n - n % N = rw d (omega (arith, div-add-mod' n N)) in
    let m : n - n % N + n % N ≡ n = omega (arith, div-add-mod' n N) in
    (rw (e.0, s.0, p, q) (part_written _ c.args.comb _ _ _ _ n m), rw (e.1, s.1, p, q) (part_written _ c.args.comb _ _ _ _ n m))
