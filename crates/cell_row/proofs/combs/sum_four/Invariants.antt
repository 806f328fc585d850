-- the four sums of the first m values each
use Rattle.std.proofs.Common.{◌≡◌, map}
use Rattle.cell_spec.specs.Rows.{combs}
use Rattle.cell_row.proofs.combs.sum_four.Given as goal

abbrev pub invariant-loop-m : goal.invariant-loop-m
invariant-loop-m g l =
    let s = combs (map g.T.Addend.value l.values) l.comb.first l.u l.m l.comb.step in
    (l.a ≡ s 0) × (l.b ≡ s 1) × (l.c ≡ s 2) × (l.d ≡ s 3)
