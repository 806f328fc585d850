use Rattle.std.proofs.Common.{◌≡◌, ◌+◌, ◌*◌, ◌<◌, length, ◌∙◌, refl, arith}
use Rattle.std.proofs.lemmas.List.{map-id}
use Rattle.cell_spec.specs.Rows.{zeros}
use Rattle.cell_spec.proofs.Writing.{same}
use Rattle.cell_spec.proofs.Combs.{comb_none, rows_fit, rows_next}
use Rattle.cell_sum.proofs.Fours.{rows_four}
use Rattle.cell_sum.proofs.summing.sum_rows.Goals as goal

pub loop-k-init : goal.loop-k-init
unfolding zeros
loop-k-init c = c.clear.ensures ∙ same _ _ _ _ _ (λ i h. comb_none _ _ _ _ i)

pub add_four-requires : goal.add_four-requires
add_four-requires c =
    let comb = c.args.comb in
    let b = c.requires.0.0 in
    let h : comb.first + comb.count * 1 + comb.values * comb.step < length c.args.array.now + 1 + comb.step = rw c.requires.1 at b in
    (omega (arith, h, rows_fit (4 * c.loop-k.k) 4 comb.values comb.step (omega arith)), omega arith)

pub loop-k-preserved : goal.loop-k-preserved
loop-k-preserved c =
    let q : 4 * c.loop-k.k + 4 ≡ 4 * (c.loop-k.k + 1) = omega arith in
    rw (c.add_four.ensures, c.loop-k.invariant) (rows_four _ _ _ _ _ _ (4 * c.loop-k.k) (omega arith) ∙ rw q refl)

pub loop-m-preserved : goal.loop-m-preserved
loop-m-preserved c = rw (c.add_values.ensures, c.loop-m.invariant, map-id c.args.array.now) (rows_next _ _ _ _ _ _ _ (omega arith))
