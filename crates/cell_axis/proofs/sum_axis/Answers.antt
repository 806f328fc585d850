use Rattle.std.proofs.Common.{ap, ◌∙◌, ◌++◌, ◌+◌, ◌*◌, ◌≤◌, take, arith}
use Rattle.std.proofs.lemmas.List.{map-id}
use Rattle.std.proofs.Math.Nat.{mul-one}
use Rattle.cell_spec.specs.Rows.{zeros}
use Rattle.cell_spec.proofs.Writing.{same}
use Rattle.cell_spec.proofs.Combs.{comb_run, axis_none, summed_right}
use Rattle.cell_axis.proofs.sum_axis.Goals as goal

pub returns-then-e-eq0 : goal.returns-then-e-eq0
unfolding zeros
returns-then-e-eq0 c = c.clear.ensures ∙ same _ _ _ _ _ (λ i h. rw c.if-e-eq0.true (axis_none _ _ i))

pub returns-then-inner-eq1 : goal.returns-then-inner-eq1
returns-then-inner-eq1 c =
    let a = c.args in
    let s = c.split_at_mut-parent.ensures in
    let b = c.requires in
    let h : a.src + a.outer * (a.e * 1) ≤ a.dst = rw c.if-inner-eq1.true at b.0 in
    rw (c.if-inner-eq1.true, mul-one, c.sum_combs.ensures, map-id c.split_at_mut-parent.result.0.now, s.front, s.back)
    (ap (λ l. take a.dst a.work.now ++ l) (same _ _ _ _ _ (λ i k. comb_run _ _ _ i)) ∙ rw mul-one at (summed_right a.work.now a.src a.dst a.outer a.e 1 h (omega arith)))

pub returns-else-inner-eq1 : goal.returns-else-inner-eq1
returns-else-inner-eq1 c =
    let s = c.split_at_mut-parent.ensures in
    rw (c.sum_blocks.ensures, s.front, s.back) (summed_right _ _ _ _ _ _ c.requires.0 (omega arith))
