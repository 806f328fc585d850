use Rattle.std.proofs.Common.{◌≡◌, ◌∙◌, suc, ◌-◌, ◌+◌, get_or, refl, to_z-of_z, SFits, w64, arith, rules, add-zero}
use Rattle.std.proofs.Math.Nat.{zero-mul, add-mul, one-mul}
use Rattle.std.proofs.lemmas.List.{map-id}
use Rattle.cell_spec.specs.Rows.{placed, written}
use Rattle.cell_spec.specs.Strides.{box_size}
use Rattle.cell_spec.proofs.Parts.{size_of, cell_size, row_size}
use Rattle.cell_spec.proofs.Summing.{sums_part, sums_more, sums_reads, row_sums_fit, row_sums_lem, one_sum}
use Rattle.cell_sum.proofs.summing.+sum_box.Goals as goal

pub returns-then-m-eq0 : goal.returns-then-m-eq0
returns-then-m-eq0 t c =
    let q = c.if-m-eq0.true in
    let f : SFits w64 c.sum_every.result = search rules in
    (cell_size _ _ _ q, rw (to_z-of_z f, c.sum_every.ensures, map-id c.args.array.now) (one_sum _ _ _ _ _ _ _ _ _ _ q))

pub sum_line-requires : goal.sum_line-requires
sum_line-requires t c = let b = row_sums_fit c.if-m-eq1.true c.requires in ((b.0, b.1), b.2)

pub returns-then-m-eq1 : goal.returns-then-m-eq1
returns-then-m-eq1 t c =
    let q = c.if-m-eq1.true in
    (row_size _ _ _ q, c.sum_line.ensures ∙ row_sums_lem _ _ _ _ _ _ _ _ _ _ q)

pub loop-x-init : goal.loop-x-init
unfolding written placed
loop-x-init t c = (rw (zero-mul, add-zero) refl, rw zero-mul refl)

pub overflow_mul-x : goal.overflow_mul-x
overflow_mul-x t c =
    let q : c.args.m ≡ suc (c.args.m - 1) = omega (arith, c.if-m-eq0.false) in
    omega (arith, sums_reads _ _ q _ c.requires _ c.loop-x-test.true)

pub overflow_add-at : goal.overflow_add-at
overflow_add-at t c =
    let q : c.args.m ≡ suc (c.args.m - 1) = omega (arith, c.if-m-eq0.false) in
    omega (arith, sums_reads _ _ q _ c.requires _ c.loop-x-test.true)

pub sum_box-size-requires : goal.sum_box-size-requires
sum_box-size-requires t c =
    let q : c.args.m ≡ suc (c.args.m - 1) = omega (arith, c.if-m-eq0.false) in
    (omega arith, rw (c.loop-x.auto.work, c.loop-x.invariant.0) (sums_part _ _ q _ c.requires _ c.loop-x-test.true))

pub overflow_add-to : goal.overflow_add-to
overflow_add-to t c =
    let q : c.args.m ≡ suc (c.args.m - 1) = omega (arith, c.if-m-eq0.false) in
    omega (arith, (sums_part _ _ q _ c.requires _ c.loop-x-test.true).writes)

pub loop-x-preserved : goal.loop-x-preserved
loop-x-preserved t c =
    let q : c.args.m ≡ suc (c.args.m - 1) = omega (arith, c.if-m-eq0.false) in
    let r = box_size c.args.extents.now (c.args.m - 1) (c.args.d + 1) in (
      omega (arith, c.sum_box-size.ensures.0, add-mul c.loop-x.x 1 r, one-mul r),
      rw (c.sum_box-size.ensures.1, c.loop-x.invariant.0, c.loop-x.invariant.1) (sums_more _ _ q _ _ _ _ _ _ _ _),
    )

pub returns : goal.returns
returns t c =
    let q : c.args.m ≡ suc (c.args.m - 1) = omega (arith, c.if-m-eq0.false) in
    let x : c.loop-x.x ≡ get_or c.args.extents.now c.args.d 0 = omega arith in
    rw (size_of _ q _) (omega (arith, rw x at c.loop-x.invariant.0), rw x at c.loop-x.invariant.1)
