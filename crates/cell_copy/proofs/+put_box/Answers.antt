use Rattle.std.proofs.Common.{◌≡◌, ◌∙◌, suc, ◌-◌, ◌+◌, get_or, pos, refl, to_z-of_z, SFits, w64, arith, rules, add-zero}
use Rattle.std.proofs.Math.Nat.{zero-mul, add-mul, one-mul}
use Rattle.cell_spec.specs.Rows.{placed}
use Rattle.cell_spec.specs.Strides.{box_size}
use Rattle.cell_spec.proofs.Parts.{cell_size, cell_put, part_fits, part_put, part_reads, size_of, row_fits_box, row_size, row_put}
use Rattle.cell_copy.proofs.+put_box.Goals as goal

pub returns-then-m-eq0 : goal.returns-then-m-eq0
returns-then-m-eq0 t c = let a = c.args in
    let q = c.if-m-eq0.true in
    let f : SFits w64 (get_or a.work.now a.src (pos 0)) = search rules in
    (cell_size _ _ _ q, rw (to_z-of_z f) (cell_put a.res.now a.work.now a.extents.now a.strides.now a.m a.d a.at a.src q))

pub put_line-requires : goal.put_line-requires
put_line-requires t c = row_fits_box c.if-m-eq1.true c.requires

pub returns-then-m-eq1 : goal.returns-then-m-eq1
returns-then-m-eq1 t c =
    let q = c.if-m-eq1.true in
    (row_size _ _ _ q, c.put_line.ensures ∙ row_put _ _ _ _ _ _ _ q)

pub loop-x-init : goal.loop-x-init
unfolding placed
loop-x-init t c = (rw (zero-mul, add-zero) refl, rw zero-mul refl)

pub overflow_mul-first : goal.overflow_mul-first
overflow_mul-first t c =
    let q : c.args.m ≡ suc (c.args.m - 1) = omega (arith, c.if-m-eq0.false) in
    omega (arith, part_reads _ _ q _ c.requires.within _ c.loop-x-test.true)

pub overflow_add-first : goal.overflow_add-first
overflow_add-first t c =
    let q : c.args.m ≡ suc (c.args.m - 1) = omega (arith, c.if-m-eq0.false) in
    omega (arith, part_reads _ _ q _ c.requires.within _ c.loop-x-test.true)

pub put_box-r-requires : goal.put_box-r-requires
put_box-r-requires t c =
    let q : c.args.m ≡ suc (c.args.m - 1) = omega (arith, c.if-m-eq0.false) in
    (omega arith, rw (c.loop-x.auto.res, c.loop-x.invariant.0) (part_fits _ _ q _ c.requires _ c.loop-x-test.true))

pub overflow_add-next : goal.overflow_add-next
overflow_add-next t c =
    let q : c.args.m ≡ suc (c.args.m - 1) = omega (arith, c.if-m-eq0.false) in
    omega (arith, (part_fits _ _ q _ c.requires _ c.loop-x-test.true).fits)

pub loop-x-preserved : goal.loop-x-preserved
loop-x-preserved t c =
    let q : c.args.m ≡ suc (c.args.m - 1) = omega (arith, c.if-m-eq0.false) in
    let r = box_size c.args.extents.now (c.args.m - 1) (c.args.d + 1) in (
      omega (arith, c.put_box-r.ensures.0, add-mul c.loop-x.x 1 r, one-mul r),
      rw (c.put_box-r.ensures.1, c.loop-x.invariant.0, c.loop-x.invariant.1) (part_put _ _ q _ _ _ _ _ _),
    )

pub returns : goal.returns
returns t c =
    let q : c.args.m ≡ suc (c.args.m - 1) = omega (arith, c.if-m-eq0.false) in
    let x : c.loop-x.x ≡ get_or c.args.extents.now c.args.d 0 = omega arith in
    rw (size_of _ q _) (omega (arith, rw x at c.loop-x.invariant.0), rw x at c.loop-x.invariant.1)
