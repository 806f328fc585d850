use Rattle.std.proofs.Common.{◌≡◌, get_or, refl, arith}
use Rattle.std.proofs.Math.Nat.{zero-mul}
use Rattle.cell_spec.specs.Rows.{placed}
use Rattle.cell_spec.proofs.Parts.{plane_put, plane_size, plane_fits, plane_reads}
use Rattle.cell_copy.proofs.put_plane.Goals as goal

pub loop-row-init : goal.loop-row-init
unfolding placed
loop-row-init c = rw zero-mul refl

pub overflow_mul-row : goal.overflow_mul-row
overflow_mul-row c =
    omega (arith, (plane_fits c.requires _ c.loop-row-test.true).1)

pub overflow_add-src : goal.overflow_add-src
overflow_add-src c =
    omega (arith, (plane_fits c.requires _ c.loop-row-test.true).1)

pub overflow_mul-row-in-loop-row : goal.overflow_mul-row-in-loop-row
overflow_mul-row-in-loop-row c =
    omega (arith, plane_reads c.requires _ c.loop-row-test.true)

pub overflow_add-at : goal.overflow_add-at
overflow_add-at c =
    omega (arith, plane_reads c.requires _ c.loop-row-test.true)

pub put_line-requires : goal.put_line-requires
put_line-requires c =
    rw c.loop-row.auto.res (plane_fits c.requires _ c.loop-row-test.true)

pub loop-row-preserved : goal.loop-row-preserved
loop-row-preserved c =
    rw (c.put_line.ensures, c.loop-row.invariant) (plane_put c.args.res.now c.args.work.now c.args.extents.now c.args.strides.now c.args.d c.args.at c.args.src c.loop-row.row)

pub overflow_mul-result : goal.overflow_mul-result
overflow_mul-result c =
    omega (arith, c.requires.fits, plane_size c.requires)

pub returns : goal.returns
returns c =
    let x : c.loop-row.row ≡ get_or c.args.extents.now c.args.d 0 = omega arith in
    rw (plane_size c.requires) (refl, rw x at c.loop-row.invariant)
