-- `merge_first` meets its contract: each return is one law of merging.
use Prim.Native.Nat.{◌+◌, ◌<◌}
use native.Mathlib.Omega.{arith}
use Rattle.cell_spec.proofs.Merging.{first_out, first_fits, first_merged}
use Rattle.run_merge.proofs.merging.merge_first.Goals as goal

pub returns-then-e-eq1 : goal.returns-then-e-eq1
returns-then-e-eq1 c = first_out c.requires c.if-e-eq1.true

pub overflow_mul-f : goal.overflow_mul-f
overflow_mul-f c =
    let h : c.args.d + 1 < c.args.n = omega (arith, c.requires.below, c.if-d-n.false) in
    omega (arith, (first_fits c.requires h).1)

pub overflow_mul-extents : goal.overflow_mul-extents
overflow_mul-extents c =
    let h : c.args.d + 1 < c.args.n = omega (arith, c.requires.below, c.if-d-n.false) in
    omega (arith, (first_fits c.requires h).0)

pub returns : goal.returns
returns c =
    let h : c.args.d + 1 < c.args.n = omega (arith, c.requires.below, c.if-d-n.false) in
    first_merged c.requires h c.if-strides-d.false
