use native.Mathlib.Omega.{arith}
use lib.ListN.{length}
use Rattle.cube_spec.specs.Choices.{length_of}
use Rattle.plan_spec.proofs.Turns.{fits_points}
use Rattle.plan_spec.proofs.Bounding.{from_next, from_small, from_end}
use Rattle.plan_rule.proofs.rule.product_from.Goals as goal

pub overflow_mul-product : goal.overflow_mul-product
overflow_mul-product c =
    let l = c.args.lengths.now in
    rw c.from-product.ensures (fits_points _ (from_small (length_of l) (length l) c.requires.0 c.args.i c.loop-j.j c.loop-j.product (omega arith) c.loop-j-test.true c.loop-j.invariant))

pub loop-j-preserved : goal.loop-j-preserved
loop-j-preserved c =
    let l = c.args.lengths.now in
    rw c.from-product.ensures (from_next (length_of l) (length l) c.requires.0 c.args.i c.loop-j.j c.loop-j.product (omega arith) c.loop-j-test.true c.loop-j.invariant)

pub returns : goal.returns
returns c =
    let l = c.args.lengths.now in
    from_end (length_of l) (length l) c.requires.0 c.args.i c.loop-j.j c.loop-j.product c.loop-j-test.false c.loop-j.invariant
