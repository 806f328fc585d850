use Rattle.std.proofs.Common.{length}
use Rattle.std.proofs.Math.Nat.{le_antisymm}
use Rattle.link_spec.proofs.Pricing.{term_fits, sum_starts, sum_fits, sum_next, sum_skips, sum_ends}
use Rattle.link_division.proofs.pricing.shares_cost.Goals as goal
use Rattle.link_division.proofs.pricing.shares_cost.Goals.{else-fare-gt0, then-fare-gt0}

pub loop-i-init : goal.loop-i-init
loop-i-init c = let a = c.args in sum_starts a.lens.now a.fares.now (length a.lens.now)

pub overflow_mul-sum : goal.overflow_mul-sum
overflow_mul-sum c =
    let a = c.args in
    record { fits = term_fits a.lens.now a.fares.now (length a.lens.now) c.loop-i.i c.loop-i.sum c.share_of.result c.requires c.loop-i-test.true c.share_of.ensures }

pub overflow_add-sum : goal.overflow_add-sum
overflow_add-sum c =
    let a = c.args in
    record { fits = sum_fits a.lens.now a.fares.now (length a.lens.now) c.loop-i.i c.loop-i.sum c.share_of.result c.requires c.loop-i-test.true c.share_of.ensures c.loop-i.invariant }

pub loop-i-preserved : goal.loop-i-preserved
loop-i-preserved c =
    let h = c.loop-i-test.true in
    let a = c.args in
    let n = length a.lens.now in
    elim c.if-fare-gt0.branch [ then-fare-gt0 w ↦ sum_next a.lens.now a.fares.now n c.loop-i.i c.loop-i.sum w.share_of.result c.requires h w.share_of.ensures c.if-fare-gt0.sum w.sum-is c.loop-i.invariant | else-fare-gt0 w ↦ sum_skips a.lens.now a.fares.now n c.loop-i.i c.loop-i.sum c.if-fare-gt0.sum w.if-fare-gt0.false w.sum-is c.loop-i.invariant ]

pub returns : goal.returns
returns c =
    let a = c.args in
    sum_ends a.lens.now a.fares.now (length a.lens.now) c.loop-i.i c.loop-i.sum (le_antisymm c.loop-i.auto.i-end c.loop-i-test.false) c.loop-i.invariant
