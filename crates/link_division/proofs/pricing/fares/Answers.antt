use Rattle.std.proofs.Common.{refl}
use Rattle.cube_spec.specs.Limits.{padded}
use Rattle.cube_spec.specs.Boxes.{table_from}
use Rattle.plan_spec.proofs.Turns.{slot_below, filled}
use Rattle.link_spec.specs.Costs.{fare}
use Rattle.link_division.proofs.pricing.fares.Goals as goal

pub loop-i-init : goal.loop-i-init
unfolding padded table_from
loop-i-init c = refl

pub loop-i-preserved : goal.loop-i-preserved
unfolding fare
loop-i-preserved c =
    let a = c.args in
    filled (fare a.links.now a.exponents.now) c.loop-i.out c.loop-i.i _ (slot_below c.loop-i-test.true c.requires.1.few) c.fare_of.ensures.0 c.loop-i.invariant
