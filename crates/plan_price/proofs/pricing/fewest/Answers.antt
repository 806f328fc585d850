-- `plan_price::pricing::fewest` meets its contract: the lengths along the order, and whether one rises.
use mathlib.Core.Path.{◌∙◌}
use native.Mathlib.Omega.{arith}
use lib.ListN.{take}
use Rattle.plan_spec.proofs.Accepting.{accepted}
use Rattle.plan_spec.proofs.PricingLaws.{few_axes, order_fits, along_length, along_at, fewest_same}
use Rattle.plan_price.proofs.pricing.fewest.Goals as goal

pub shared_ref_as_front-in_order : goal.shared_ref_as_front-in_order
shared_ref_as_front-in_order c = few_axes (accepted c.args.plan (omega arith) (omega arith) (omega arith) c.requires)

pub in_order-along-requires : goal.in_order-along-requires
in_order-along-requires c = (omega arith, order_fits c.args.plan (accepted c.args.plan (omega arith) (omega arith) (omega arith) c.requires))

pub returns : goal.returns
returns c =
    let q = c.args.plan in
    let ok = accepted q (omega arith) (omega arith) (omega arith) c.requires in
    let l = c.in_order-along in
    let e = rw (along_length q ok q.lengths l.result l.ensures) at c.never_rise.ensures in
    e ∙ fewest_same q ok (take q.axes l.result) (along_at q ok q.lengths l.result l.ensures)
