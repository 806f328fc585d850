use mathlib.Core.Path.{◌∙◌}
use native.Mathlib.Omega.{arith}
use lib.ListN.{take}
use Rattle.plan_spec.proofs.Accepting.{accepted}
use Rattle.plan_spec.proofs.PricingLaws.{few_axes, order_fits, along_length, along_at, priceable, starts_same}
use Rattle.plan_region.proofs.region_of.Goals as goal

pub shared_ref_as_front-order : goal.shared_ref_as_front-order
shared_ref_as_front-order c = few_axes (accepted c.args.plan (omega arith) (omega arith) (omega arith) c.requires.0)

pub in_order-lengths-requires : goal.in_order-lengths-requires
in_order-lengths-requires c = (omega arith, order_fits c.args.plan (accepted c.args.plan (omega arith) (omega arith) (omega arith) c.requires.0))

pub in_order-exponents-requires : goal.in_order-exponents-requires
in_order-exponents-requires c = (omega arith, order_fits c.args.plan (accepted c.args.plan (omega arith) (omega arith) (omega arith) c.requires.0))

pub regions_to-requires-clause-axes : goal.regions_to-requires-clause-axes
regions_to-requires-clause-axes c =
    let q = c.args.plan in
    let ok = accepted q (omega arith) (omega arith) (omega arith) c.requires.0 in
    let l = c.in_order-lengths in
    let k = c.in_order-exponents in
    rw (along_length q ok q.lengths l.result l.ensures) (priceable q ok (take q.axes l.result) (take q.axes k.result) (along_at q ok q.lengths l.result l.ensures) (along_at q ok q.exponents k.result k.ensures))

pub returns : goal.returns
returns c =
    let q = c.args.plan in
    let ok = accepted q (omega arith) (omega arith) (omega arith) c.requires.0 in
    let l = c.in_order-lengths in
    let k = c.in_order-exponents in
    let n = along_length q ok q.lengths l.result l.ensures in
    let same = starts_same q ok (take q.axes l.result) (take q.axes k.result) (along_at q ok q.lengths l.result l.ensures) (along_at q ok q.exponents k.result k.ensures) in
    let e = rw n at c.regions_to.ensures in
    (e.0 ∙ same c.args.i, e.1 ∙ same q.axes, e.2, e.3)
