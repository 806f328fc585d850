use native.Mathlib.Nat.{le_refl}
use native.Mathlib.Omega.{arith}
use lib.ListN.{take}
use Rattle.plan_spec.specs.Pricing.{most_of}
use Rattle.plan_spec.proofs.Accepting.{accepted}
use Rattle.plan_spec.proofs.PricingLaws.{few_axes, order_fits, along_length, along_at, priceable, undecided, prices_same, share_end}
use Rattle.plan_price.proofs.pricing.prices.Goals as goal

pub shared_ref_as_front-order : goal.shared_ref_as_front-order
shared_ref_as_front-order c = few_axes (accepted c.args.plan (omega arith) (omega arith) (omega arith) c.requires)

pub in_order-lengths-requires : goal.in_order-lengths-requires
in_order-lengths-requires c = (omega arith, order_fits c.args.plan (accepted c.args.plan (omega arith) (omega arith) (omega arith) c.requires))

pub in_order-exponents-requires : goal.in_order-exponents-requires
in_order-exponents-requires c = (omega arith, order_fits c.args.plan (accepted c.args.plan (omega arith) (omega arith) (omega arith) c.requires))

pub choices_from-sums-requires-clause-undecided : goal.choices_from-sums-requires-clause-undecided
choices_from-sums-requires-clause-undecided c =
    let q = c.args.plan in
    let ok = accepted q (omega arith) (omega arith) (omega arith) c.requires in
    let l = c.in_order-lengths in
    let k = c.in_order-exponents in
    rw (along_length q ok q.lengths l.result l.ensures) (undecided (take q.axes l.result) (take q.axes k.result) q.axes (priceable q ok (take q.axes l.result) (take q.axes k.result) (along_at q ok q.lengths l.result l.ensures) (along_at q ok q.exponents k.result k.ensures)))

pub regions_to-regions-requires-clause-axes : goal.regions_to-regions-requires-clause-axes
regions_to-regions-requires-clause-axes c =
    let q = c.args.plan in
    let ok = accepted q (omega arith) (omega arith) (omega arith) c.requires in
    let l = c.in_order-lengths in
    let k = c.in_order-exponents in
    rw (along_length q ok q.lengths l.result l.ensures) (priceable q ok (take q.axes l.result) (take q.axes k.result) (along_at q ok q.lengths l.result l.ensures) (along_at q ok q.exponents k.result k.ensures))

pub returns : goal.returns
returns c =
    let q = c.args.plan in
    let ok = accepted q (omega arith) (omega arith) (omega arith) c.requires in
    let l = c.in_order-lengths in
    let k = c.in_order-exponents in
    let n = along_length q ok q.lengths l.result l.ensures in
    let e = rw n at c.choices_from-sums.ensures in
    let r = rw n at c.regions_to-regions.ensures in
    let share = share_end q.axes q.axes (most_of (take q.axes l.result) (take q.axes k.result)) (le_refl _) (le_refl _) in
    rw (e.0, e.1, r.1, share) (prices_same q ok (take q.axes l.result) (take q.axes k.result) (along_at q ok q.lengths l.result l.ensures) (along_at q ok q.exponents k.result k.ensures))
