use Rattle.std.proofs.Common.{arith, rules, refl}
use Rattle.std.proofs.lemmas.List.{length-set}
use Rattle.plan_spec.proofs.Accepting.{passed_accepted}
use Rattle.plan_spec.proofs.PricingLaws.{few_axes}
use Rattle.rack_count.proofs.Tallying.{filled_none, filled_more, filled_all, turn_small}
use Rattle.rack_count.proofs.counts.tallies_of.Goals as goal

pub loop-d-init : goal.loop-d-init
loop-d-init c =
    let w = c.well_formed in
    let ok = passed_accepted c.args.plan (search rules) (search rules) (search rules) c.requires in
    (ok, refl, filled_none c.args.plan ok)

pub bounds-places-d : goal.bounds-places-d
bounds-places-d c = let f = few_axes c.loop-d.invariant.0 in omega arith

pub overflow_mul-places : goal.overflow_mul-places
overflow_mul-places c =
    let i = c.loop-d.invariant in
    let t = turn_small c.args.plan i.0 c.loop-d.places c.loop-d.d i.2 c.loop-d-test.true c.loop-d.auto.d i.1 c.parts_of-parts.result c.parts_of-parts.ensures.2 in
    omega arith

pub overflow_mul-places-in-loop-d : goal.overflow_mul-places-in-loop-d
overflow_mul-places-in-loop-d c =
    let i = c.loop-d.invariant in
    let t = turn_small c.args.plan i.0 c.loop-d.places c.loop-d.d i.2 c.loop-d-test.true c.loop-d.auto.d i.1 c.parts_of-parts.result c.parts_of-parts.ensures.2 in
    omega arith

pub overflow_mul-places-in-loop-d-2 : goal.overflow_mul-places-in-loop-d-2
overflow_mul-places-in-loop-d-2 c =
    let i = c.loop-d.invariant in
    let t = turn_small c.args.plan i.0 c.loop-d.places c.loop-d.d i.2 c.loop-d-test.true c.loop-d.auto.d i.1 c.parts_of-parts.result c.parts_of-parts.ensures.2 in
    omega arith

pub overflow_add-places-in-loop-d : goal.overflow_add-places-in-loop-d
overflow_add-places-in-loop-d c =
    let i = c.loop-d.invariant in
    let t = turn_small c.args.plan i.0 c.loop-d.places c.loop-d.d i.2 c.loop-d-test.true c.loop-d.auto.d i.1 c.parts_of-parts.result c.parts_of-parts.ensures.2 in
    omega arith

pub loop-d-preserved : goal.loop-d-preserved
loop-d-preserved c =
    let i = c.loop-d.invariant in
    (i.0, simp length-set i.1, filled_more c.args.plan i.0 c.loop-d.places c.loop-d.d i.2 c.loop-d-test.true c.loop-d.auto.d i.1 _ c.parts_of-parts.ensures.0)

pub returns : goal.returns
returns c = let i = c.loop-d.invariant in record { all = filled_all c.args.plan i.0 c.loop-d.places c.loop-d.d c.loop-d-test.false i.1 i.2 }
