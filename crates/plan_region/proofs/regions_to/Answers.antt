use Prim.Native.Nat.{◌+◌, ◌*◌, ◌≤◌}
use mathlib.Core.Path.{◌≡◌, sym, ◌∙◌, ap₂}
use native.Mathlib.Omega.{arith}
use lib.ListN.{length}
use Rattle.cube_spec.specs.Tree.{region_start}
use Rattle.plan_spec.specs.Pricing.{most_of}
use Rattle.plan_spec.proofs.PricingLaws.{share_none}
use Rattle.plan_region.proofs.Regions.{start_last, all_none, all_turn, starts_small, all_small, started, start_next, start_small, start_end, sum_fits, all_fits, most_same}
use Rattle.plan_region.proofs.regions_to.Goals as goal

pub loop-d-init : goal.loop-d-init
loop-d-init c =
    let l = c.args.lengths.now in
    let k = c.args.exponents.now in
    (all_none (most_of l k), sym (share_none 0 (most_of l k)), started l k (length l) c.requires.axes c.args.i)

pub with_axis-start-requires : goal.with_axis-start-requires
with_axis-start-requires c =
    let l = c.args.lengths.now in
    let k = c.args.exponents.now in
    let v = c.loop-d.invariant in
    let d = c.loop-d.d in
    let a : c.loop-d.all ≤ 134217728 = (let b = all_small l k (length l) c.requires.axes d c.loop-d-test.true in let e = v.0 in omega arith) in
    sum_fits c.loop-d.start c.most_of-most.result c.loop-d.all (start_small l k (length l) c.requires.axes c.args.i d c.loop-d.start c.requires.region (omega arith) v.2) c.most_of-most.ensures.1 a

pub with_axis-share-requires : goal.with_axis-share-requires
with_axis-share-requires c =
    let l = c.args.lengths.now in
    let k = c.args.exponents.now in
    let v = c.loop-d.invariant in
    let d = c.loop-d.d in
    let a : c.loop-d.all ≤ 134217728 = (let b = all_small l k (length l) c.requires.axes d c.loop-d-test.true in let e = v.0 in omega arith) in
    let h : c.loop-d.share ≤ 134217728 = (let b = starts_small l k (length l) c.requires.axes d d (omega arith) in let e = v.1 in let f = c.requires.axes.few in omega arith) in
    sum_fits c.loop-d.share c.most_of-most.result c.loop-d.all h c.most_of-most.ensures.1 a

pub overflow_mul-all : goal.overflow_mul-all
overflow_mul-all c =
    let l = c.args.lengths.now in
    let a : c.loop-d.all ≤ 134217728 = (let b = all_small l c.args.exponents.now (length l) c.requires.axes c.loop-d.d c.loop-d-test.true in let e = c.loop-d.invariant.0 in omega arith) in
    let f = all_fits c.most_of-most.result c.loop-d.all c.most_of-most.ensures.1 a in
    record { fits = f }

pub loop-d-preserved : goal.loop-d-preserved
loop-d-preserved c =
    let l = c.args.lengths.now in
    let k = c.args.exponents.now in
    let v = c.loop-d.invariant in
    let d = c.loop-d.d in
    let m = most_of l k in
    let e : c.most_of-most.result ≡ m d = most_same l k d c.most_of-most.result c.most_of-most.ensures.0 in (
      ap₂ ◌*◌ v.0 e ∙ all_turn m d,
      c.with_axis-share.ensures ∙ ap₂ ◌+◌ (ap₂ ◌*◌ v.1 e) v.0 ∙ sym (start_last m d),
      rw (c.with_axis-start.ensures, e, v.0) (start_next l k (length l) c.requires.axes c.args.i d c.loop-d.start v.2),
    )

pub returns : goal.returns
returns c =
    let l = c.args.lengths.now in
    let k = c.args.exponents.now in
    let v = c.loop-d.invariant in
    let e : c.loop-d.d ≡ length l = omega arith in
    let m = most_of l k in
    let a = start_end l k (length l) c.requires.axes c.args.i c.loop-d.d c.loop-d.start c.requires.region e v.2 in
    let b : c.loop-d.share ≡ region_start (length l) m (length l) = v.1 ∙ ap₂ (λ x y. region_start x m y) e e in
    let f = starts_small l k (length l) c.requires.axes (length l) (length l) (omega arith) in
    (a.0, b, a.1, omega arith)
