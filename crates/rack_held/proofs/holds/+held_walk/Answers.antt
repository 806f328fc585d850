use Prim.Native.Nat.{◌+◌, ◌<◌}
use mathlib.Core.Path.{ap₂, ◌∙◌}
use native.Mathlib.Omega.{arith}
use Rattle.plan_spec.proofs.PricingLaws.{few_axes}
use Rattle.rack_spec.specs.Finding.{plan_grid, summed_in}
use Rattle.rack_spec.proofs.Seeking.{few, kept_on, summed_out, forming}
use Rattle.rack_spec.proofs.Keeping.{bound, bound_own, no_child, later_held, sends_held, leaf_held, past_held, inner_held}
use Rattle.rack_held.proofs.holds.+held_walk.Goals as goal

pub returns-then-d-axes : goal.returns-then-d-axes
returns-then-d-axes t c =
    (no_child (plan_grid c.args.plan.now) c.args.board _ c.args.d (summed_in c.args.plan.now c.args.choice.mask) c.args.at (omega (arith, c.if-d-axes.true)), omega arith)

pub bounds-plan-d : goal.bounds-plan-d
bounds-plan-d t c =
    let ok = c.requires.0 in
    let w = c.requires.1 in
    let h : c.args.d < c.args.plan.now.axes = omega (arith, w.within, c.if-d-axes.false) in
    let f = few_axes ok in
    omega arith

pub own_of-own-requires : goal.own_of-own-requires
own_of-own-requires t c =
    let ok = c.requires.0 in
    let w = c.requires.1 in
    let h : c.args.d < c.args.plan.now.axes = omega (arith, w.within, c.if-d-axes.false) in
    rw c.without-child.ensures (forming ok w h c.args.board c.requires.2)

pub overflow_mul-more : goal.overflow_mul-more
overflow_mul-more t c =
    let ok = c.requires.0 in
    let w = c.requires.1 in
    let h : c.args.d < c.args.plan.now.axes = omega (arith, w.within, c.if-d-axes.false) in
    rw c.parts_of.ensures.0 (let f = few ok (kept_on ok w h) in omega arith)

pub walk_count-later-requires : goal.walk_count-later-requires
walk_count-later-requires t c =
    let ok = c.requires.0 in
    let w = c.requires.1 in
    let h : c.args.d < c.args.plan.now.axes = omega (arith, w.within, c.if-d-axes.false) in
    (w.passed, omega arith, rw c.parts_of.ensures.0 (few ok (kept_on ok w h)), c.requires.3)

pub held_walk-requires : goal.held_walk-requires
held_walk-requires t c =
    let ok = c.requires.0 in
    let w = c.requires.1 in
    let h : c.args.d < c.args.plan.now.axes = omega (arith, w.within, c.if-d-axes.false) in
    (omega (arith, c.decreases), (ok, rw c.parts_of.ensures.0 (kept_on ok w h), c.requires.2, c.requires.3))

pub returns-then-at-later : goal.returns-then-at-later
returns-then-at-later t c =
    let ok = c.requires.0 in
    let w = c.requires.1 in
    let h : c.args.d < c.args.plan.now.axes = omega (arith, w.within, c.if-d-axes.false) in
    let e = rw c.parts_of.ensures.0 at c.walk_count-later.ensures.0 in
    let m = rw c.without-child.ensures at c.own_of-own.ensures.0 in
    let y = c.own_of-own.ensures.1 in
    let x = c.held_walk.ensures in
    (ap₂ ◌+◌ x.0 m ∙ later_held ok w c.args.board h e c.if-at-later.true, bound x.1 y h)

pub transfer_count-requires : goal.transfer_count-requires
transfer_count-requires t c =
    let ok = c.requires.0 in
    let w = c.requires.1 in
    let h : c.args.d < c.args.plan.now.axes = omega (arith, w.within, c.if-d-axes.false) in
    (w.passed, h, few ok w, c.requires.3)

pub returns-then-at-before : goal.returns-then-at-before
returns-then-at-before t c =
    let ok = c.requires.0 in
    let w = c.requires.1 in
    let h : c.args.d < c.args.plan.now.axes = omega (arith, w.within, c.if-d-axes.false) in
    let e = rw c.parts_of.ensures.0 at c.walk_count-later.ensures.0 in
    let m = rw c.without-child.ensures at c.own_of-own.ensures.0 in
    let y = c.own_of-own.ensures.1 in
    let o = c.transfer_count.ensures.0 in
    (m ∙ sends_held ok w c.args.board h e o c.if-at-later.false c.if-at-before.true, bound_own y h)

pub returns-then-d-axes-2 : goal.returns-then-d-axes-2
returns-then-d-axes-2 t c =
    let ok = c.requires.0 in
    let w = c.requires.1 in
    let h : c.args.d < c.args.plan.now.axes = omega (arith, w.within, c.if-d-axes.false) in
    let e = rw c.parts_of.ensures.0 at c.walk_count-later.ensures.0 in
    let o = c.transfer_count.ensures.0 in
    (leaf_held ok w c.args.board h e o c.if-at-before.false c.if-d-axes-2.true, omega arith)

pub walk_count-below-requires : goal.walk_count-below-requires
walk_count-below-requires t c =
    let ok = c.requires.0 in
    let w = c.requires.1 in
    let h : c.args.d < c.args.plan.now.axes = omega (arith, w.within, c.if-d-axes.false) in
    (w.passed, omega arith, few ok w, c.requires.3)

pub returns-then-below-at : goal.returns-then-below-at
returns-then-below-at t c =
    let ok = c.requires.0 in
    let w = c.requires.1 in
    let h : c.args.d < c.args.plan.now.axes = omega (arith, w.within, c.if-d-axes.false) in
    let e = rw c.parts_of.ensures.0 at c.walk_count-later.ensures.0 in
    let o = c.transfer_count.ensures.0 in
    (past_held ok w c.args.board h e o c.if-at-before.false c.walk_count-below.ensures.0 c.if-d-axes-2.false c.if-below-at.true, omega arith)

pub held_walk-requires-2 : goal.held_walk-requires-2
held_walk-requires-2 t c =
    let ok = c.requires.0 in
    let w = c.requires.1 in
    let h : c.args.d < c.args.plan.now.axes = omega (arith, w.within, c.if-d-axes.false) in
    (omega (arith, c.decreases), (ok, rw c.without-child.ensures (summed_out ok w h), c.requires.2, c.requires.3))

pub returns : goal.returns
returns t c =
    let ok = c.requires.0 in
    let w = c.requires.1 in
    let h : c.args.d < c.args.plan.now.axes = omega (arith, w.within, c.if-d-axes.false) in
    let e = rw c.parts_of.ensures.0 at c.walk_count-later.ensures.0 in
    let m = rw c.without-child.ensures at c.own_of-own.ensures.0 in
    let y = c.own_of-own.ensures.1 in
    let o = c.transfer_count.ensures.0 in
    let x = c.held_walk-2.ensures in
    let z = rw c.without-child.ensures at x.0 in
    (ap₂ ◌+◌ z m ∙ inner_held ok w c.args.board h e o c.if-at-before.false c.walk_count-below.ensures.0 c.if-d-axes-2.false c.if-below-at.false, bound x.1 y h)
