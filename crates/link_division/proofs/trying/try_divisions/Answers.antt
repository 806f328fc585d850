use Rattle.std.proofs.Common.{length, drop, ◌++◌, ap, refl}
use Rattle.std.proofs.Math.Nat.{le_antisymm}
use lib.ListN.{replicate}
use Rattle.link_spec.specs.Stepping.{went}
use Rattle.link_spec.proofs.Searching.{starts_rated, starts, turn_places, turn_sums, turn_ends, turn_rated, turn_takes, turn_passes, last_look}
use Rattle.link_division.proofs.trying.try_divisions.Goals as goal
use Rattle.link_division.proofs.trying.try_divisions.Goals.{then-cost-least, else-cost-least}

pub division_cost-least-requires : goal.division_cost-least-requires
division_cost-least-requires c =
    let k = starts_rated c.requires.0 c.caps_of-caps.ensures (ap (λ x. x ++ drop (length c.args.lens.now) (replicate 8 0)) c.fill.ensures) in
    (c.requires.0.each, k.0, k.1, k.2)

pub loop-priced-init : goal.loop-priced-init
loop-priced-init c = starts c.requires.0 c.caps_of-caps.ensures (ap (λ x. x ++ drop (length c.args.lens.now) (replicate 8 0)) c.fill.ensures) c.requires.1 c.division_cost-least.ensures

pub next-requires : goal.next-requires
next-requires c = let t = c.loop-priced.invariant in (turn_places t, turn_sums t)

pub returns-then-not-next : goal.returns-then-not-next
returns-then-not-next c = turn_ends c.loop-priced.invariant (went c.next.result c.next.new.exponents) c.next.ensures c.if-not-next.true

pub division_cost-cost-requires : goal.division_cost-cost-requires
division_cost-cost-requires c =
    let k = turn_rated c.loop-priced.invariant (went c.next.result c.next.new.exponents) c.next.ensures c.if-not-next.false _ refl in
    (c.requires.0.each, k.0, k.1, k.2)

pub loop-priced-preserved : goal.loop-priced-preserved
loop-priced-preserved c =
    let h = c.loop-priced-test.true in
    let t = c.loop-priced.invariant in
    let r = went c.next.result c.next.new.exponents in
    let f = c.if-not-next.false in
    let d = c.division_cost-cost in
    elim c.if-cost-least.branch [ then-cost-least w ↦ turn_takes t r c.next.ensures f _ refl h d.result d.ensures w.if-cost-least.true w.best-is w.least-is | else-cost-least w ↦ turn_passes t r c.next.ensures f _ refl h d.result d.ensures w.if-cost-least.false w.best-is w.least-is ]

pub next-more-requires : goal.next-more-requires
next-more-requires c = let t = c.loop-priced.invariant in (turn_places t, turn_sums t)

pub returns : goal.returns
returns c =
    let e = le_antisymm (c.loop-priced.auto.priced-end c.requires.1) c.loop-priced-test.false in
    last_look c.loop-priced.invariant (went c.next-more.result c.next-more.new.exponents) c.next-more.ensures e
