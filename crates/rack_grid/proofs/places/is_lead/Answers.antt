use Prim.Native.Nat.{◌-◌, ◌%◌}
use mathlib.Core.Path.{sym, ◌∙◌, ap}
use native.Mathlib.Omega.{arith}
use Rattle.plan_spec.proofs.Accepting.{passed_accepted}
use Rattle.rack_spec.proofs.Planned.{lead_fails, lead_holds}
use Rattle.rack_grid.proofs.Leads.{lead_back, left_start, label_here, left_turn}
use borrow.Author.Rules.{rules}
use Rattle.rack_grid.proofs.places.is_lead.Goals as goal

pub loop-d-init : goal.loop-d-init
loop-d-init c =
    let gd = c.well_formed.0.1.1.1.1 in
    let ok = passed_accepted c.args.plan (search rules) (search rules) (search rules) c.requires.0 in
    (ok, left_start c.args.plan ok c.args.board c.requires.1, λ i l h. absurd (omega arith))

pub returns-then-not-lead_may : goal.returns-then-not-lead_may
returns-then-not-lead_may c =
    let i = c.loop-d.invariant in
    let h = c.loop-d-test.true in
    let q = c.args.plan in
    let l = ap (λ x. c.loop-d.rest % x) c.parts_of-parts.ensures.0 ∙ label_here q i.0 c.args.board c.requires.1 c.loop-d.rest c.loop-d.d h c.loop-d.auto.d i.1 in
    lead_fails q i.0 c.args.choice.mask c.args.board (c.loop-d.d - 1) _ l (sym c.lead_may.ensures ∙ c.if-not-lead_may.true)

pub loop-d-preserved : goal.loop-d-preserved
loop-d-preserved c =
    let i = c.loop-d.invariant in
    let h = c.loop-d-test.true in
    let q = c.args.plan in
    let l = ap (λ x. c.loop-d.rest % x) c.parts_of-parts.ensures.0 ∙ label_here q i.0 c.args.board c.requires.1 c.loop-d.rest c.loop-d.d h c.loop-d.auto.d i.1 in (
      i.0,
      rw c.parts_of-parts.ensures.0 (left_turn q i.0 c.args.board c.requires.1 c.loop-d.rest c.loop-d.d h c.loop-d.auto.d i.1),
      lead_back q c.args.choice.mask c.args.board c.loop-d.d h i.2 (rw (← l) (sym c.lead_may.ensures ∙ c.if-not-lead_may.false)),
    )

pub returns : goal.returns
returns c =
    let i = c.loop-d.invariant in
    lead_holds c.args.plan i.0 c.args.choice.mask c.args.board (λ d h. i.2 d (omega (arith, c.loop-d-test.false)) h)
