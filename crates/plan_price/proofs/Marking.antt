-- What the mark in an answer of pricing means (plan_spec/Marking), for whatever plan a call is lent: yes exactly where no way adds up fewer cells than
-- the answer says.
use mathlib.Core.Path.{◌≡◌, sym, ◌∙◌, subst}
use contract.Lifetimes.{Lfts}
use borrow.Fn.World.{ArgsD, ResD}
use borrow.Fn.Kinds.{GoodsP}
use denote.Triple.Clauses.{AtExit}
use Rattle.cube_spec.specs.Checks.{gives}
use Rattle.cube_spec.specs.Refusals.{reply_of}
use Rattle.plan_spec.specs.declared.types.Plan.{Plan}
use Rattle.plan_spec.specs.declared.types.Marked.{Marked}
use Rattle.plan_spec.specs.Plans.{lists_of}
use Rattle.plan_spec.specs.Accepted.{HasSlots}
use Rattle.plan_spec.specs.Refusals.{plan_refusal}
use Rattle.plan_spec.specs.Answers.{prices_of, marked_of, pricing}
use Rattle.plan_spec.specs.Marking.{Marking}
use Rattle.plan_spec.proofs.Accepting.{accepted}
use Rattle.plan_spec.proofs.PricingLaws.{given_is}
use Rattle.plan_spec.proofs.Marking.{marking}
use Rattle.plan_price.specs.contracts.pricing.price.{signature, ended}
use Rattle.plan_price.proofs.pricing.price.Kinds as kinds
use Rattle.plan_price.proofs.pricing.price.Reads as reads

abbrev MarkingOf : Plan → Marked → Type 0
MarkingOf q m = Marking (lists_of q).lengths (lists_of q).order m.prices.added m.fewest

-- a plan whose arrays have their slots
pub pricing_marking : (q : Plan) → HasSlots q → (m : Marked) → pricing q ≡ gives m → MarkingOf q m
unfolding pricing marked_of prices_of
pricing_marking q slots m e =
    let (z, g) = given_is (plan_refusal q) (marked_of (lists_of q)) m (sym e) in
    let ok = accepted q slots.0 slots.1.0 slots.1.1 z in
    subst (MarkingOf q) (sym g) (marking (lists_of q) ok.sound.places ok.sound.once ok.lengths.some)

-- for every call, by what its caller learns; `good` is what owning the plan tells, that its arrays have their slots
pub priced_marking : (κs : Lfts 0) (a : ArgsD signature κs) (r : ResD signature κs) (s : AtExit ended κs) (good : GoodsP κs kinds.ps a)
    → reads.Learnt κs a r s → (m : Marked) → reply_of r ≡ gives m → MarkingOf a.0 m
priced_marking κs a r s good h m e =
    let q : reply_of r ≡ pricing a.0 = h in
    let g = good.0.1.1.1.1 in
    let slots : HasSlots a.0 = (g.0.1.0.1, (g.1.0.1.0.1, g.1.1.0.1.0.1)) in
    pricing_marking a.0 slots m (sym q ∙ e)
