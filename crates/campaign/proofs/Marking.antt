-- Request 12/12 for callers in C: what the cells that `campaign_price` leaves say of the plan that it is lent (plan_spec/Marking).
use Prim.Native.Nat.{ℕ}
use mathlib.Core.Path.{◌≡◌, sym, ◌∙◌, refl, ap}
use mathlib.Core.Bool.{Bool}
use mathlib.Core.List.{List}
use lib.ListN.{get_or}
use contract.Lifetimes.{Lfts}
use borrow.Fn.World.{ArgsD, ResD}
use denote.Triple.Clauses.{AtExit}
use Rattle.cube_spec.proofs.Dues.{none_both}
use Rattle.plan_spec.specs.declared.types.Plan.{Plan}
use Rattle.plan_spec.specs.Plans.{lists_of}
use Rattle.plan_spec.specs.Refusals.{plan_checks, plan_refusal}
use Rattle.plan_spec.specs.Answers.{prices_of, fewest_added, marked_of, pricing}
use Rattle.plan_spec.specs.Marking.{Marking}
use Rattle.plan_spec.proofs.PricingLaws.{answer_given}
use Rattle.plan_price.proofs.Marking.{pricing_marking}
use Rattle.rack_spec.proofs.Refusing.{plan_numbered}
use Rattle.campaign_slices.specs.Lent.{lent_refusal, written_or}
use Rattle.campaign_slices.specs.Racks.{plan_from, mark_cell, cells_priced, price_refusal, priced}
use Rattle.campaign_slices.proofs.Racking.{from_slots}
use Rattle.campaign.specs.contracts.plans.campaign_price.{signature, ended}
use Rattle.campaign.proofs.plans.campaign_price.Reads as reads

-- no refusal of a price is none of its plan
price_passed : (q : Plan) (lent : ℕ) → price_refusal q lent ≡ 0 → plan_refusal q ≡ 0
unfolding price_refusal lent_refusal plan_refusal
price_passed q lent e = (none_both (plan_checks q) _ (plan_numbered q) e).0

-- of every call of `campaign_price` with answer 0
module _ (κs : Lfts 3) (a : ArgsD signature κs) (r : ResD signature κs) (s : AtExit ended κs) (h : reads.Learnt κs a r s) (e : r ≡ 0) where
  -- the plan in what it is lent, and the cells that it leaves
  abbrev lent : Plan
  lent = plan_from a.0.now a.1.0.now

  abbrev cells : List ℕ
  cells = s.1.1.0.now

  -- the mark of that plan
  abbrev mark : Bool
  mark = fewest_added (lists_of lent)

  passed : plan_refusal lent ≡ 0
  passed = price_passed lent _ (sym h.0 ∙ e)

  left : cells ≡ cells_priced (prices_of (lists_of lent)) (mark_cell mark)
  unfolding priced written_or marked_of
  left = h.1 ∙ ap (λ n. written_or n (cells_priced (prices_of (lists_of lent)) (mark_cell mark)) a.1.1.0.now) (sym h.0 ∙ e)

  -- Statement: the fourth cell is the mark, 1 or 0.
  pub price_cell : get_or cells 3 0 ≡ mark_cell mark
  price_cell = rw left refl

  -- Statement: with the cells added up that the second says, it is a mark: yes where no way adds up fewer, no where the planner's tree does.
  pub price_marking : Marking (lists_of lent).lengths (lists_of lent).order (get_or cells 1 0) mark
  unfolding pricing marked_of
  price_marking =
      let k = from_slots a.0.now a.1.0.now in
      rw left (pricing_marking lent k (marked_of (lists_of lent)) (sym (answer_given (plan_refusal lent) (marked_of (lists_of lent)) passed)))
