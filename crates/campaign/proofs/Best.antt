-- Demand 3 for callers in C, as the header tells them: no way with any division over the boards in use moves fewer values or adds fewer cells than the
-- plan that a call leaves in what it is lent.
use Prim.Native.Nat.{ℕ, ◌+◌, ◌^◌}
use mathlib.Core.List.{List, [], ◌∷◌}
use mathlib.Core.Path.{◌≡◌, sym, ◌∙◌, ap}
use lib.ListN.{length, get_or}
use contract.Lifetimes.{Lfts}
use borrow.Fn.World.{ArgsD, ResD}
use denote.Triple.Clauses.{AtExit}
use Rattle.cube_spec.specs.Checks.{first, gives}
use Rattle.plan_spec.specs.declared.types.Planned.{Planned}
use Rattle.plan_spec.specs.declared.types.Marked.{Marked}
use Rattle.plan_spec.specs.Plans.{lists_of}
use Rattle.plan_spec.specs.Rule.{power_used, idle_boards}
use Rattle.plan_spec.specs.Refusals.{plan_checks, plan_refusal}
use Rattle.plan_spec.specs.Answers.{marked_of, pricing, planning}
use Rattle.plan_spec.proofs.PricingLaws.{given_is}
use Rattle.plan_spec.proofs.Unaltered.{idle_used}
use Rattle.plan_entry.specs.Best.{Best, Runnable}
use Rattle.plan_entry.proofs.Best.{answer_best, answer_runs, answer_idle}
use Rattle.controller.specs.Bytes.{pairs, plan_in}
use Rattle.controller.specs.Best.{BestPlan}
use Rattle.controller.proofs.Best.{result_best}
use Rattle.rack_spec.proofs.Refusing.{plan_numbered}
use Rattle.campaign_slices.specs.Lent.{written_or}
use Rattle.campaign_slices.specs.Racks.{cells_priced, mark_cell, price_refusal, priced}
use Rattle.campaign_slices.proofs.Lending.{right_after}
use Rattle.campaign.specs.Calls.{idling, Made, read_back}
use Rattle.campaign.proofs.Calling.{make_answer, make_planned}
use Rattle.campaign.specs.contracts.plans.campaign_plan as bytes
use Rattle.campaign.proofs.plans.campaign_plan.Reads as bytes-reads
use Rattle.campaign.specs.contracts.plans.campaign_idle as idle
use Rattle.campaign.proofs.plans.campaign_idle.Reads as idle-reads
use Rattle.campaign.specs.contracts.plans.campaign_make as make
use Rattle.campaign.proofs.plans.campaign_make.Reads as make-reads

-- Statement: of every call of `campaign_plan` with answer 0, and the plan in its result bytes.
pub campaign_best : (κs : Lfts 2) (a : ArgsD bytes.signature κs) (r : ResD bytes.signature κs) (s : AtExit bytes.ended κs) → bytes-reads.Learnt κs a r s → r ≡ 0
    → BestPlan (pairs a.0.now) (power_used (pairs a.0.now) a.1.0) (plan_in (pairs a.0.now) s.1.1.0.now)
campaign_best κs a r s h e = result_best a.0.now a.1.0 a.1.1.0.now s.1.1.0.now (sym h.0 ∙ e) h.1

-- of every call of `campaign_make` with answer 0, and what its caller reads back
module _ (κs : Lfts 4) (a : ArgsD make.signature κs) (r : ResD make.signature κs) (s : AtExit make.ended κs) (h : make-reads.Learnt κs a r s) (e : r ≡ 0) where
  abbrev lengths : List ℕ
  lengths = a.0.now

  -- the p asked for, and the one used
  abbrev asked : ℕ
  asked = a.1.0

  abbrev power : ℕ
  power = power_used lengths asked

  abbrev told : Planned
  told = read_back s.1.1.0.now s.1.1.1.0.now s.1.1.1.1.0.now

  says : gives told ≡ planning lengths asked
  says =
      let z = make_answer lengths asked a.1.1.0.now a.1.1.1.0.now a.1.1.1.1.0.now (sym (ap (λ (m : Made). m.answer) h) ∙ e) in
      ap (λ (m : Made). gives (read_back m.small m.slots m.cells)) h ∙ make_planned lengths asked a.1.1.0.now a.1.1.1.0.now a.1.1.1.1.0.now z

  -- Statement: the plan and its prices are best.
  pub make_best : Best lengths power told
  make_best = answer_best lengths asked told says

  -- Statement: the plan is of these lengths and the p used, and no entry refuses it for what a plan may be (3 to 9).
  pub make_runs : Runnable lengths power told
  make_runs = answer_runs lengths asked told says

  -- Statement: pricing takes what was left, and tells the same prices and yes to "fewest cells added up".
  pub make_price : (out : List ℕ) → length out ≡ 4 → (0 ≡ price_refusal told.plan (length out)) × (cells_priced told.prices 1 ≡ priced told.plan out)
  unfolding pricing plan_refusal price_refusal priced
  make_price out h =
      let q = told.plan in
      let g = given_is (first (plan_checks q)) (marked_of (lists_of q)) _ (sym make_best.priced) in
      let k = ap (λ (m : Marked). cells_priced m.prices (mark_cell m.fewest)) g.1 in
      right_after (plan_checks q) 4 out (plan_numbered q) g.0 _ h _ k

  -- Statement: the idle boards and the plan's are all that were asked for.
  pub make_idle : told.idle + 2 ^ (lists_of told.plan).p ≡ 2 ^ asked
  make_idle = rw make_runs.boards (answer_idle lengths asked told says)

-- Statement: of every call of `campaign_idle` with answer 0: the cell and the boards in use, whose p is that of the plan that `campaign_plan` leaves
-- (`campaign_best`: `boards`), are all that were asked for.
pub idle_told : (κs : Lfts 2) (a : ArgsD idle.signature κs) (r : ResD idle.signature κs) (s : AtExit idle.ended κs) → idle-reads.Learnt κs a r s → r ≡ 0
    → get_or s.1.1.0.now 0 0 + 2 ^ power_used (pairs a.0.now) a.1.0 ≡ 2 ^ a.1.0
unfolding idling written_or
idle_told κs a r s h e =
    let ds = pairs a.0.now in
    let z = sym h.0 ∙ e in
    let c : s.1.1.0.now ≡ idle_boards ds a.1.0 ∷ [] = h.1 ∙ ap (λ n. written_or n (idle_boards ds a.1.0 ∷ []) a.1.1.0.now) z in
    ap (λ (l : List ℕ). get_or l 0 0 + 2 ^ power_used ds a.1.0) c ∙ idle_used ds a.1.0
