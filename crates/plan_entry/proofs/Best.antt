-- Demand 3 tied to the planner's own clause: whatever plan a call of `plan` returns is best over the boards in use, and can be run (specs/Best).
use Prim.Native.Nat.{ℕ, ◌+◌, ◌^◌, ◌≤◌}
use mathlib.Core.Path.{◌≡◌, sym, ◌∙◌, refl, ap, subst}
use mathlib.Core.Bool.{true}
use mathlib.Core.List.{List}
use contract.Lifetimes.{Lfts}
use borrow.Fn.World.{ArgsD, ResD}
use denote.Triple.Clauses.{AtExit}
use Rattle.cube_spec.specs.Limits.{power_limit}
use Rattle.std.specs.Prelude.{Result, Ok, Err}
use Rattle.cube_spec.specs.declared.refusals.Refusal.{Refusal}
use Rattle.cube_spec.specs.Checks.{gives}
use Rattle.cube_spec.specs.Refusals.{reply_of}
use Rattle.cube_spec.specs.Choices.{keeps, with_mask}
use Rattle.cube_spec.specs.Tree.{parent_of}
use Rattle.cube_spec.specs.Ways.{Division}
use Rattle.plan_spec.specs.declared.types.Plan.{Plan}
use Rattle.plan_spec.specs.declared.types.Planned.{Planned}
use Rattle.plan_spec.specs.Plans as Plans
use Rattle.plan_spec.specs.Plans.{PlanLists, lists_of, slotted}
use Rattle.plan_spec.specs.Accepted.{LengthsAccepted, PlanningAccepted}
use Rattle.plan_spec.specs.Rule.{exponents, plan_of, power_used, plan_within, idle_boards}
use Rattle.plan_spec.specs.Trees.{last_summed, tree_axis}
use Rattle.plan_spec.specs.Refusals.{planning_refusal, plan_refusal}
use Rattle.plan_spec.specs.Answers.{prices_of, marked_of, pricing, planned_of, planning}
use Rattle.plan_spec.proofs.Accepting.{planning_accept, planning_accepted, planned_accepted, lists_slotted}
use Rattle.plan_spec.proofs.Answering.{given_planned}
use Rattle.plan_spec.proofs.Answering as Answering
use Rattle.plan_spec.proofs.Unaltered.{idle_used, used_greatest}
use Rattle.plan_spec.proofs.PricingLaws.{answer_given}
use Rattle.plan_spec.proofs.Marking.{planned_yes}
use Rattle.plan_spec.proofs.Demand.{demand, plan_sound}
use Rattle.rack_spec.specs.Grids.{grid_of, mask_of, summed}
use Rattle.rack_spec.specs.Pointed.{HasPoint}
use Rattle.rack_spec.proofs.Divided.{pointed_division, pointed_moves, sound_pointed}
use Rattle.rack_spec.proofs.Parents.{tree_parent}
use Rattle.plan_entry.specs.Best.{Best, Runnable}
use Rattle.plan_entry.specs.contracts.planning.plan.{signature, ended}
use Rattle.plan_entry.proofs.planning.plan.Reads as reads

module _ (l : List ℕ) (p : ℕ) (ok : PlanningAccepted l p) where
  lists_planned : lists_of (slotted (plan_of l p)) ≡ plan_of l p
  lists_planned = lists_slotted (plan_of l p) (plan_sound l p ok.lengths.some ok.enough) (unfold plan_of in ok.lengths.few)

  exponents_planned : exponents l p ≡ (lists_of (slotted (plan_of l p))).exponents
  exponents_planned = rw lists_planned (unfold plan_of in refl)

  axis_planned : (mask : ℕ) → tree_axis l mask ≡ last_summed (keeps mask) 0 (lists_of (slotted (plan_of l p))).order
  axis_planned mask = rw lists_planned (unfold plan_of tree_axis in refl)

  priced_planned : plan_refusal (slotted (plan_of l p)) ≡ 0 → pricing (slotted (plan_of l p)) ≡ gives (record { prices = prices_of (plan_of l p); fewest = true })
  unfolding pricing marked_of
  priced_planned e = rw (← planned_yes l p, lists_planned) (sym (answer_given (plan_refusal (slotted (plan_of l p))) (marked_of (plan_of l p)) e))

lengths_of_lem : (l : List ℕ) (p : ℕ) → (plan_of l p).lengths ≡ l
unfolding plan_of
lengths_of_lem l p = refl

boards_of : (l : List ℕ) (p : ℕ) → (plan_of l p).p ≡ p
unfolding plan_of
boards_of l p = refl

module _ (l : List ℕ) (p : ℕ) (v : Planned) (e : gives v ≡ planning l p) where
  -- the power of the boards in use
  abbrev used : ℕ
  used = power_used l p

  fine : planning_refusal l p ≡ 0
  fine = (given_planned l p v e).0

  given : v ≡ planned_of (idle_boards l p) (plan_within l p)
  given = (given_planned l p v e).1

  accepted : PlanningAccepted l used
  accepted = planning_accepted l p fine

  prices_are : v.prices ≡ prices_of (plan_within l p)
  prices_are = ap (λ (x : Planned). x.prices) given

  plan_is : v.plan ≡ slotted (plan_within l p)
  plan_is = ap (λ (x : Planned). x.plan) given

  lists_are : lists_of v.plan ≡ plan_within l p
  lists_are = ap lists_of plan_is ∙ lists_planned l used accepted

  pub answer_idle : v.idle + 2 ^ used ≡ 2 ^ p
  answer_idle = ap (λ (x : Planned). x.idle + 2 ^ used) given ∙ idle_used l p

  pub answer_best : Best l used v
  answer_best =
      let least = demand l used accepted.lengths.some accepted.enough in
      let sound = plan_sound l used accepted.lengths.some accepted.enough in
      let m : v.prices.moved ≡ Plans.moved (plan_within l p) = (rw prices_are (unfold prices_of in refl)) in
      let a : v.prices.added ≡ Plans.added (plan_within l p) = (rw prices_are (unfold prices_of in refl)) in
      record {
        moved_least = λ d w. rw m (least.moves_least d w);
        added_least = λ w. rw a (least.adds_least w);
        pointed_least = λ c w. rw (m, ← pointed_moves c w) (least.moves_least (pointed_division c) w);
        division = least.division;
        way = least.way;
        exponents = least.exponents ∙ exponents_planned l used accepted ∙ ap (λ (q : Plan). (lists_of q).exponents) (sym plan_is);
        axes = λ mask h. least.axes mask h ∙ axis_planned l used accepted mask ∙ ap (λ (q : Plan). last_summed (keeps mask) 0 (lists_of q).order) (sym plan_is);
        parents = λ mask h. ap (λ (x : PlanLists). mask_of (grid_of x) (parent_of (summed (grid_of x) mask))) lists_are ∙ tree_parent l used mask sound h ∙ ap (with_mask mask) (sym (least.axes mask h));
        points = λ b. subst (λ (x : PlanLists). HasPoint (grid_of x) b) (sym lists_are) (sound_pointed (plan_within l p) sound b);
        moves = least.moves ∙ sym m;
        adds = least.adds ∙ sym a;
        priced = rw (plan_is, prices_are) (priced_planned l used accepted (planned_accepted l p fine));
      }

  pub answer_runs : Runnable l used v
  answer_runs =
      record {
        passed = rw plan_is (planned_accepted l p fine);
        sound = rw lists_are (plan_sound l used accepted.lengths.some accepted.enough);
        some = rw (lists_are, lengths_of_lem l used) accepted.lengths.axes;
        same = ap (λ (a : PlanLists). a.lengths) lists_are ∙ lengths_of_lem l used;
        boards = ap (λ (a : PlanLists). a.p) lists_are ∙ boards_of l used;
        prices = prices_are ∙ ap prices_of (sym lists_are);
      }

-- what is not refused is given
given_where : (l : List ℕ) (p : ℕ) → planning_refusal l p ≡ 0 → (r : Result Planned Refusal) → reply_of r ≡ planning l p → (v : Planned) × (r ≡ Ok v)
given_where l p z (Ok v) e = (v, refl)
given_where l p z (Err n) e = let w = e ∙ Answering.planned_given l p z in absurd (cc)

-- of every call, by what its caller learns: the function's own contract, as the check reads it
module _ (κs : Lfts 1) (a : ArgsD signature κs) (r : ResD signature κs) (s : AtExit ended κs) (h : reads.Learnt κs a r s) where
  abbrev lengths : List ℕ
  lengths = a.0.now

  -- the p asked for, and the one used
  abbrev asked : ℕ
  asked = a.1.0

  abbrev power : ℕ
  power = power_used lengths asked

  says : reply_of r ≡ planning lengths asked
  says = h

  -- Statement: a plan is given for whatever passes 3 to 6.
  pub planned_given : LengthsAccepted lengths → asked ≤ power_limit → (v : Planned) × (r ≡ Ok v)
  planned_given ok l = given_where lengths asked (planning_accept lengths asked ok l) r says

  module _ (v : Planned) (e : r ≡ Ok v) where
    given_here : gives v ≡ planning lengths asked
    given_here = sym (ap reply_of e) ∙ says

    -- Statement: "Least traffic is then meant among divisions of the boards in use."
    pub planned_best : Best lengths power v
    planned_best = answer_best lengths asked v given_here

    -- Statement: the plan has the p used, and no entry refuses it for what a plan may be (3 to 9).
    pub planned_runs : Runnable lengths power v
    planned_runs = answer_runs lengths asked v given_here

    -- Statement: "how many of the boards asked for stand idle": with the plan's they are all that were asked for.
    pub planned_idle : v.idle + 2 ^ (lists_of v.plan).p ≡ 2 ^ asked
    planned_idle = rw planned_runs.boards (answer_idle lengths asked v given_here)

    -- Statement: and no division of these axes puts more of the boards asked for to use.
    pub planned_most : (q : ℕ) → q ≤ asked → Division lengths q → q ≤ (lists_of v.plan).p
    planned_most q l d = rw planned_runs.boards (used_greatest lengths asked q l d)
