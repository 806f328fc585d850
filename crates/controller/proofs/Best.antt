-- Demand 3 for the controller: whatever a call of `campaign_plan` leaves in the result with answer 0 holds a best plan over the boards in use (specs/Best).
use Prim.Native.Nat.{ℕ}
use mathlib.Core.Path.{◌≡◌, sym, ◌∙◌, refl, ap, ap₂, subst}
use mathlib.Core.List.{List, ◌++◌}
use lib.ListN.{length, get_or, take, drop}
use lib.Seq.{take-append_seam, drop-append_seam}
use contract.Lifetimes.{Lfts}
use borrow.Fn.World.{ArgsD, ResD}
use denote.Triple.Clauses.{AtExit}
use Rattle.cube_spec.specs.Boxes.{table}
use Rattle.cube_spec.specs.Choices.{with_mask}
use Rattle.cube_spec.specs.Ways.{sum_list}
use Rattle.plan_spec.specs.Plans.{find}
use Rattle.plan_spec.specs.Accepted.{PlanningAccepted}
use Rattle.plan_spec.specs.Rule.{order, ordered_exponents, exponents, plan_of, power_used}
use Rattle.plan_spec.specs.Trees.{tree_axis}
use Rattle.plan_spec.proofs.Accepting.{planning_accepted}
use Rattle.plan_spec.proofs.Places.{order_length}
use Rattle.plan_spec.proofs.Demand.{demand, plan_sound}
use Rattle.rack_spec.proofs.Divided.{pointed_division, pointed_moves, sound_pointed}
use Rattle.rack_spec.proofs.Parents.{tree_parent}
use Rattle.controller.specs.Bytes.{pairs, controller_refusal, written_or, written, plan_in}
use Rattle.controller.specs.Best.{BestPlan}
use Rattle.controller.proofs.Pairing.{asks_none, granted}
use Rattle.controller.specs.contracts.campaign_plan.{signature, ended}
use Rattle.controller.proofs.campaign_plan.Reads as reads

planned : (ds : List ℕ) (p : ℕ) → PlanningAccepted ds p → BestPlan ds p (plan_of ds p)
planned ds p ok =
    let least = demand ds p ok.lengths.some ok.enough in
    let sound = plan_sound ds p ok.lengths.some ok.enough in
    record {
      lengths = unfold plan_of in refl;
      boards = unfold plan_of in refl;
      sound = sound;
      moved_least = least.moves_least;
      pointed_least = λ c w. rw (← pointed_moves c w) (least.moves_least (pointed_division c) w);
      added_least = least.adds_least;
      division = least.division;
      way = least.way;
      exponents = least.exponents ∙ (unfold plan_of in refl);
      axes = λ mask h. least.axes mask h ∙ (unfold plan_of tree_axis in refl);
      moves = least.moves;
      adds = least.adds;
      parents = λ mask h. tree_parent ds p mask sound h ∙ ap (with_mask mask) (sym (least.axes mask h));
      points = sound_pointed (plan_of ds p) sound;
    }

-- the bytes hold the rule's plan for the p used
along_axes : (ds o along : List ℕ) (p : ℕ) → o ≡ order ds → along ≡ ordered_exponents ds p → table (length ds) (λ a. get_or along (find a o) 0) ≡ exponents ds p
unfolding exponents
along_axes ds o along p eo ek = ap₂ (λ (x y : List ℕ). table (length ds) (λ a. get_or y (find a x) 0)) eo ek

read_back_lem : (ds : List ℕ) (p : ℕ) → PlanningAccepted ds p → plan_in ds (order ds ++ ordered_exponents ds p) ≡ plan_of ds p
unfolding plan_in plan_of
read_back_lem ds p ok =
    let n = order_length ds in
    let bytes = order ds ++ ordered_exponents ds p in
    let o : take (length ds) bytes ≡ order ds = ap (λ m. take m bytes) (sym n) ∙ take-append_seam (order ds) (ordered_exponents ds p) in
    let k : drop (length ds) bytes ≡ ordered_exponents ds p = ap (λ m. drop m bytes) (sym n) ∙ drop-append_seam (order ds) (ordered_exponents ds p) in
    let s = (plan_sound ds p ok.lengths.some ok.enough).sums in
    ap₂ (λ (x y : List ℕ). record { lengths = ds; order = x; exponents = y; p = sum_list y }) o (along_axes ds _ _ p o k)
    ∙ ap (λ (q : ℕ). record { lengths = ds; order = order ds; exponents = exponents ds p; p = q }) s

written_plan : (bytes : List ℕ) (p : ℕ) (result : List ℕ) → controller_refusal bytes p (length result) ≡ 0
    → written bytes p result ≡ order (pairs bytes) ++ ordered_exponents (pairs bytes) (power_used (pairs bytes) p)
unfolding written written_or
written_plan bytes p result z = ap (λ k. written_or k (pairs bytes) p result) z

-- what is left in the result with no refusal holds a best plan over the boards in use
pub result_best : (bytes : List ℕ) (p : ℕ) (result left : List ℕ) → controller_refusal bytes p (length result) ≡ 0 → left ≡ written bytes p result
    → BestPlan (pairs bytes) (power_used (pairs bytes) p) (plan_in (pairs bytes) left)
result_best bytes p result left z w =
    let ds = pairs bytes in
    let u = power_used ds p in
    let ok = planning_accepted ds p (asks_none bytes p (granted bytes p (length result) z)) in
    let q : plan_in ds left ≡ plan_of ds u = ap (plan_in ds) (w ∙ written_plan bytes p result z) ∙ read_back_lem ds u ok in
    subst (BestPlan ds u) (sym q) (planned ds u ok)

-- Statement: of every call with answer 0, by what its caller learns: the function's own contract, as the check reads it.
pub campaign_best : (κs : Lfts 2) (a : ArgsD signature κs) (r : ResD signature κs) (s : AtExit ended κs) → reads.Learnt κs a r s → r ≡ 0
    → BestPlan (pairs a.0.now) (power_used (pairs a.0.now) a.1.0) (plan_in (pairs a.0.now) s.1.1.0.now)
campaign_best κs a r s h e = result_best a.0.now a.1.0 a.1.1.0.now s.1.1.0.now (sym h.0 ∙ e) h.1
