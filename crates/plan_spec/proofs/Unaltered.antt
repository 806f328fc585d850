-- Request 7/12 beside what planning was before it (specs/Before): every plan and every other refusal stays, and where 7 was due there is a plan.
use Prim.Native.Nat.{ℕ, zero, suc, ◌+◌, ◌-◌, ◌^◌, ◌≤◌}
use mathlib.Core.Path.{◌≡◌, sym, ◌∙◌, refl, ap, ap₂}
use mathlib.Core.Bool.{false}
use mathlib.Core.List.{List, [], ◌∷◌}
use native.Mathlib.Omega.{arith}
use native.Mathlib.Nat.{sub_self}
use borrow.Author.Tests.{eqb-true, eqb-false, le-ltb, ltb-true, ltb-false}
use lib.Dec.{eqb, ltb}
use lib.Pow.{pow_mono}
use Rattle.cube_spec.specs.Boxes.{pick}
use Rattle.cube_spec.specs.Ways.{Division, room}
use Rattle.cube_spec.specs.Checks.{gives, check, first, answered}
use Rattle.cube_spec.proofs.Sums.{by}
use Rattle.cube_spec.proofs.Dues.{first_due, first_passed, lacks, never}
use Rattle.plan_spec.specs.declared.types.Plan.{Plan}
use Rattle.plan_spec.specs.Rule.{plan_of, power_used, plan_within, idle_boards}
use Rattle.plan_spec.specs.Refusals.{length_checks, planning_checks, plan_checks, planning_refusal, plan_refusal}
use Rattle.plan_spec.specs.Answers.{planned_of, planning}
use Rattle.plan_spec.specs.Before.{refusal_before, planning_before}
use Rattle.plan_spec.proofs.Room.{division_room}
use Rattle.plan_spec.proofs.Accepting.{used_le, used_all, used_most, planning_numbered}

-- ---- "7 is no longer given": not by planning, and not for a plan that is lent

pub never_planning : (ds : List ℕ) (p : ℕ) → planning_refusal ds p ≡ 7 → ⊥
unfolding planning_refusal planning_checks length_checks lacks
never_planning ds p = never 7 (planning_checks ds p) (omega arith) refl

pub never_lent : (q : Plan) → plan_refusal q ≡ 7 → ⊥
unfolding plan_refusal plan_checks length_checks lacks
never_lent q = never 7 (plan_checks q) (omega arith) refl

-- ---- what stays

-- beside a refusal nothing is told
blanks : {A : Type 0} (n : ℕ) (a b : A) → (n ≡ 0 → ⊥) → answered n a ≡ answered n b
blanks zero a b h = absurd (h refl)
blanks (suc n) a b h = unfold answered in refl

module _ (ds : List ℕ) (p : ℕ) where
  -- 7 was the last: due where none of 3 to 6 is and p passes F
  before_passed : planning_refusal ds p ≡ 0 → refusal_before ds p ≡ pick (ltb (room ds) p) 7 0
  unfolding refusal_before planning_refusal first
  before_passed z = first_passed (planning_checks ds p) (check 7 (ltb (room ds) p) ∷ []) (planning_numbered ds p) z

  before_due : (planning_refusal ds p ≡ 0 → ⊥) → refusal_before ds p ≡ planning_refusal ds p
  unfolding refusal_before planning_refusal
  before_due h = first_due (planning_checks ds p) (check 7 (ltb (room ds) p) ∷ []) h

  -- the plan is the rule's for the p asked for, and so are the controller's bytes and the printed lines, which are of it
  pub same_plan : p ≤ room ds → plan_within ds p ≡ plan_of ds p
  same_plan l = ap (plan_of ds) (sym (used_all ds p l))

  fitted : ltb (room ds) p ≡ false → planned_of (idle_boards ds p) (plan_within ds p) ≡ planned_of 0 (plan_of ds p)
  unfolding idle_boards
  fitted t =
      let u : power_used ds p ≡ p = sym (used_all ds p (ltb-false (room ds) p t)) in
      ap (λ q. planned_of (2 ^ p - 2 ^ q) (plan_of ds q)) u ∙ ap (λ i. planned_of i (plan_of ds p)) (sub_self (2 ^ p))

  -- "Plans that were given before are given unaltered", with no board idle; and so is every refusal but 7
  pub unaltered : (refusal_before ds p ≡ 7 → ⊥) → planning ds p ≡ planning_before ds p
  unfolding planning planning_before
  unaltered h =
      by (eqb (planning_refusal ds p) 0)
      (λ s.
      let z = eqb-true (planning_refusal ds p) 0 s in
      let b = before_passed z in
      by (ltb (room ds) p)
      (λ t. absurd (h (b ∙ ap (λ x. pick x 7 0) t)))
      (λ t.
      ap (λ n. answered n (planned_of (idle_boards ds p) (plan_within ds p))) z
      ∙ ap (answered 0) (fitted t)
      ∙ ap (λ n. answered n (planned_of 0 (plan_of ds p))) (sym (b ∙ ap (λ x. pick x 7 0) t))))
      (λ s.
      let ne = eqb-false (planning_refusal ds p) 0 s in
      blanks (planning_refusal ds p) (planned_of (idle_boards ds p) (plan_within ds p)) (planned_of 0 (plan_of ds p)) ne
      ∙ ap (λ n. answered n (planned_of 0 (plan_of ds p))) (sym (before_due ne)))

  -- where 7 was due, the plan for F is given
  pub now_planned : refusal_before ds p ≡ 7 → planning ds p ≡ gives (planned_of (2 ^ p - 2 ^ room ds) (plan_of ds (room ds)))
  unfolding planning idle_boards answered
  now_planned h =
      by (eqb (planning_refusal ds p) 0)
      (λ s.
      let z = eqb-true (planning_refusal ds p) 0 s in
      let b = before_passed z in
      by (ltb (room ds) p)
      (λ t. ap₂ (λ n u. answered n (planned_of (2 ^ p - 2 ^ u) (plan_of ds u))) z (sym (used_most ds p (ltb-true (room ds) p t))))
      (λ t. absurd (let e = sym h ∙ b ∙ ap (λ x. pick x 7 0) t in omega arith)))
      (λ s. absurd (never_planning ds p (sym (before_due (eqb-false (planning_refusal ds p) 0 s)) ∙ h)))

  -- for p at most F planning is what it was: every plan with no board idle, and every refusal
  pub unaltered_within : p ≤ room ds → planning ds p ≡ planning_before ds p
  unaltered_within l =
      unaltered
      (λ h.
      by (eqb (planning_refusal ds p) 0)
      (λ s.
      let b = before_passed (eqb-true (planning_refusal ds p) 0 s) in
      let e = sym h ∙ b ∙ ap (λ x. pick x 7 0) (le-ltb (room ds) p l) in
      omega arith)
      (λ s. never_planning ds p (sym (before_due (eqb-false (planning_refusal ds p) 0 s)) ∙ h)))

  -- the idle boards and those in use are all that were asked for
  pub idle_used : idle_boards ds p + 2 ^ power_used ds p ≡ 2 ^ p
  unfolding idle_boards
  idle_used = let l : 2 ^ power_used ds p ≤ 2 ^ p = pow_mono (used_le ds p) in omega arith

  -- no division of these axes has more boards than are in use, among those asked for
  pub used_greatest : (q : ℕ) → q ≤ p → Division ds q → q ≤ power_used ds p
  unfolding power_used
  used_greatest q l e = let r = division_room ds q e in omega arith
