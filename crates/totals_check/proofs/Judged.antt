-- The program's refusals, one after the other: those of the scan, of planning, and of the counts.
use Prim.Native.Nat.{ℕ, ◌≤◌, ◌<◌}
use mathlib.Core.Path.{◌≡◌, sym, ◌∙◌, refl, ap, ap₂}
use mathlib.Core.Bool.{true, false}
use mathlib.Core.List.{List, [], ◌∷◌, ◌++◌}
use native.Mathlib.Omega.{arith}
use borrow.Author.Tests.{lt-ltb, le-ltb, eq-eqb, ne_eqb}
use lib.Dec.{eqb, ltb}
use lib.ListN.{length, take}
use Rattle.cube_spec.specs.Limits.{program_limit}
use Rattle.cube_spec.specs.Choices.{points}
use Rattle.cube_spec.specs.Checks.{Check, check, first, gives, refuses, answered}
use Rattle.cube_spec.proofs.Answered.{given, refused}
use Rattle.cube_spec.proofs.Dues.{first_due, first_passed}
use Rattle.plan_spec.specs.Plans.{lists_of, slotted}
use Rattle.plan_spec.specs.Rule.{plan_of, power_used, idle_boards}
use Rattle.plan_spec.specs.Answers.{planned_of, planning}
use Rattle.plan_spec.specs.Refusals.{planning_checks, planning_refusal, plan_refusal}
use Rattle.plan_spec.specs.Accepted.{PlanningAccepted}
use Rattle.plan_spec.specs.declared.types.Planned.{Planned}
use Rattle.plan_spec.proofs.Accepting.{planning_numbered, planning_accepted, take_padded, padded_length, lists_slotted, planned_accepted}
use Rattle.plan_spec.proofs.Answering.{too_many_lem, given_planned, refused_planned}
use Rattle.plan_spec.proofs.Demand.{plan_sound}
use Rattle.tape_spec.specs.Tapes.{Campaign, campaign}
use Rattle.tape_spec.specs.declared.types.Scan.{Scan}
use Rattle.tape_spec.specs.Reading.{or_empty, scan_in, scanning}
use Rattle.tape_spec.proofs.Refusing.{some, scan_first, scan_is, scan_passed}
use Rattle.run_spec.specs.Entries.{bad_array, work_cells}
use Rattle.report_spec.specs.Printed.{plan_for, too_large, program_checks, program_refusal}
use Rattle.totals_check.specs.Judging.{judging}

not_three : ◌≡◌ {A = ℕ} 3 0 → ⊥
not_three e = omega arith

module _ (tape : List ℕ) where
  abbrev c : Campaign
  c = or_empty (campaign tape)

  abbrev counts : List Check
  counts = check 10 (bad_array (plan_for c) (length c.points)) ∷ check 11 (too_large c) ∷ []

  abbrev answer : Planned
  answer = planned_of (idle_boards c.lengths c.p) (plan_for c)

  -- a refusal that is due
  judged_due : (n : ℕ) → 0 < n → n ≡ program_refusal tape → refuses n ≡ judging tape
  unfolding judging
  judged_due n h e = refused n answer h ∙ ap (λ n. answered n answer) e

  pub scan_refused : (n : ℕ) → refuses n ≡ scanning tape → refuses n ≡ judging tape
  unfolding program_refusal program_checks
  scan_refused n e =
      let z = some tape n e in
      judged_due n (omega (arith, z)) (scan_first tape n e (planning_checks c.lengths c.p ++ counts) ∙ (unfold program_refusal program_checks in refl))

  module _ (f : Scan) (e : gives f ≡ scanning tape) where
    told : f ≡ scan_in tape
    told = scan_is tape f e

    passed_scan : program_refusal tape ≡ first (planning_checks c.lengths c.p ++ counts)
    unfolding program_refusal program_checks
    passed_scan = scan_passed tape f e (planning_checks c.lengths c.p ++ counts)

    axes_are : f.axes ≡ length c.lengths
    axes_are = ap (λ f. f.axes) told

    points_told : f.points ≡ length c.points
    points_told = ap (λ f. f.points) told

    -- a refusal of planning
    planning_due : (n : ℕ) → (n ≡ 0 → ⊥) → n ≡ planning_refusal c.lengths c.p → n ≡ program_refusal tape
    unfolding planning_refusal
    planning_due n z t = t ∙ sym (passed_scan ∙ first_due (planning_checks c.lengths c.p) counts (λ y. z (t ∙ y)))

    pub too_many_axes : 8 < f.axes → refuses 3 ≡ judging tape
    too_many_axes l =
        let a = axes_are in
        judged_due 3 (omega arith) (planning_due 3 not_three (too_many_lem c.lengths c.p (omega arith)))

    module _ (few : f.axes ≤ 8) where
      pub axes_fit : f.axes ≤ length f.lengths
      axes_fit = let a = axes_are in let n = padded_length c.lengths (omega arith) in let l = ap (λ f. length f.lengths) told in omega arith

      lengths_are : take f.axes f.lengths ≡ c.lengths
      lengths_are = let a = axes_are in ap₂ take a (ap (λ f. f.lengths) told) ∙ take_padded c.lengths (omega arith)

      planned : planning (take f.axes f.lengths) f.p ≡ planning c.lengths c.p
      planned = ap₂ planning lengths_are (ap (λ f. f.p) told)

      pub planning_refused : (n : ℕ) → refuses n ≡ planning (take f.axes f.lengths) f.p → refuses n ≡ judging tape
      planning_refused n e =
          let r = refused_planned c.lengths c.p n (e ∙ planned) in
          let z = r.1 in
          judged_due n (omega (arith, z)) (planning_due n z r.0)

      -- planning's own answer
      module _ (r : Planned) (er : gives r ≡ planning (take f.axes f.lengths) f.p) where
        both : (planning_refusal c.lengths c.p ≡ 0) × (r ≡ answer)
        both = given_planned c.lengths c.p r (er ∙ planned)

        none_due : planning_refusal c.lengths c.p ≡ 0
        none_due = both.0

        plan_is : r.plan ≡ slotted (plan_for c)
        plan_is = ap (λ r. r.plan) both.1

        pub plan_accepted : plan_refusal r.plan ≡ 0
        plan_accepted = ap plan_refusal plan_is ∙ planned_accepted c.lengths c.p none_due

        accepted : PlanningAccepted c.lengths (power_used c.lengths c.p)
        accepted = planning_accepted c.lengths c.p none_due

        lists_are : lists_of r.plan ≡ plan_for c
        lists_are = ap lists_of plan_is ∙ lists_slotted (plan_for c) (plan_sound c.lengths (power_used c.lengths c.p) accepted.lengths.some accepted.enough) (unfold plan_of in accepted.lengths.few)

        counted : program_refusal tape ≡ first counts
        counted = passed_scan ∙ first_passed (planning_checks c.lengths c.p) counts (planning_numbered c.lengths c.p) (unfold planning_refusal in none_due)

        module _ (n : ℕ) (en : n ≡ points (lists_of r.plan).lengths) where
          points_are : n ≡ points (plan_for c).lengths
          points_are = en ∙ ap (λ a. points a.lengths) lists_are

          pub points_refused : (n ≡ f.points → ⊥) → refuses 10 ≡ judging tape
          points_refused d =
              judged_due 10 (omega arith) (sym (counted ∙ (unfold first bad_array in rw (ne_eqb (length c.points) (points (plan_for c).lengths) (λ y. d (points_are ∙ sym y ∙ sym points_told))) refl)))

          module _ (d : n ≡ f.points) where
            same_points : eqb (length c.points) (points (plan_for c).lengths) ≡ true
            same_points = eq-eqb _ _ (sym points_told ∙ sym d ∙ points_are)

            large : program_refusal tape ≡ first (check 11 (too_large c) ∷ [])
            large = counted ∙ (unfold first bad_array in rw same_points refl)

            pub many_points : 8192 < n → refuses 11 ≡ judging tape
            many_points l =
                judged_due 11 (omega arith) (sym (large ∙ (unfold first too_large in rw (lt-ltb program_limit (length c.points) (let t = points_told in omega arith)) refl)))

            module _ (l : n ≤ 8192) (w : ℕ) (ew : w ≡ work_cells (lists_of r.plan)) where
              few_points : ltb program_limit (length c.points) ≡ false
              few_points = le-ltb program_limit (length c.points) (let t = points_told in omega arith)

              work_is : w ≡ work_cells (plan_for c)
              work_is = ew ∙ ap work_cells lists_are

              pub large_area : 8192 < w → refuses 11 ≡ judging tape
              large_area g =
                  judged_due 11 (omega arith) (sym (large ∙ (unfold first too_large in rw (few_points, lt-ltb program_limit (work_cells (plan_for c)) (let t = work_is in omega arith)) refl)))

              none : w ≤ 8192 → program_refusal tape ≡ 0
              none g = large ∙ (unfold first too_large in rw (few_points, le-ltb program_limit (work_cells (plan_for c)) (let t = work_is in omega arith)) refl)

              pub taken : w ≤ 8192 → gives r ≡ judging tape
              unfolding judging
              taken g = ap gives both.1 ∙ given (program_refusal tape) answer (none g)
