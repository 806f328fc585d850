-- What the program knows of a tape that it does not refuse: its plan, its points, and that all fits.
use Prim.Native.Nat.{ℕ, ◌≤◌}
use mathlib.Core.Path.{◌≡◌, sym, ◌∙◌, refl, ap, ap₂}
use mathlib.Core.Bool.{false, not}
use mathlib.Core.List.{List, [], ◌∷◌, ◌++◌}
use native.Mathlib.Omega.{arith}
use borrow.Author.Tests.{eqb-true, ltb-false, le-ltb}
use lib.Dec.{eqb, ltb}
use lib.IntN.{ℤ}
use lib.ListN.{length, take, drop, length-append}
use lib.Seq.{take_at}
use Rattle.cube_spec.specs.Limits.{program_limit}
use Rattle.cube_spec.specs.Choices.{points}
use Rattle.cube_spec.specs.Checks.{Check, check, first, gives, refuses}
use Rattle.cube_spec.proofs.Answered.{gives_is, refuses_is, refuses_some}
use Rattle.cube_spec.proofs.Sums.{by}
use Rattle.plan_spec.specs.Plans.{Sound, lists_of, slotted}
use Rattle.plan_spec.specs.Rule.{plan_of, power_used, idle_boards}
use Rattle.plan_spec.specs.Answers.{prices_of, planned_of}
use Rattle.plan_spec.specs.Refusals.{planning_checks, planning_refusal, plan_refusal}
use Rattle.plan_spec.specs.Accepted.{PlanningAccepted, Accepted}
use Rattle.plan_spec.specs.declared.types.Planned.{Planned}
use Rattle.plan_spec.proofs.Accepting.{planning_numbered, planning_accepted, lists_slotted, slotted_accepted, planned_accepted, or_none}
use Rattle.plan_spec.proofs.Demand.{plan_sound}
use Rattle.cube_spec.proofs.Naturals.{clash}
use Rattle.cube_spec.proofs.Dues.{none_first, none_both}
use Rattle.tape_spec.specs.Tapes.{Campaign, campaign}
use Rattle.tape_spec.specs.Reading.{or_empty, scan_checks, short_slice, reading_checks, reading_refusal, filled_or, reading}
use Rattle.tape_spec.proofs.Refusing.{none_of_scan, after_scan, fills}
use Rattle.run_spec.specs.Entries.{bad_array, work_cells}
use Rattle.report_spec.specs.Printed.{plan_for, too_large, program_checks, program_refusal}
use Rattle.totals_check.specs.Judging.{judging}

same : (m n : ℕ) → not (eqb m n) ≡ false → m ≡ n
same m n e = by (eqb m n) (λ t. eqb-true m n t) (λ t. clash (rw t at e))

-- a tape that is refused, by a number
module _ (tape : List ℕ) (n : ℕ) (e : refuses n ≡ judging tape) where
  pub refusal_is : n ≡ program_refusal tape
  unfolding judging
  refusal_is = refuses_is (program_refusal tape) n _ e

  pub refused_some : n ≡ 0 → ⊥
  unfolding judging
  refused_some = refuses_some (program_refusal tape) n _ e

-- a tape that is taken
module _ (tape : List ℕ) (judged : Planned) (e : gives judged ≡ judging tape) where
  abbrev c : Campaign
  c = or_empty (campaign tape)

  both : (program_refusal tape ≡ 0) × (judged ≡ planned_of (idle_boards c.lengths c.p) (plan_for c))
  unfolding judging
  both = gives_is (program_refusal tape) _ judged e

  pub none_due : program_refusal tape ≡ 0
  none_due = both.0

  pub plan_is : judged.plan ≡ slotted (plan_for c)
  plan_is = ap (λ r. r.plan) both.1

  prices_are : judged.prices ≡ prices_of (plan_for c)
  prices_are = ap (λ r. r.prices) both.1

  abbrev counts : List Check
  counts = check 10 (bad_array (plan_for c) (length c.points)) ∷ check 11 (too_large c) ∷ []

  scanned : (first (scan_checks tape) ≡ 0) × (first (planning_checks c.lengths c.p ++ counts) ≡ 0)
  unfolding program_refusal program_checks
  scanned = none_of_scan tape (planning_checks c.lengths c.p ++ counts) none_due

  parted : (first (planning_checks c.lengths c.p) ≡ 0) × (first counts ≡ 0)
  parted = none_both (planning_checks c.lengths c.p) counts (planning_numbered c.lengths c.p) scanned.1

  planned : planning_refusal c.lengths c.p ≡ 0
  unfolding planning_refusal
  planned = parted.0

  accepted : PlanningAccepted c.lengths (power_used c.lengths c.p)
  accepted = planning_accepted c.lengths c.p planned

  pub plan_passed : plan_refusal judged.plan ≡ 0
  plan_passed = ap plan_refusal plan_is ∙ planned_accepted c.lengths c.p planned

  sound : Sound (plan_for c)
  sound = plan_sound c.lengths (power_used c.lengths c.p) accepted.lengths.some accepted.enough

  pub plan_accepted : Accepted judged.plan
  plan_accepted = rw plan_is (slotted_accepted (plan_for c) (unfold plan_of in accepted.lengths) (unfold plan_of in accepted.boards) sound)

  pub lists_are : lists_of judged.plan ≡ plan_for c
  lists_are = ap lists_of plan_is ∙ lists_slotted (plan_for c) sound (unfold plan_of in accepted.lengths.few)

  pub prices_lists : judged.prices ≡ prices_of (lists_of judged.plan)
  prices_lists = prices_are ∙ ap prices_of (sym lists_are)

  counted : (bad_array (plan_for c) (length c.points) ≡ false) × (too_large c ≡ false)
  counted =
      let a = none_first (check 10 (bad_array (plan_for c) (length c.points))) (check 11 (too_large c) ∷ []) (omega arith) parted.1 in
      let b = none_first (check 11 (too_large c)) [] (omega arith) a.1 in
      (a.0, b.0)

  pub points_are : points (lists_of judged.plan).lengths ≡ length c.points
  points_are = ap (λ a. points a.lengths) lists_are ∙ sym (same (length c.points) (points (plan_for c).lengths) (unfold bad_array in counted.0))

  large : (ltb program_limit (length c.points) ≡ false) × (ltb program_limit (work_cells (plan_for c)) ≡ false)
  unfolding too_large
  large = or_none (ltb program_limit (length c.points)) (ltb program_limit (work_cells (plan_for c))) counted.1

  pub points_few : length c.points ≤ 8192
  points_few = ltb-false program_limit (length c.points) large.0

  pub area_few : work_cells (lists_of judged.plan) ≤ 8192
  area_few = rw lists_are (ltb-false program_limit (work_cells (plan_for c)) large.1)

  -- what filling asks for
  pub fillable : (n : ℕ) → n ≡ 8192 → reading_refusal tape n ≡ 0
  unfolding reading_refusal reading_checks first short_slice
  fillable n e =
      let f = points_few in
      let s : ltb n (length c.points) ≡ false = le-ltb n (length c.points) (omega arith) in
      rw (after_scan tape _ scanned.0, s)

  -- filling puts the points at the start
  module _ (old now : List ℤ) (room : length old ≡ 8192) (filled : now ≡ reading tape old) where
    whole : now ≡ c.points ++ drop (length c.points) old
    unfolding filled_or
    whole = filled ∙ sym (fills tape old (fillable (length old) room))

    module _ (n : ℕ) (k : n ≡ points (lists_of judged.plan).lengths) where
      pub loaded : take n now ≡ c.points
      loaded = ap₂ take (k ∙ points_are) whole ∙ take_at c.points (drop (length c.points) old) (length c.points) refl

      pub loaded_fits : n ≤ length now
      loaded_fits =
          let p = k ∙ points_are in
          let l = ap length whole in
          let a = length-append c.points (drop (length c.points) old) in
          omega arith
