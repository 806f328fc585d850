-- Laws of what planning, idle boards, step, view and gather leave in what a caller in C lends.
use Prim.Native.Nat.{ℕ, zero, suc}
use mathlib.Core.Path.{◌≡◌, refl, sym, ap, ◌∙◌}
use mathlib.Core.Bool.{Bool, true, false, not}
use mathlib.Core.List.{List, [], ◌∷◌, ◌++◌}
use native.Mathlib.Omega.{arith}
use borrow.Author.Tests.{eq-eqb, ne_eqb, eqb-true, eqb-false}
use lib.Dec.{eqb}
use lib.ListN.{length, get_or, take, drop}
use lib.IntN.{ℤ}
use Rattle.cube_spec.specs.Checks.{Check, check, first, gives, refuses}
use Rattle.cube_spec.specs.Refusals.{number_of}
use Rattle.cube_spec.specs.declared.refusals.Refusal.{Refusal}
use Rattle.plan_spec.specs.declared.types.Plan.{Plan}
use Rattle.plan_spec.specs.declared.types.Prices.{Prices}
use Rattle.plan_spec.specs.declared.types.Planned.{Planned}
use Rattle.plan_spec.specs.Plans.{PlanLists, slotted}
use Rattle.plan_spec.specs.Rule.{plan_of, power_used, plan_within, idle_boards}
use Rattle.plan_spec.specs.Refusals.{plan_checks, length_checks, planning_checks, planning_refusal, plan_refusal}
use Rattle.plan_spec.specs.Answers.{prices_of, planned_of, planning}
use Rattle.plan_spec.proofs.Accepting.{padded_length, planning_numbered, planning_accepted, planned_accepted}
use Rattle.plan_spec.proofs.Answering.{planned_given, given_planned, refused_planned}
use Rattle.plan_spec.proofs.Demand.{plan_sound}
use Rattle.cube_spec.proofs.Sums.{by}
use Rattle.cube_spec.proofs.Dues.{Numbered, first_due, first_passed}
use Rattle.rack_spec.specs.Finding.{plan_grid}
use Rattle.rack_spec.specs.Answers.{Told}
use Rattle.run_spec.specs.Entries.{Outcome, outcome, step_checks, step_refusal, stepping, view_checks, view_refusal, viewing}
use Rattle.run_view.specs.declared.types.Part.{Part}
use Rattle.run_view.specs.Places.{part_of}
use Rattle.run_view.proofs.Placed.{shown_part}
use Rattle.controller.specs.declared.types.Asked.{Asked}
use Rattle.controller.specs.Bytes.{pairs, asked_checks, asked_refusal, asked_of, asking}
use Rattle.controller.proofs.Pairing.{asked_numbered}
use Rattle.campaign_slices.specs.Lent.{lent_refusal, written_or}
use Rattle.campaign_slices.specs.Racks.{plan_from, bytes_of, cells_told, cells_priced}
use Rattle.campaign_slices.proofs.Racking as racking
use Rattle.campaign_slices.proofs.Lending as lending
use Rattle.campaign.specs.Calls.{wrong_slices, make_refusal, made, made_or, making, read_back, idle_refusal, idling, run_refusal, ran, ran_or, running, cells_part, part_refusal, parting}

-- ---- planning

module _ (ds : List ℕ) (p : ℕ) where
  abbrev planned : Planned
  planned = planned_of (idle_boards ds p) (plan_within ds p)

  module _ (small slots cells : List ℕ) where
    left : (n : ℕ) → (n ≡ 0 → ⊥) → made n small slots cells ≡ made_or n planned small slots cells
    unfolding made_or
    left zero h = absurd (h refl)
    left (suc n) h = refl

    pub make_refused : (n : ℕ) → refuses n ≡ planning ds p → made n small slots cells ≡ making ds p small slots cells
    unfolding making make_refusal planning_refusal
    make_refused n e =
        let (q, h) = refused_planned ds p n e in
        let due = first_due (planning_checks ds p) (check 13 (wrong_slices (length small) (length slots) (length cells)) ∷ []) (λ z. h (q ∙ z)) in
        left n h ∙ ap (λ n. made_or n planned small slots cells) (q ∙ sym due)

    module _ (f : Planned) (e : gives f ≡ planning ds p) where
      due_is : (t : Bool) → wrong_slices (length small) (length slots) (length cells) ≡ t → first (check 13 t ∷ []) ≡ make_refusal ds p (length small) (length slots) (length cells)
      unfolding make_refusal planning_refusal
      due_is t w =
          let q = first_passed (planning_checks ds p) (check 13 (wrong_slices (length small) (length slots) (length cells)) ∷ []) (planning_numbered ds p) (given_planned ds p f e).0 in
          sym (q ∙ ap (λ (u : Bool). first (check 13 u ∷ [])) w)

      wrong : wrong_slices (length small) (length slots) (length cells) ≡ true → made 13 small slots cells ≡ making ds p small slots cells
      unfolding making first
      wrong w = left 13 (λ z. omega arith) ∙ ap (λ n. made_or n planned small slots cells) (due_is true w)

      pub wrong_small : (length small ≡ 18 → ⊥) → made 13 small slots cells ≡ making ds p small slots cells
      unfolding wrong_slices
      wrong_small l = wrong (rw (ne_eqb (length small) 18 l) refl)

      module _ (s : length small ≡ 18) where
        pub wrong_slots : (length slots ≡ 8 → ⊥) → made 13 small slots cells ≡ making ds p small slots cells
        unfolding wrong_slices
        wrong_slots l = wrong (rw (eq-eqb (length small) 18 s, ne_eqb (length slots) 8 l) refl)

        module _ (t : length slots ≡ 8) where
          pub wrong_cells : (length cells ≡ 4 → ⊥) → made 13 small slots cells ≡ making ds p small slots cells
          unfolding wrong_slices
          wrong_cells l = wrong (rw (eq-eqb (length small) 18 s, eq-eqb (length slots) 8 t, ne_eqb (length cells) 4 l) refl)

          pub make_given : length cells ≡ 4 → (r : ℕ) (a b c : List ℕ) → (a ≡ bytes_of f.plan) × (b ≡ f.plan.lengths)
              → (r ≡ lent_refusal [] 4 (length cells)) × (c ≡ written_or r (cells_priced f.prices f.idle) cells) → made r a b c ≡ making ds p small slots cells
          unfolding making made_or wrong_slices lent_refusal written_or first
          make_given l r a b c (ea, eb) (er, ec) =
              let z : r ≡ 0 = er ∙ rw (eq-eqb (length cells) 4 l) refl in
              let k : c ≡ cells_priced f.prices f.idle = rw z at ec in
              let w : wrong_slices (length small) (length slots) (length cells) ≡ false = rw (eq-eqb (length small) 18 s, eq-eqb (length slots) 8 t, eq-eqb (length cells) 4 l) refl in
              let d = due_is false w in
              rw (z, ea, eb, k, (given_planned ds p f e).1) (ap (λ n. made_or n planned small slots cells) d)

-- ---- the idle boards

module _ (bytes : List ℕ) (p : ℕ) (idle : List ℕ) where
  pub idle_refused : (n : ℕ) → refuses n ≡ asking bytes p → (n ≡ idle_refusal bytes p (length idle)) × (idle ≡ idling bytes p idle)
  unfolding idle_refusal idling asking asked_refusal
  idle_refused n e = lending.not_told (asked_checks bytes p) 1 idle (asked_of (pairs bytes) p) (λ (a : Asked). a.idle ∷ []) n e

  pub idle_given : (a : Asked) → gives a ≡ asking bytes p → (r : ℕ) (w : List ℕ) → (r ≡ lent_refusal [] 1 (length idle)) × (w ≡ written_or r (a.idle ∷ []) idle)
      → (r ≡ idle_refusal bytes p (length idle)) × (w ≡ idling bytes p idle)
  unfolding idle_refusal idling asking asked_refusal
  idle_given a e r w h = lending.told (asked_checks bytes p) 1 idle (asked_of (pairs bytes) p) (λ (a : Asked). a.idle ∷ []) (asked_numbered bytes p) a e r w h

-- ---- the entries of a plan

module _ (q : Plan) where
  module _ (array work : List ℤ) (at : ℕ) (step : List ℕ) where
    step_numbered : Numbered (step_checks q (length array) (length work) at)
    unfolding step_checks plan_checks length_checks
    step_numbered = (omega arith, (omega arith, (omega arith, (omega arith, (omega arith, (omega arith, (omega arith, (omega arith, (omega arith, tt)))))))))

    kept : (n : ℕ) (o : Outcome) → (n ≡ 0 → ⊥) → ran n work at step ≡ ran_or n o work at step
    unfolding ran_or
    kept zero o h = absurd (h refl)
    kept (suc n) o h = refl

    pub run_refused : (x : Refusal) → number_of x ≡ step_refusal q (length array) (length work) at → ran (number_of x) work at step ≡ running q array work at step
    unfolding running run_refusal step_refusal
    run_refused x e =
        let d = lending.refused (step_checks q (length array) (length work) at) 5 step (number_of x) e (lending.some x) [] in
        kept (number_of x) (stepping q array work at) (lending.some x) ∙ ap (λ n. ran_or n (stepping q array work at) work at step) d.0

    module _ (h : step_refusal q (length array) (length work) at ≡ 0) where
      given : (r : ℕ) → r ≡ lent_refusal [] 5 (length step) → r ≡ run_refusal q (length array) (length work) at (length step)
      unfolding run_refusal lent_refusal step_refusal
      given r er = er ∙ sym (first_passed (step_checks q (length array) (length work) at) _ step_numbered h)

      -- with a slice of another length no step is taken
      pub not_run : (length step ≡ 5 → ⊥) → ran 13 work at step ≡ running q array work at step
      unfolding running
      not_run l =
          let d = given 13 (lending.wrong 5 step [] l).0 in
          kept 13 (stepping q array work at) (λ z. omega arith) ∙ ap (λ n. ran_or n (stepping q array work at) work at step) d

      pub run : length step ≡ 5 → (t : Told) (w : List ℤ) (to : ℕ) → outcome t w to ≡ stepping q array work at
          → (r : ℕ) (o : List ℕ) → (r ≡ lent_refusal [] 5 (length step)) × (o ≡ written_or r (cells_told t) step) → ran r w to o ≡ running q array work at step
      unfolding running ran_or written_or
      run l t w to s r o (er, eo) =
          let z : r ≡ 0 = er ∙ sym (lending.right 5 step [] l [] refl).0 in
          let c : o ≡ cells_told t = rw z at eo in
          let d : 0 ≡ run_refusal q (length array) (length work) at (length step) = sym z ∙ given r er in
          rw (z, c) (ap (λ (x : Outcome). ran 0 x.work x.position (cells_told x.says)) s ∙ ap (λ n. ran_or n (stepping q array work at) work at step) d)

  module _ (work at b : ℕ) (part : List ℕ) where
    view_numbered : Numbered (view_checks q work at b)
    unfolding view_checks plan_checks length_checks
    view_numbered = (omega arith, (omega arith, (omega arith, (omega arith, (omega arith, (omega arith, (omega arith, (omega arith, tt))))))))

    pub part_refused : (x : Refusal) → number_of x ≡ view_refusal q work at b → (number_of x ≡ part_refusal q work at b (length part)) × (part ≡ parting q work at b part)
    unfolding view_refusal part_refusal parting
    part_refused x e = lending.refused (view_checks q work at b) 2 part (number_of x) e (lending.some x) _

    pub part_given : view_refusal q work at b ≡ 0 → (s : Part) → s ≡ part_of (plan_grid q) at b → (r : ℕ) (w : List ℕ)
        → (r ≡ lent_refusal [] 2 (length part)) × (w ≡ written_or r (cells_part s) part) → (r ≡ part_refusal q work at b (length part)) × (w ≡ parting q work at b part)
    unfolding view_refusal part_refusal parting
    part_given none s es r w h =
        lending.passed (view_checks q work at b) 2 part view_numbered none r _ w h.0 (h.1 ∙ ap (λ (x : Part). written_or r (cells_part x) part) es)

-- ---- what a caller may build on

-- no check of a list is due where none of a longer one is
granted : (checks more : List Check) → first (checks ++ more) ≡ 0 → first checks ≡ 0
granted checks more z =
    by (eqb (first checks) 0)
    (λ t. eqb-true _ 0 t)
    (λ t. let ne = eqb-false (first checks) 0 t in absurd (ne (sym (first_due checks more ne) ∙ z)))

-- a plan, its prices and the idle boards put in slices and read back
back : (q : Plan) (c : Prices) (i : ℕ) (q' : Plan) (c' : Prices) (i' : ℕ) → plan_from (bytes_of q) q.lengths ≡ q' → c ≡ c' → i ≡ i'
    → read_back (bytes_of q) q.lengths (cells_priced c i) ≡ record { plan = q'; prices = c'; idle = i' }
unfolding read_back
back q c i q' c' i' e f g = (λ j. record { plan = e j; prices = f j; idle = g j })

-- what planning writes is taken back as the planner's own plan, which no check of a plan refuses
module _ (ds : List ℕ) (p : ℕ) where
  abbrev within : PlanLists
  within = plan_within ds p

  taken : planning_refusal ds p ≡ 0 → plan_from (bytes_of (slotted within)) (slotted within).lengths ≡ slotted within
  unfolding slotted plan_of
  taken e =
      let ok = planning_accepted ds p e in
      let few = ok.lengths.few in
      let sound = plan_sound ds (power_used ds p) ok.lengths.some ok.enough in
      let o = sound.places in
      let k = sound.each in
      racking.taken_back (slotted within) (padded_length within.order (omega arith)) (padded_length within.exponents (omega arith)) (padded_length ds few)

  pub made_plan : (r : Planned) → gives r ≡ planning ds p → plan_from (bytes_of r.plan) r.plan.lengths ≡ slotted within
  made_plan r e = let g = given_planned ds p r e in rw g.1 (taken g.0)

  module _ (small slots cells : List ℕ) where
    passes : make_refusal ds p (length small) (length slots) (length cells) ≡ 0 → planning_refusal ds p ≡ 0
    unfolding make_refusal planning_refusal
    passes z = granted (planning_checks ds p) _ z

    pub make_taken : make_refusal ds p (length small) (length slots) (length cells) ≡ 0
        → plan_from (making ds p small slots cells).small (making ds p small slots cells).slots ≡ slotted within
    unfolding making made_or
    make_taken z = rw z (taken (passes z))

    -- answer 0 is no refusal
    pub make_answer : (making ds p small slots cells).answer ≡ 0 → make_refusal ds p (length small) (length slots) (length cells) ≡ 0
    unfolding making
    make_answer e = sym (told (make_refusal ds p (length small) (length slots) (length cells)) (planned_of (idle_boards ds p) within)) ∙ e
      where
        told : (n : ℕ) (a : Planned) → (made_or n a small slots cells).answer ≡ n
        told zero a = unfold made_or in refl
        told (suc n) a = unfold made_or in refl

    -- the answer that a caller reads back is planning's own
    pub make_planned : make_refusal ds p (length small) (length slots) (length cells) ≡ 0
        → gives (read_back (making ds p small slots cells).small (making ds p small slots cells).slots (making ds p small slots cells).cells) ≡ planning ds p
    unfolding making made_or
    make_planned z =
        let e = passes z in
        rw (z, planned_given ds p e) (ap gives (back (slotted within) (prices_of within) (idle_boards ds p) (slotted within) (prices_of within) (idle_boards ds p) (taken e) refl refl))

    pub make_accepted : make_refusal ds p (length small) (length slots) (length cells) ≡ 0
        → plan_refusal (plan_from (making ds p small slots cells).small (making ds p small slots cells).slots) ≡ 0
    make_accepted z = rw (make_taken z) (planned_accepted ds p (passes z))

view_granted : (q : Plan) (work at b lent : ℕ) → part_refusal q work at b lent ≡ 0 → view_refusal q work at b ≡ 0
unfolding part_refusal lent_refusal view_refusal
view_granted q work at b lent z = granted (view_checks q work at b) (check 13 (not (eqb lent 2)) ∷ []) z

-- where `campaign_view` is not refused, the cells that it names in the caller's own area are those that the paper's view shows
pub part_viewed : (q : Plan) (work : List ℤ) (at b : ℕ) (part : List ℕ) → part_refusal q (length work) at b (length part) ≡ 0
    → let named = parting q (length work) at b part in take (get_or named 1 0) (drop (get_or named 0 0) work) ≡ viewing q work at b
unfolding parting written_or
part_viewed q work at b part z = rw z (shown_part q work at b (view_granted q (length work) at b (length part) z))
