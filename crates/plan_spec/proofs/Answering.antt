-- What planning answers, field by field.
use Prim.Native.Nat.{ℕ, ◌-◌, ◌^◌, ◌≤◌, ◌<◌}
use mathlib.Core.Path.{◌≡◌, sym, ◌∙◌, refl, ap, ap₂}
use mathlib.Core.List.{List}
use native.Mathlib.Omega.{arith}
use borrow.Author.Tests.{lt-ltb, ne_eqb}
use lib.ListN.{length, get_or, take}
use Rattle.cube_spec.specs.Limits.{axis_limit, power_limit, padded}
use Rattle.cube_spec.specs.Boxes.{table}
use Rattle.cube_spec.specs.Checks.{gives, refuses, first}
use Rattle.cube_spec.proofs.Slots.{padded_at, padded_take}
use Rattle.plan_spec.specs.declared.types.Plan.{Plan}
use Rattle.plan_spec.specs.declared.types.Prices.{Prices}
use Rattle.plan_spec.specs.declared.types.Planned.{Planned}
use Rattle.plan_spec.specs.declared.types.Arrangement.{Arrangement}
use Rattle.plan_spec.specs.Plans.{find, lists_of, slotted}
use Rattle.plan_spec.specs.Rule.{order, ordered_exponents, exponents, plan_of, power_used, plan_within, idle_boards}
use Rattle.plan_spec.specs.Refusals.{bad_axes, length_checks, planning_checks, planning_refusal, plan_refusal}
use Rattle.plan_spec.specs.Accepted.{PlanningAccepted}
use Rattle.plan_spec.specs.Answers.{prices_of, planned_of, planning, arrangement}
use Rattle.plan_spec.proofs.Places.{order_length}
use Rattle.plan_spec.proofs.Demand.{plan_sound}
use Rattle.plan_spec.proofs.Accepting.{used_le, planning_passed, planning_accepted, planned_accepted, lists_slotted}
use Rattle.cube_spec.proofs.Tables.{table_cong}
use Rattle.plan_spec.proofs.Arranging.{place_below}
use Rattle.plan_spec.proofs.PricingLaws.{answer_given, answer_refused, given_is, refused_is}

module _ (l : List ℕ) (p : ℕ) where
  -- the plan where nothing is refused, and else the refusal
  pub planned_given : planning_refusal l p ≡ 0 → planning l p ≡ gives (planned_of (idle_boards l p) (plan_within l p))
  unfolding planning
  planned_given e = sym (answer_given (planning_refusal l p) (planned_of (idle_boards l p) (plan_within l p)) e)

  pub planned_refused : (planning_refusal l p ≡ 0 → ⊥) → planning l p ≡ refuses (planning_refusal l p)
  unfolding planning
  planned_refused h = sym (answer_refused (planning_refusal l p) (planned_of (idle_boards l p) (plan_within l p)) h)

  -- and what an answer says of the refusal
  pub given_planned : (r : Planned) → gives r ≡ planning l p → (planning_refusal l p ≡ 0) × (r ≡ planned_of (idle_boards l p) (plan_within l p))
  unfolding planning
  given_planned r e = given_is (planning_refusal l p) (planned_of (idle_boards l p) (plan_within l p)) r e

  pub refused_planned : (n : ℕ) → refuses n ≡ planning l p → (n ≡ planning_refusal l p) × (n ≡ 0 → ⊥)
  unfolding planning
  refused_planned n e = refused_is (planning_refusal l p) (planned_of (idle_boards l p) (plan_within l p)) n e

  pub too_many_lem : 8 < length l → 3 ≡ planning_refusal l p
  unfolding planning_refusal planning_checks length_checks first bad_axes
  too_many_lem h = rw (ne_eqb (length l) 0 (λ z. omega arith), lt-ltb 8 (length l) h)

  module _ (ok : PlanningAccepted l p) (fits : length l ≤ 8) where
    taken : take (length l) (padded (order l)) ≡ order l
    taken = padded_take (order l) (length l) (order_length l) fits

    -- each axis stands in the order
    pub found : (a : ℕ) → a < length l → find a (take (length l) (padded (order l))) < length l
    found a h = rw taken (place_below l p ok a h)

    -- the exponents by axis number, in slots
    pub exponents_slots : padded (table (length l) (λ a. get_or (padded (ordered_exponents l p)) (find a (take (length l) (padded (order l)))) 0)) ≡ padded (exponents l p)
    unfolding exponents
    exponents_slots = ap padded (table_cong (length l) 0 _ _ (λ a _ h. one a (omega arith)))
      where
        one : (a : ℕ) → a < length l → get_or (padded (ordered_exponents l p)) (find a (take (length l) (padded (order l)))) 0 ≡ get_or (ordered_exponents l p) (find a (order l)) 0
        one a h = ap (λ o. get_or (padded (ordered_exponents l p)) (find a o) 0) taken ∙ padded_at (ordered_exponents l p) (find a (order l)) (let q = place_below l p ok a h in omega arith)

  pub plan_fields : (q : Plan) → q.axes ≡ length l → q.p ≡ p → q.lengths ≡ padded l → q.order ≡ padded (order l) → q.exponents ≡ padded (exponents l p) → q ≡ slotted (plan_of l p)
  unfolding slotted plan_of
  plan_fields q a b c d e = (λ i. record { axes = a i; p = b i; lengths = c i; order = d i; exponents = e i })

  -- the plan comes out of its slots as it went in
  pub slots_back : PlanningAccepted l p → lists_of (slotted (plan_of l p)) ≡ plan_of l p
  unfolding plan_of
  slots_back ok = lists_slotted (plan_of l p) (plan_sound l p ok.lengths.some ok.enough) ok.lengths.few

-- ---- in the code's terms: `used` is the p used, `v` the arrangement, `ks` the exponents by axis number, `ds` the lengths in slots

-- lengths and a p that no check refuses, and the p used
pub record Passed (l : List ℕ) (p used : ℕ) : Type 0 where
  pub none : planning_refusal l p ≡ 0
  pub fitted : used ≡ power_used l p

pub passed : {l : List ℕ} {p used : ℕ} → planning_refusal l p ≡ 0 → used ≡ power_used l p → Passed l p used
passed z e = record { none = z; fitted = e }

module _ {l : List ℕ} {p used : ℕ} (k : Passed l p used) where
  pub few_lengths : length l ≤ axis_limit
  few_lengths = (planning_passed l p k.none).0.few

  pub fine_lengths : PlanningAccepted l used
  fine_lengths = rw k.fitted (planning_accepted l p k.none)

  -- no more boards are used than asked for, and 2^p of those are counted
  pub used_asked : (used ≤ p) × (p ≤ power_limit)
  used_asked = (rw k.fitted (used_le l p), (planning_passed l p k.none).1)

  module _ (v : Arrangement) (arranged : v ≡ arrangement l used) where
    ordered : v.order ≡ padded (order l)
    unfolding arrangement
    ordered = ap (λ (w : Arrangement). w.order) arranged

    cut : v.exponents ≡ padded (ordered_exponents l used)
    unfolding arrangement
    cut = ap (λ (w : Arrangement). w.exponents) arranged

    -- the order out of its slots
    abbrev out : List ℕ
    out = take (length l) v.order

    long : length out ≡ length l
    long = ap (λ o. length (take (length l) o)) ordered ∙ ap length (padded_take (order l) (length l) (order_length l) few_lengths) ∙ order_length l

    pub placed : (a : ℕ) → a < length out → find a out < length out
    placed a h =
        let n = long in
        let b : find a out < length l = rw ordered (found l used fine_lengths few_lengths a (omega arith)) in
        omega arith

    module _ (ds ks : List ℕ) (slots : ds ≡ padded l) (spread : ks ≡ padded (table (length out) (λ a. get_or v.exponents (find a out) 0))) where
      abbrev made : Plan
      made = record { axes = length l; p = used; lengths = ds; order = v.order; exponents = ks }

      by_axis : ks ≡ padded (exponents l used)
      by_axis =
          spread
          ∙ ap (λ n. padded (table n (λ a. get_or v.exponents (find a out) 0))) long
          ∙ ap₂ (λ (k o : List ℕ). padded (table (length l) (λ a. get_or k (find a (take (length l) o)) 0))) cut ordered
          ∙ exponents_slots l used fine_lengths few_lengths

      same : made ≡ slotted (plan_within l p)
      same = plan_fields l used made refl refl slots ordered by_axis ∙ ap (λ u. slotted (plan_of l u)) k.fitted

      pub made_accepted : plan_refusal made ≡ 0
      made_accepted = ap plan_refusal same ∙ planned_accepted l p k.none

      -- that plan, its prices and the boards that are asked for and not used are what planning answers
      pub made_planned : (c : Prices) (i : ℕ) → c ≡ prices_of (lists_of made) → i ≡ 2 ^ p - 2 ^ used
          → gives (record { plan = made; prices = c; idle = i }) ≡ planning l p
      unfolding idle_boards
      made_planned c i e h =
          let b = slots_back l (power_used l p) (planning_accepted l p k.none) in
          let f : c ≡ prices_of (plan_within l p) = e ∙ ap (λ x. prices_of (lists_of x)) same ∙ ap prices_of b in
          let g : i ≡ idle_boards l p = h ∙ ap (λ u. 2 ^ p - 2 ^ u) k.fitted in
          ap gives (λ j. record { plan = same j; prices = f j; idle = g j }) ∙ sym (planned_given l p k.none)
