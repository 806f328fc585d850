-- What the search answers, in the code's terms.
use Prim.Native.Nat.{ℕ, ◌-◌, ◌*◌, ◌≤◌, min}
use mathlib.Core.Path.{◌≡◌, ◌∙◌, ap, refl}
use mathlib.Core.Bool.{true, false}
use mathlib.Core.List.{List, [], ◌∷◌}
use native.Mathlib.Omega.{arith}
use native.Mathlib.Nat.{pos_of_ne-zero}
use lib.ListN.{length}
use Rattle.std.specs.Option.{unwrap_or}
use Rattle.std.specs.List.{fold, reduce}
use Rattle.cube_spec.specs.Limits.{axis_limit}
use Rattle.cube_spec.specs.Boxes.{pick}
use Rattle.cube_spec.specs.Checks.{gives, refuses}
use Rattle.cube_spec.proofs.Answered.{given, refused}
use Rattle.plan_spec.specs.declared.types.Planned.{Planned}
use Rattle.plan_spec.specs.Plans.{moved, slotted}
use Rattle.plan_spec.specs.Rule.{plan_of, power_used, plan_within, idle_boards}
use Rattle.plan_spec.specs.Refusals.{planning_refusal}
use Rattle.plan_spec.specs.Answers.{prices_of, planned_of, planning}
use Rattle.plan_spec.proofs.Accepting.{planning_accepted, planning_accept}
use Rattle.plan_spec.proofs.Answering.{given_planned, refused_planned}
use Rattle.link_spec.specs.declared.types.Tried.{Tried}
use Rattle.link_spec.specs.Search.{smallest, bad_links, search, search_refusal, searched_of, searching}
use Rattle.link_spec.specs.Accepted.{SearchAccepted}
use Rattle.link_spec.specs.Trying.{tried, Searchable}
use Rattle.link_spec.proofs.Distance.{floor_answer}
use Rattle.link_spec.proofs.Deciding.{refuses_planning, refuses_budget, refuses_links, refuses_nothing, accepted}

-- ---- the smallest link weight, as the library finds it

smallest_fold : (w : ℕ) (l : List ℕ) → fold min w l ≡ smallest (w ∷ l)
unfolding smallest
smallest_fold w [] = refl
smallest_fold w (v ∷ l) = smallest_fold (min w v) l ∙ more l
  where
    more : (l : List ℕ) → smallest (min w v ∷ l) ≡ min w (smallest (v ∷ l))
    more [] = refl
    more (u ∷ l) = omega arith

pub smallest_is : (l : List ℕ) → unwrap_or (reduce min l) 0 ≡ smallest l
unfolding smallest
smallest_is [] = refl
smallest_is (w ∷ l) = smallest_fold w l

-- ---- the checks

module _ (ds : List ℕ) (p : ℕ) (links : List ℕ) (budget : ℕ) where
  pub answer_planning : (n : ℕ) → refuses n ≡ planning ds p → refuses n ≡ searching ds p links budget
  unfolding searching
  answer_planning n e =
      let q = refused_planned ds p n e in
      rw (← refuses_planning ds p links budget n q.0 q.1) (refused n _ (pos_of_ne-zero q.1))

  module _ (r : Planned) (e : gives r ≡ planning ds p) where
    pub answer_budget : budget ≡ 0 → refuses 18 ≡ searching ds p links budget
    unfolding searching
    answer_budget h = rw (← refuses_budget ds p links budget (given_planned ds p r e).0 h) (refused 18 _ (omega arith))

    pub answer_links : (budget ≡ 0 → ⊥) → bad_links (length ds) links ≡ true → refuses 19 ≡ searching ds p links budget
    unfolding searching
    answer_links pays bad = rw (← refuses_links ds p links budget (given_planned ds p r e).0 pays bad) (refused 19 _ (omega arith))

-- none is due
pub record Passed (ds : List ℕ) (p : ℕ) (links : List ℕ) (budget : ℕ) (r : Planned) : Type 0 where
  pub answer : r ≡ planned_of (idle_boards ds p) (plan_within ds p)
  pub none : search_refusal ds p links budget ≡ 0
  pub fine : SearchAccepted ds p links budget

pub passed : (ds : List ℕ) (p : ℕ) (links : List ℕ) (budget : ℕ) (r : Planned) → gives r ≡ planning ds p → (budget ≡ 0 → ⊥)
    → bad_links (length ds) links ≡ false → Passed ds p links budget r
passed ds p links budget r e pays good =
    let g = given_planned ds p r e in
    let none = refuses_nothing ds p links budget g.0 pays good in
    record { answer = g.1; none = none; fine = accepted ds p links budget none }

-- ---- the answer, of lengths and link weights in slots

module _ {ds : List ℕ} {p : ℕ} {links : List ℕ} {budget : ℕ} {r : Planned} (k : Passed ds p links budget r) where
  planned_too : planning_refusal ds p ≡ 0
  planned_too = planning_accept ds p k.fine.lengths k.fine.boards

  used_is : r.plan.p ≡ power_used ds p
  unfolding slotted plan_of
  used_is = ap (λ (x : Planned). x.plan.p) k.answer

  moved_is : r.prices.moved ≡ moved (plan_within ds p)
  unfolding prices_of
  moved_is = ap (λ (x : Planned). x.prices.moved) k.answer

  pub few : length ds ≤ axis_limit
  few = k.fine.lengths.few

  pub searchable : Searchable ds links r.plan.p × (1 ≤ budget)
  searchable =
      let a = planning_accepted ds p planned_too in
      (record { lengths = a.lengths; boards = rw used_is a.boards; enough = rw used_is a.enough; each = k.fine.each; low = k.fine.most }, k.fine.pays)

  module _ (t : Tried) (f : t ≡ tried ds r.plan.p links budget) (s : ℕ) (g : s ≡ smallest links) where
    tried_is : t ≡ tried ds (power_used ds p) links budget
    tried_is = f ∙ (rw used_is)

    cost_is : t.cost ≡ (search ds p links budget).cost
    unfolding search tried
    cost_is = ap (λ (x : Tried). x.cost) tried_is

    pub floor_holds : s * r.prices.moved ≤ t.cost
    floor_holds = rw (g, moved_is, cost_is) (floor_answer ds p links k.fine.lengths.some k.fine.each budget k.fine.pays)

    pub answer_found : (d : ℕ) → d ≡ pick t.all 0 (t.cost - s * r.prices.moved)
        → gives (record { exponents = t.exponents; cost = t.cost; distance = d; priced = t.priced }) ≡ searching ds p links budget
    unfolding searching searched_of search tried
    answer_found d x = rw (x, g, moved_is, tried_is) (given _ _ k.none)
