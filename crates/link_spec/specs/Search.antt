-- The search: what a budget buys, and the entry's answer.
use Rattle.std.specs.Prelude.{ℕ, ◌-◌, ◌*◌, min, Bool, ◌||◌, not, List, [], ◌∷◌, ◌++◌, eqb, ltb, leb, length, take}
use Rattle.cube_spec.specs.Limits.{padded}
use Rattle.cube_spec.specs.Boxes.{pick}
use Rattle.cube_spec.specs.Checks.{Check, check, first, Reply, answered}
use Rattle.plan_spec.specs.Plans as Plans
use Rattle.plan_spec.specs.Rule.{plan_within}
use Rattle.plan_spec.specs.Refusals.{some, planning_checks}
use Rattle.link_spec.specs.declared.types.Searched.{Searched}
use Rattle.link_spec.specs.Divisions.{in_use}
use Rattle.link_spec.specs.Costs.{cheapest_cost}

-- b, or the first cheapest of a list that follows it, where one there costs less
unfoldable pub cheaper : (List ℕ → ℕ) → List ℕ → List (List ℕ) → List ℕ
cheaper cost b [] = b
cheaper cost b (e ∷ l) = cheaper cost (pick (ltb (cost e) (cost b)) e b) l

-- "The answer is the first cheapest so far": of a list; the empty one has none, and gives no exponents
unfoldable pub first_cheapest : (List ℕ → ℕ) → List (List ℕ) → List ℕ
first_cheapest cost [] = []
first_cheapest cost (e ∷ l) = cheaper cost e l

-- "the smallest link weight"
unfoldable pub smallest : List ℕ → ℕ
smallest [] = 0
smallest (w ∷ []) = w
smallest (w ∷ v ∷ l) = min w (smallest (v ∷ l))

-- "It gives the exponents in axis order, the cost and the distance, and names no parents"; and how many divisions were priced
pub record Found : Type 0 where
  pub exponents : List ℕ
  pub cost : ℕ
  pub distance : ℕ
  pub priced : ℕ

-- "A budget says how many to price." "a distance: its cost less the smallest link weight times the planner's unweighted values moved, or 0 once all divisions are
-- priced"
unfoldable pub search : List ℕ → ℕ → List ℕ → ℕ → Found
search ds p links budget =
    let all = in_use ds p in
    let best = first_cheapest (cheapest_cost ds links) (take budget all) in
    let cost = cheapest_cost ds links best in
    record {
      exponents = best;
      cost = cost;
      distance = pick (leb (length all) budget) 0 (cost - smallest links * Plans.moved (plan_within ds p));
      priced = min budget (length all);
    }

-- ---- "Answers: 18 for a budget of 0 and 19 for a link weight out of range or not one for each axis, in that order, after 6."

-- "a link weight from 1 to 1,000"
abbrev pub link_limit : ℕ
link_limit = 1000

unfoldable pub bad_link : ℕ → Bool
bad_link w = eqb w 0 || ltb link_limit w

-- of n axes
unfoldable pub bad_links : ℕ → List ℕ → Bool
bad_links n links = not (eqb (length links) n) || some bad_link links

unfoldable pub search_checks : List ℕ → ℕ → List ℕ → ℕ → List Check
search_checks ds p links budget = planning_checks ds p ++ (check 18 (eqb budget 0) ∷ check 19 (bad_links (length ds) links) ∷ [])

unfoldable pub search_refusal : List ℕ → ℕ → List ℕ → ℕ → ℕ
search_refusal ds p links budget = first (search_checks ds p links budget)

-- what is found, its exponents in slots
unfoldable pub searched_of : Found → Searched
searched_of f = record { exponents = padded f.exponents; cost = f.cost; distance = f.distance; priced = f.priced }

-- what the entry answers: "Each gives its number alone"
unfoldable pub searching : List ℕ → ℕ → List ℕ → ℕ → Reply Searched
searching ds p links budget = answered (search_refusal ds p links budget) (searched_of (search ds p links budget))
