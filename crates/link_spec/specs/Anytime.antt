-- What the search promises of its answer `r` to a request that is not refused, whatever the budget. `ds` are the lengths and `links` the link weights, both in
-- axis order.
use Rattle.std.specs.Prelude.{ℕ, ◌+◌, ◌*◌, ◌≤◌, ◌<◌, min, ◌≡◌, List, [], length, get_or, take}
use Rattle.cube_spec.specs.Limits.{padded}
use Rattle.cube_spec.specs.Ways.{Way, Division}
use Rattle.plan_spec.specs.Plans.{moved}
use Rattle.plan_spec.specs.Rule.{power_used, plan_within}
use Rattle.link_spec.specs.declared.types.Searched.{Searched}
use Rattle.link_spec.specs.Divisions.{in_use, Listing}
use Rattle.link_spec.specs.Costs.{link_of, weighted_cost, cheapest_cost}
use Rattle.link_spec.specs.Search.{smallest, search_refusal}

-- "the first cheapest": b stands in l at a place where all before cost more and none costs less
pub record First (cost : List ℕ → ℕ) (l : List (List ℕ)) (b : List ℕ) : Type 0 where
  pub place : ℕ
  pub within : place < length l
  pub here : get_or l place [] ≡ b
  pub before : (j : ℕ) → j < place → cost b < cost (get_or l j [])
  pub least : (j : ℕ) → j < length l → cost b ≤ cost (get_or l j [])

pub record Anytime (ds : List ℕ) (p : ℕ) (links : List ℕ) (budget : ℕ) (r : Searched) : Type 0 where
  pub accepted : search_refusal ds p links budget ≡ 0
  -- "Price divisions of the boards in use (7/12) in ascending order of their exponents, read in axis order"
  pub listed : Listing ds (power_used ds p) (in_use ds p)
  -- "each with the cheapest parent for every choice": no parents cost less, and some cost just that
  pub least : (e : Division ds (power_used ds p)) (w : Way (length ds)) → cheapest_cost ds links e.exponents ≤ weighted_cost ds links e w
  pub parents : (e : Division ds (power_used ds p)) → (w : Way (length ds)) × (weighted_cost ds links e w ≡ cheapest_cost ds links e.exponents)
  -- "The answer is the first cheapest so far", with its cost
  pub division : Division ds (power_used ds p)
  pub exponents : r.exponents ≡ padded division.exponents
  pub first : First (cheapest_cost ds links) (take budget (in_use ds p)) division.exponents
  pub cost : r.cost ≡ cheapest_cost ds links division.exponents
  -- "A budget says how many to price."
  pub priced : r.priced ≡ min budget (length (in_use ds p))
  -- "the smallest link weight"
  pub smallest_least : (d : ℕ) → d < length ds → smallest links ≤ link_of links d
  pub smallest_some : (d : ℕ) × (d < length ds) × (link_of links d ≡ smallest links)
  -- "its cost less the smallest link weight times the planner's unweighted values moved, or 0 once all divisions are priced"
  pub early : budget < length (in_use ds p) → r.distance + smallest links * moved (plan_within ds p) ≡ r.cost
  pub whole : length (in_use ds p) ≤ budget → r.distance ≡ 0
  -- "No division with any parents may undercut the answer by more than that distance."
  pub undercut : (e : Division ds (power_used ds p)) (w : Way (length ds)) → r.cost ≤ weighted_cost ds links e w + r.distance
