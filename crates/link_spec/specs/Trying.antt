-- The search as the code goes.
use Rattle.std.specs.Prelude.{ℕ, ◌≡◌, ◌≤◌, ◌<◌, min, List, leb, length, get_or, take}
use Rattle.cube_spec.specs.Limits.{power_limit, padded}
use Rattle.cube_spec.specs.Ways.{room}
use Rattle.plan_spec.specs.Accepted.{LengthsAccepted}
use Rattle.link_spec.specs.declared.types.Tried.{Tried}
use Rattle.link_spec.specs.Divisions.{divisions}
use Rattle.link_spec.specs.Costs.{cheapest_cost}
use Rattle.link_spec.specs.Search.{link_limit, first_cheapest}

-- the first cheapest of the first so many divisions of q
unfoldable pub tried : List ℕ → ℕ → List ℕ → ℕ → Tried
tried ds q links budget =
    let all = divisions ds q in
    let best = first_cheapest (cheapest_cost ds links) (take budget all) in
    record { exponents = padded best; cost = cheapest_cost ds links best; priced = min budget (length all); all = leb (length all) budget }

-- what the search is given
pub record Searchable (ds links : List ℕ) (q : ℕ) : Type 0 where
  pub lengths : LengthsAccepted ds
  pub boards : q ≤ power_limit
  pub enough : q ≤ room ds
  pub each : length links ≡ length ds
  pub low : (d : ℕ) → d < length ds → get_or links d 0 ≤ link_limit
