-- Names every definition, so that a fact that computes with them says `unfolding computing`.
use Rattle.std.specs.Prelude.{ℕ}
use Rattle.link_spec.specs.Divisions
use Rattle.link_spec.specs.Costs
use Rattle.link_spec.specs.Search
use Rattle.plan_spec.specs.Computing as planner

unfoldable pub computing : ℕ
unfolding Divisions.chained Divisions.headed Divisions.divisions Costs.weighted_cost Costs.fare Costs.least_fare Costs.cheapest_cost Search.cheaper Search.first_cheapest Search.smallest Search.search Search.bad_link Search.bad_links Search.search_checks Search.search_refusal Search.searched_of Search.searching planner.computing
computing = 0
