-- The search computed from its definitions, on each row of the table that compare writes.
use mathlib.Core.Path.{◌≡◌, refl}
use mathlib.Core.List.{List, [], ◌∷◌}
use Rattle.cube_spec.specs.Limits.{padded}
use Rattle.cube_spec.specs.Checks.{Reply, answered}
use Rattle.plan_spec.specs.Rule.{plan_within}
use Rattle.link_spec.specs.declared.types.Searched.{Searched}
use Rattle.link_spec.specs.Costs.{cheapest_cost}
use Rattle.link_spec.specs.Search.{searching}
use Rattle.link_spec.specs.Computing.{computing}
use Rattle.link_spec.proofs.Listed.{Row, one_axis, two_axes, three_axes, four_axes, large_budgets, boards_idle, whole_portions, axis_order, cheapest_parents, unequal_links, equal_links, ties, distances, many_axes, taken, refused, before_six, from_five_on}

unfoldable answered_all : List Row → List (Reply Searched)
answered_all [] = []
answered_all (r ∷ l) = searching r.lengths r.p r.links r.budget ∷ answered_all l

unfoldable listed_all : List Row → List (Reply Searched)
listed_all [] = []
listed_all (r ∷ l) =
    answered r.refusal (record { exponents = padded r.exponents; cost = r.cost; distance = r.distance; priced = r.priced }) ∷ listed_all l

abbrev Same : List Row → Type 0
Same l = answered_all l ≡ listed_all l

searched : Same one_axis
    × Same two_axes
    × Same three_axes
    × Same four_axes
    × Same large_budgets
    × Same boards_idle
    × Same whole_portions
    × Same axis_order
    × Same cheapest_parents
    × Same unequal_links
    × Same equal_links
    × Same ties
    × Same distances
    × Same many_axes
    × Same taken
    × Same refused
    × Same before_six
    × Same from_five_on
unfolding computing answered_all listed_all one_axis two_axes three_axes four_axes large_budgets boards_idle whole_portions axis_order cheapest_parents unequal_links equal_links ties distances many_axes taken refused before_six from_five_on
searched = (refl, refl, refl, refl, refl, refl, refl, refl, refl, refl, refl, refl, refl, refl, refl, refl, refl, refl)

-- "The greedy rule no longer suffices.": over a slow link on axis 0 the planner's division of two axes of 2 costs a thousand times the cheapest
greedy : ((plan_within (2 ∷ 2 ∷ []) 1).exponents ≡ 1 ∷ 0 ∷ [])
    × (cheapest_cost (2 ∷ 2 ∷ []) (1000 ∷ 1 ∷ []) (1 ∷ 0 ∷ []) ≡ 2000)
    × (cheapest_cost (2 ∷ 2 ∷ []) (1000 ∷ 1 ∷ []) (0 ∷ 1 ∷ []) ≡ 2)
unfolding computing
greedy = (refl, refl, refl)
