-- "The planner's tree and exponents are one such pair": the tree as a way, which gives each choice the axis that its parent has more.
use Rattle.std.specs.Prelude.{ℕ, Bool, List, [], ◌∷◌}
use Rattle.cube_spec.specs.Boxes.{pick}
use Rattle.cube_spec.specs.Choices.{keeps}
use Rattle.plan_spec.specs.Rule.{order}

-- of the axes of a list, the last that is not kept (`a` where all are kept)
unfoldable pub last_summed : (ℕ → Bool) → ℕ → List ℕ → ℕ
last_summed kept a [] = a
last_summed kept a (j ∷ r) = last_summed kept (pick (kept j) a j) r

-- the axis at the last place of the planner's order whose axis the choice does not keep
unfoldable pub tree_axis : List ℕ → ℕ → ℕ
tree_axis ds mask = last_summed (keeps mask) 0 (order ds)
