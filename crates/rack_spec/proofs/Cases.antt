-- The steps of small plans, and what each board holds, computed from the definitions.
use Prim.Native.Nat.{ℕ, suc}
use mathlib.Core.Path.{◌≡◌, refl}
use mathlib.Core.List.{List, [], ◌∷◌}
use lib.ListN.{length, replicate, take, drop}
use Rattle.cube_spec.specs.Checks.{gives, refuses}
use Rattle.cube_spec.specs.Boxes.{table}
use Rattle.cube_spec.specs.Before.{floor_start}
use Rattle.plan_spec.specs.Plans.{PlanLists}
use Rattle.plan_spec.specs.declared.types.Plan.{Plan}
use Rattle.rack_spec.specs.Computing.{computing}
use Rattle.rack_spec.specs.Grids.{Grid, grid_of, boards}
use Rattle.rack_spec.specs.Steps.{TreeStep, steps}
use Rattle.rack_spec.specs.Held.{held}
use Rattle.rack_spec.specs.Recut.{recut}
use Rattle.rack_spec.specs.Answers.{Told, transfers, telling, holding, counting}
use Rattle.rack_spec.proofs.Listed.{Case, cases}

unfoldable pub tellings : Grid → List TreeStep → List Told
tellings g [] = []
tellings g (s ∷ l) = telling g s ∷ tellings g l

unfoldable pub told_all : List Case → List (List Told)
told_all [] = []
told_all (c ∷ r) = (let g = grid_of c.plan in tellings g (steps g)) ∷ told_all r

unfoldable pub listed_steps : List Case → List (List Told)
listed_steps [] = []
listed_steps (c ∷ r) = c.steps ∷ listed_steps r

pub steps_told : told_all cases ≡ listed_steps cases
unfolding computing cases tellings told_all listed_steps
steps_told = refl

-- what each board holds, at each position from 0 to T
unfoldable pub holdings : Grid → List (List ℕ)
holdings g = table (boards g) (λ b. table (suc (length (steps g))) (λ at. held g at b))

unfoldable pub held_all : List Case → List (List (List ℕ))
held_all [] = []
held_all (c ∷ r) = holdings (grid_of c.plan) ∷ held_all r

unfoldable pub listed_held : List Case → List (List (List ℕ))
listed_held [] = []
listed_held (c ∷ r) = c.held ∷ listed_held r

pub held_cases : held_all cases ≡ listed_held cases
unfolding computing cases holdings held_all listed_held
held_cases = refl

-- held and the step count as entries: lengths 3 and 5, the second axis first and split, have T 6 and two boards
plan : ℕ → Plan
plan p = record { axes = 2; lengths = 3 ∷ 5 ∷ replicate 6 0; order = 1 ∷ 0 ∷ replicate 6 0; exponents = 0 ∷ 1 ∷ replicate 6 0; p = p }

entries : (counting (plan 1) ≡ gives 6)
    × (counting (plan 2) ≡ refuses 9)
    × (holding (plan 2) 7 2 ≡ refuses 9)
    × (holding (plan 1) 7 0 ≡ refuses 12)
    × (holding (plan 1) 1 2 ≡ refuses 12)
    × (holding (plan 1) 1 0 ≡ gives 6)
    × (holding (plan 1) 1 1 ≡ gives 5)
    × (holding (plan 1) 6 1 ≡ gives 0)
unfolding computing plan
entries = (refl, refl, refl, refl, refl, refl, refl, refl)

-- what moved with request 4/12: held, of lengths 3 and 5 as above on boards 0 and 1, and the values of single transfers, of lengths 7 and 2 with exponents 2 and 1
abbrev held_plan : PlanLists
held_plan = record { lengths = 3 ∷ 5 ∷ []; order = 1 ∷ 0 ∷ []; exponents = 0 ∷ 1 ∷ []; p = 1 }

abbrev sent_plan : PlanLists
sent_plan = record { lengths = 7 ∷ 2 ∷ []; order = 0 ∷ 1 ∷ []; exponents = 2 ∷ 1 ∷ []; p = 3 }

abbrev first_held : Grid → List ℕ
first_held g = held g 1 0 ∷ held g 1 1 ∷ []

-- the transfers between the root's expansion and the first finish
abbrev first_sent : Grid → List Told
first_sent g = tellings g (take 4 (drop 1 (steps g)))

moved : (first_held (grid_of held_plan) ≡ 6 ∷ 5 ∷ [])
    × (first_held (recut floor_start (grid_of held_plan)) ≡ 5 ∷ 6 ∷ [])
    × (first_sent (grid_of sent_plan) ≡ transfers 1 0 1 2 ∷ transfers 3 2 1 2 ∷ transfers 5 4 1 2 ∷ transfers 7 6 1 1 ∷ [])
    × (first_sent (recut floor_start (grid_of sent_plan)) ≡ transfers 1 0 1 1 ∷ transfers 3 2 1 2 ∷ transfers 5 4 1 2 ∷ transfers 7 6 1 2 ∷ [])
unfolding computing tellings
moved = (refl, refl, refl, refl)
