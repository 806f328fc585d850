-- The work area of small plans after each step, from any contents, and what is gathered and viewed at each finish, computed from the definitions.
use mathlib.Core.Path.{◌≡◌, refl}
use mathlib.Core.List.{List, [], ◌∷◌}
use lib.IntN.{ℤ}
use Rattle.cube_spec.specs.Boxes.{table}
use Rattle.plan_spec.specs.Plans.{PlanLists}
use Rattle.rack_spec.specs.Grids.{grid_of, boards}
use Rattle.rack_spec.specs.Steps.{TreeStep, expand, transfer, finish, steps}
use Rattle.run_spec.specs.Computing.{computing}
use Rattle.run_spec.specs.Memory.{read, stepped}
use Rattle.run_spec.specs.Gather.{gathered, viewed}
use Rattle.run_spec.proofs.Listed.{Case, cases}

-- what is to be compared of a case
pub record Run : Type 0 where
  pub areas : List (List ℤ)
  pub gathered : List (List ℤ)
  pub viewed : List (List (List ℤ))

abbrev pub with : PlanLists → TreeStep → List ℤ → Run → Run
with a (expand Y) work r = record { areas = work ∷ r.areas; gathered = r.gathered; viewed = r.viewed }
with a (transfer Y s t n) work r = record { areas = work ∷ r.areas; gathered = r.gathered; viewed = r.viewed }
with a (finish Y) work r =
    let g = grid_of a in
    record { areas = work ∷ r.areas; gathered = gathered a.lengths g Y (read work) ∷ r.gathered; viewed = table (boards g) (λ b. viewed g Y b work) ∷ r.viewed }

unfoldable pub taken : PlanLists → List ℤ → List TreeStep → List ℤ → Run
taken a array [] work = record { areas = []; gathered = []; viewed = [] }
taken a array (s ∷ l) work = let next = stepped (grid_of a) array s work in with a s next (taken a array l next)

unfoldable pub runs : List Case → List Run
runs [] = []
runs (c ∷ r) = taken c.plan c.array (steps (grid_of c.plan)) c.work ∷ runs r

unfoldable pub listed : List Case → List Run
listed [] = []
listed (c ∷ r) = record { areas = c.areas; gathered = c.gathered; viewed = c.viewed } ∷ listed r

pub runs_cases : runs cases ≡ listed cases
unfolding computing cases taken runs listed
runs_cases = refl
