-- How many cells a board holds at a position of the list of steps.
use Rattle.std.specs.Prelude.{ℕ, zero, suc, ◌+◌, Bool, true, false, ◌&&◌, not, List, [], ◌∷◌, eqb, take}
use Rattle.std.proofs.Math.Option.{Option, none, some}
use Rattle.std.proofs.Math.ListN.{get_elem?}
use Rattle.cube_spec.specs.Boxes.{pick}
use Rattle.cube_spec.specs.Tree.{parent_of, over_sets}
use Rattle.rack_spec.specs.Grids.{Grid, lead, cells}
use Rattle.rack_spec.specs.Steps.{TreeStep, expand, transfer, finish, steps}

-- are two sets the same?
unfoldable pub same : List ℕ → List ℕ → Bool
same [] [] = true
same [] (b ∷ Z) = false
same (a ∷ Y) [] = false
same (a ∷ Y) (b ∷ Z) = eqb a b && same Y Z

-- does a step expand Y, and does it finish Y?
abbrev pub expands_it : List ℕ → TreeStep → Bool
expands_it Y (expand Z) = same Y Z
expands_it Y (transfer Z s r n) = false
expands_it Y (finish Z) = false

abbrev pub finishes_it : List ℕ → TreeStep → Bool
finishes_it Y (expand Z) = false
finishes_it Y (transfer Z s r n) = false
finishes_it Y (finish Z) = same Y Z

-- how many steps of a list do
unfoldable pub expansions : List ℕ → List TreeStep → ℕ
expansions Y [] = 0
expansions Y (m ∷ l) = pick (expands_it Y m) 1 0 + expansions Y l

unfoldable pub finishes : List ℕ → List TreeStep → ℕ
finishes Y [] = 0
finishes Y (m ∷ l) = pick (finishes_it Y m) 1 0 + finishes Y l

-- board b's cells of the choice Y, which it forms if it has label 0 on every axis that Y's parent sums out
unfoldable pub own : Grid → ℕ → List ℕ → ℕ
own g b Y = pick (lead g (parent_of Y) b) (cells g Y b) 0

-- "A board holds its cells of a choice from the expansion that forms them up to that choice's finish": what board b holds when the steps l are taken
unfoldable pub held_after : Grid → ℕ → List TreeStep → ℕ
held_after g b l = over_sets g.axes (λ Y. pick (not (eqb (expansions (parent_of Y) l) 0) && eqb (finishes Y l) 0) (own g b Y) 0)

-- "A position counts steps taken"
unfoldable pub held : Grid → ℕ → ℕ → ℕ
held g at b = held_after g b (take at (steps g))

-- ---- the step that leads to a position

abbrev pub finished_by : Option TreeStep → Option (List ℕ)
finished_by none = none
finished_by (some (expand Y)) = none
finished_by (some (transfer Y s r n)) = none
finished_by (some (finish Y)) = some Y

-- the choice that the step before a position finishes, if it finishes one
unfoldable pub finished_at : Grid → ℕ → Option (List ℕ)
finished_at g zero = none
finished_at g (suc at) = finished_by (get_elem? (steps g) at)
