-- The whole list of a plan's steps.
use Rattle.std.specs.Prelude.{ℕ, zero, suc, ◌+◌, ◌-◌, List, [], ◌∷◌, ◌++◌, eqb}
use Rattle.cube_spec.specs.Boxes.{pick}
use Rattle.cube_spec.specs.Tree.{last_of}
use Rattle.rack_spec.specs.Grids.{Grid, mask_of, boards, with_label, lead, cells}

-- A step of the list. A choice is given by its summed-out set.
pub data TreeStep : Type 0 where
  -- the choice whose children are formed
  expand : List ℕ → TreeStep
  -- the choice, the sender, the receiver, the number of values
  transfer : List ℕ → ℕ → ℕ → ℕ → TreeStep
  finish : List ℕ → TreeStep

-- f 0 ++ f 1 ++ .. ++ f (n - 1)
unfoldable pub each : ℕ → (ℕ → List TreeStep) → List TreeStep
each zero f = []
each (suc n) f = each n f ++ f n

-- "one board's cells of a child are added to those of the lead board, whose label on the axis just summed is 0"; "senders by ascending label"
-- "That number is the count of the sender's cells of the child, all of which move."
unfoldable pub sends : Grid → List ℕ → ℕ → ℕ → List TreeStep
sends g Y b n = each n (λ l. let s = with_label g b (last_of Y) (suc l) in transfer Y s b (cells g Y s) ∷ [])

-- "Leads go in ascending number"
unfoldable pub transfers : Grid → List ℕ → ℕ → List TreeStep
transfers g Y n = each n (λ b. pick (lead g Y b) (sends g Y b (g.parts (last_of Y) - 1)) [])

-- what stands around the walk over the m children of Y: "expanded if it has children of its own, then finished", "finished after all its children"
abbrev pub around : List ℕ → ℕ → List TreeStep → List TreeStep
around Y zero inner = inner ++ (finish Y ∷ [])
around Y (suc m) inner = (expand Y ∷ []) ++ (inner ++ (finish Y ∷ []))

-- "visiting a choice calls the walk over its children": the visit of the choice Y that has m children. A definition may call another only on a smaller part, so the
-- walk, which calls the visit of each child, hands itself over the axes left on to it.
abbrev pub visit : (List ℕ → List TreeStep) → ℕ → List ℕ → List TreeStep
visit walkOver m Y = around Y m (walkOver Y)

-- The walk over the m children d, d + 1, .. of the choice Y: "its children are taken from right to left. Each child is first made final by transfers", then visited
unfoldable pub walk : Grid → ℕ → ℕ → List ℕ → List TreeStep
walk g zero d Y = []
walk g (suc m) d Y = walk g m (d + 1) Y ++ (transfers g (d ∷ Y) (boards g) ++ visit (walk g m (d + 1)) m (d ∷ Y))

-- "It opens by expanding the root, which is never finished."
unfoldable pub steps : Grid → List TreeStep
steps g = (expand [] ∷ []) ++ walk g g.axes 0 []

-- the values that a list of steps moves
abbrev pub values_of : TreeStep → ℕ
values_of (expand Y) = 0
values_of (transfer Y s r n) = n
values_of (finish Y) = 0

unfoldable pub values : List TreeStep → ℕ
values [] = 0
values (m ∷ l) = values_of m + values l

-- how many steps of a list finish the choice with a mask
abbrev pub finishes_mask : Grid → ℕ → TreeStep → ℕ
finishes_mask g mask (expand Y) = 0
finishes_mask g mask (transfer Y s r n) = 0
finishes_mask g mask (finish Y) = pick (eqb (mask_of g Y) mask) 1 0

unfoldable pub times_finished : Grid → ℕ → List TreeStep → ℕ
times_finished g mask [] = 0
times_finished g mask (m ∷ l) = finishes_mask g mask m + times_finished g mask l
