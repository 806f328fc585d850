-- How a lead, a transfer, a step and what a board holds are found without listing, and what the code that finds them asks.
use Rattle.std.specs.Prelude.{ℕ, zero, suc, ◌+◌, ◌-◌, ◌*◌, ◌/◌, ◌%◌, ◌^◌, ◌≤◌, ◌<◌, ◌≡◌, true, List, ◌∷◌, eqb, ltb, length, get_or}
use Rattle.cube_spec.specs.Boxes.{pick, product, position}
use Rattle.cube_spec.specs.Choices.{keeps}
use Rattle.cube_spec.specs.Tree.{kept, last_of, parent_of}
use Rattle.plan_spec.specs.Plans.{lists_of}
use Rattle.plan_spec.specs.Refusals.{plan_refusal}
use Rattle.plan_spec.specs.declared.types.Plan.{Plan}
use Rattle.rack_spec.specs.Grids.{Grid, grid_of, summed, boards, board_with, with_label, cells}
use Rattle.rack_spec.specs.Steps.{TreeStep, transfer, transfers, visit, walk}
use Rattle.rack_spec.specs.Held.{own}
use Rattle.rack_spec.specs.Counts.{labellings}

-- a machine's plan as a grid, and the set that a mask sums out there
abbrev pub plan_grid : Plan → Grid
plan_grid q = grid_of (lists_of q)

abbrev pub summed_in : Plan → ℕ → List ℕ
summed_in q mask = summed (grid_of (lists_of q)) mask

-- ---- leads by their rank among the leads of a choice, in ascending number

-- how many there are
unfoldable pub leads : Grid → List ℕ → ℕ
leads g Y = product (kept Y g.parts) g.axes 0

-- the label of lead r on an axis: on the kept axes the labels spell r, on the others they are 0
unfoldable pub lead_label : Grid → List ℕ → ℕ → ℕ → ℕ
lead_label g Y r d = position (kept Y g.parts) g.axes 0 r d

unfoldable pub lead_at : Grid → List ℕ → ℕ → ℕ
lead_at g Y r = board_with g (lead_label g Y r)

-- the transfer at a position among those of Y: the quotient by the number of senders is the lead's rank, the remainder tells the sender
unfoldable pub found : Grid → List ℕ → ℕ → TreeStep
found g Y at =
    let others = g.parts (last_of Y) - 1 in
    let b = lead_at g Y (at / others) in
    let s = with_label g b (last_of Y) (suc (at % others)) in
    transfer Y s b (cells g Y s)

-- ---- what a board holds, along the walk

-- how many steps of the visit of the child are taken when `at` steps of the walk are
abbrev pub into : Grid → ℕ → ℕ → List ℕ → ℕ → ℕ
into g m d Y at = at - length (walk g m (d + 1) Y) - length (transfers g (d ∷ Y) (boards g))

abbrev pub visited : Grid → ℕ → ℕ → List ℕ → List TreeStep
visited g m d Y = visit (walk g m (d + 1)) m (d ∷ Y)

-- what board b holds of the choices in a walk when `at` of its steps are taken: of the right siblings, of the child, and of the choices below it
unfoldable pub held_walk : Grid → ℕ → ℕ → ℕ → List ℕ → ℕ → ℕ
held_walk g b zero d Y at = 0
held_walk g b (suc m) d Y at =
    held_walk g b m (d + 1) Y at + (pick (ltb (into g m d Y at) (length (visited g m d Y))) (own g b (d ∷ Y)) 0 + pick (eqb (into g m d Y at) 0) 0 (held_walk g b m (d + 1) (d ∷ Y) (into g m d Y at - 1)))

-- ---- what is asked of a place in the tree

-- labels that a board has
abbrev pub Labels : Plan → List ℕ → Type 0
Labels q labels = (d : ℕ) → d < q.axes → get_or labels d 0 < (plan_grid q).parts d

-- the choice with this mask keeps all axes from place d on, and the axes before d that it keeps have n labellings
pub record Walking (q : Plan) (mask d n : ℕ) : Type 0 where
  pub passed : plan_refusal q ≡ 0
  pub within : d ≤ q.axes
  pub small : mask < 2 ^ q.axes
  pub later : (e : ℕ) → d ≤ e → e < q.axes → keeps mask ((plan_grid q).order e) ≡ true
  pub exact : n ≡ labellings (plan_grid q) d (summed_in q mask)

-- the last axis that the choice with this mask sums out is at place d, and it has more than `at` transfers
pub record Sending (q : Plan) (mask d at : ℕ) : Type 0 where
  pub passed : plan_refusal q ≡ 0
  pub within : d < q.axes
  pub small : mask < 2 ^ q.axes
  pub last : last_of (summed_in q mask) ≡ d
  pub below : at < leads (plan_grid q) (summed_in q mask) * ((plan_grid q).parts d - 1)

-- a board of the rack, and the choices of a parent and its child, by their masks
pub record Forming (q : Plan) (parent child b : ℕ) : Type 0 where
  pub passed : plan_refusal q ≡ 0
  pub inside : b < boards (plan_grid q)
  pub child_of : parent_of (summed_in q child) ≡ summed_in q parent
