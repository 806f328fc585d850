-- A gathered choice by strides, and gathering lead by lead, as code does it: the result on the way.
use Rattle.std.specs.Prelude.{ℕ, ◌+◌, ◌-◌, ◌≤◌, ◌<◌, ◌≡◌, List, eqb, ltb, length, get_or, ℤ, pos}
use Rattle.cube_spec.specs.Boxes.{pick, table, product, place}
use Rattle.cube_spec.specs.Choices as Choices
use Rattle.cube_spec.specs.Tree.{next, kept}
use Rattle.plan_spec.specs.Plans.{lists_of}
use Rattle.plan_spec.specs.Refusals.{plan_refusal}
use Rattle.plan_spec.specs.declared.types.Plan.{Plan}
use Rattle.rack_spec.specs.Grids.{Grid, mask_of, label, cell_at}
use Rattle.rack_spec.specs.Finding.{plan_grid, summed_in}
use Rattle.run_spec.specs.Gather.{owner, local, gathered_position}
use Rattle.run_spec.specs.Entries.{work_cells}

-- the lengths of the choice that sums out Y, by axis number: 1 on a summed axis
abbrev pub kept_along : Grid → List ℕ → ℕ → ℕ
kept_along g Y a = kept Y g.len (g.rank a)

-- how far apart in the result neighbours on the axis at place d stand: the choice's cells along the axes after it
unfoldable pub cell_stride : Grid → List ℕ → ℕ → ℕ
cell_stride g Y d = product (kept_along g Y) (g.axes - (g.order d + 1)) (g.order d + 1)

-- what cell c of the gathered choice is, and the board that has it
unfoldable pub due_at : List ℕ → Grid → List ℕ → (ℕ → ℤ) → (ℕ → ℤ)
due_at ds g Y work c = let z = gathered_position ds g (mask_of g Y) c in work (cell_at g Y (owner g z) (local g z))

unfoldable pub owner_of : List ℕ → Grid → List ℕ → (ℕ → ℕ)
owner_of ds g Y c = owner g (gathered_position ds g (mask_of g Y) c)

-- the cells of one board copied, all else kept
unfoldable pub one_board : List ℕ → Grid → List ℕ → ℕ → (ℕ → ℤ) → List ℤ → List ℤ
one_board ds g Y b work result = table (length result) (λ c. pick (eqb (owner_of ds g Y c) b) (due_at ds g Y work c) (get_or result c (pos 0)))

-- the rank of a lead among the leads of a choice: what its labels on the kept axes spell
unfoldable pub rank_of : Grid → List ℕ → ℕ → ℕ
rank_of g Y b = place (kept Y g.parts) (label g b) g.axes 0

-- the leads of a rank below r copied, all else kept
unfoldable pub leads_to : List ℕ → Grid → List ℕ → ℕ → (ℕ → ℤ) → List ℤ → List ℤ
leads_to ds g Y r work result = table (length result) (λ c. pick (ltb (rank_of g Y (owner_of ds g Y c)) r) (due_at ds g Y work c) (get_or result c (pos 0)))

-- what copying asks: a choice that is not the root, a work area that is large enough, and a result of the choice's cells
pub record Copying (q : Plan) (mask work result : ℕ) : Type 0 where
  pub passed : plan_refusal q ≡ 0
  pub some : 0 < next (summed_in q mask)
  pub room : work_cells (lists_of q) ≤ work
  pub cells : result ≡ Choices.cells (lists_of q).lengths (mask_of (plan_grid q) (summed_in q mask))
