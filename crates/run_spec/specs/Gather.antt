-- Gathering a finished choice, and viewing a board's part of it.
use Rattle.std.specs.Prelude.{ℕ, zero, suc, ◌-◌, List, [], leb, take, drop, ℤ}
use Rattle.cube_spec.specs.Boxes.{pick, table, place}
use Rattle.cube_spec.specs.Choices as Choices
use Rattle.cube_spec.specs.Choices.{cell_position}
use Rattle.cube_spec.specs.Tree.{last_of}
use Rattle.rack_spec.specs.Grids.{Grid, mask_of, lead, cells, index, cell_at}

-- ---- which board holds a position

-- of the first n portions of axis d, the last that starts at v or before
unfoldable pub portion_from : Grid → ℕ → ℕ → ℕ → ℕ
portion_from g d v zero = 0
portion_from g d v (suc n) = pick (leb (g.start d n) v) n (portion_from g d v n)

-- the portion of axis d that holds position v
unfoldable pub portion_of : Grid → ℕ → ℕ → ℕ
portion_of g d v = portion_from g d v (g.parts d)

-- the board whose portions hold the positions z, and where they stand in these
unfoldable pub owner : Grid → (ℕ → ℕ) → ℕ
owner g z = place g.parts (λ d. portion_of g d (z d)) g.axes 0

unfoldable pub local : Grid → (ℕ → ℕ) → (ℕ → ℕ)
local g z d = z d - g.start d (portion_of g d (z d))

-- ---- "Gathering copies the choice into a lent slice, row-major in axis order."

-- the positions of cell c of a choice, by place in the plan
unfoldable pub gathered_position : List ℕ → Grid → ℕ → ℕ → (ℕ → ℕ)
gathered_position ds g mask c d = cell_position ds mask c (g.order d)

-- `ds` are the lengths by axis number
unfoldable pub gathered : List ℕ → Grid → List ℕ → (ℕ → ℤ) → List ℤ
gathered ds g Y work =
    let mask = mask_of g Y in
    table (Choices.cells ds mask) (λ c. let z = gathered_position ds g mask c in work (cell_at g Y (owner g z) (local g z)))

-- ---- "a board's cells of that choice are returned as a part of the work area itself, empty for a board that is no lead"

unfoldable pub viewed : Grid → List ℕ → ℕ → List ℤ → List ℤ
viewed g Y b work = pick (lead g Y b) (take (cells g Y b) (drop (index g b (last_of Y) 0) work)) []
