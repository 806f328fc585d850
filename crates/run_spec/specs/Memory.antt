-- The contents of every cell of the work area after a step.
use Rattle.std.specs.Prelude.{ℕ, Bool, ◌&&◌, List, [], ◌∷◌, eqb, ltb, leb, length, get_or, ℤ, pos, ◌+ℤ◌}
use Rattle.cube_spec.specs.Boxes.{pick, sum_z, table, put, place, position}
use Rattle.cube_spec.specs.Tree.{last_of, next}
use Rattle.cell_spec.specs.Wrapped.{wrapped}
use Rattle.rack_spec.specs.Grids.{Grid, boards, lead, extent, box, cells, global, index, board_of, region_of, cell_of, cell_at}
use Rattle.rack_spec.specs.Steps.{TreeStep, expand, transfer, finish}

-- ---- the array, row-major by axis numbers

-- where the point at the positions z stands, z by place in the plan
unfoldable pub point_at : Grid → (ℕ → ℕ) → ℕ
point_at g z = place (λ a. g.len (g.rank a)) (λ a. z (g.rank a)) g.axes 0

-- ---- "expand: each board with label 0 on every summed axis sums its portion into all children"

-- board b's cell of the choice Y at the positions x of its portions: a point of the array, or a cell of the work area
unfoldable pub source : Grid → (ℕ → ℤ) → (ℕ → ℤ) → List ℕ → ℕ → (ℕ → ℕ) → ℤ
source g array work [] b x = array (point_at g (global g b x))
source g array work (j ∷ Y) b x = work (cell_at g (j ∷ Y) b x)

-- cell c of the child that sums out axis j too: the sum of Y's cells at c's positions, with each position on axis j
unfoldable pub formed : Grid → (ℕ → ℤ) → (ℕ → ℤ) → List ℕ → ℕ → ℕ → ℕ → ℤ
formed g array work Y b j c =
    wrapped (sum_z (extent g b j) (λ m. source g array work Y b (put (position (box g (j ∷ Y) b) g.axes 0 c) j m)))

-- is b a board that is a lead of Y, and cell c of its region i one of a child of Y?
unfoldable pub forms : Grid → List ℕ → ℕ → ℕ → ℕ → Bool
forms g Y b i c = ltb b (boards g) && (lead g Y b && (leb (next Y) i && ltb c (cells g (i ∷ Y) b)))

-- ---- every cell after a step, by its index: "Cells of the work area that a step does not write keep their contents."
unfoldable pub after : Grid → (ℕ → ℤ) → TreeStep → (ℕ → ℤ) → (ℕ → ℤ)
after g array (expand Y) work i =
    pick (forms g Y (board_of g i) (region_of g i) (cell_of g i)) (formed g array work Y (board_of g i) (region_of g i) (cell_of g i)) (work i)
after g array (transfer Y s r n) work i =
    pick (eqb (board_of g i) r && (eqb (region_of g i) (last_of Y) && ltb (cell_of g i) n)) (wrapped (work i +ℤ work (index g s (region_of g i) (cell_of g i)))) (work i)
after g array (finish Y) work i = work i

-- a list read as a function of the index
abbrev pub read : List ℤ → ℕ → ℤ
read l i = get_or l i (pos 0)

-- the whole work area after a step, and after a list of steps
unfoldable pub stepped : Grid → List ℤ → TreeStep → List ℤ → List ℤ
stepped g array m work = table (length work) (after g (read array) m (read work))

unfoldable pub ran : Grid → List ℤ → List TreeStep → List ℤ → List ℤ
ran g array [] work = work
ran g array (m ∷ l) work = ran g array l (stepped g array m work)
