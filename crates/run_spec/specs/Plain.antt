-- "Sums in a step are taken modulo 2^64", and "a bound shows they equal exact sums in a run": the steps with exact sums, to compare with.
use Rattle.std.specs.Prelude.{ℕ, ◌&&◌, List, [], ◌∷◌, eqb, ltb, length, ℤ, ◌+ℤ◌}
use Rattle.cube_spec.specs.Boxes.{pick, sum_z, table, put, position}
use Rattle.cube_spec.specs.Tree.{last_of}
use Rattle.rack_spec.specs.Grids.{Grid, extent, box, index, board_of, region_of, cell_of}
use Rattle.rack_spec.specs.Steps.{TreeStep, expand, transfer, finish}
use Rattle.run_spec.specs.Memory.{source, forms, read}

-- cell c of the child that sums out axis j too: `formed` with nothing wrapped
abbrev pub plain_formed : Grid → (ℕ → ℤ) → (ℕ → ℤ) → List ℕ → ℕ → ℕ → ℕ → ℤ
plain_formed g array work Y b j c = sum_z (extent g b j) (λ m. source g array work Y b (put (position (box g (j ∷ Y) b) g.axes 0 c) j m))

-- every cell after a step: `after` with nothing wrapped
unfoldable pub plain : Grid → (ℕ → ℤ) → TreeStep → (ℕ → ℤ) → (ℕ → ℤ)
plain g array (expand Y) work i =
    pick (forms g Y (board_of g i) (region_of g i) (cell_of g i)) (plain_formed g array work Y (board_of g i) (region_of g i) (cell_of g i)) (work i)
plain g array (transfer Y s r n) work i =
    pick (eqb (board_of g i) r && (eqb (region_of g i) (last_of Y) && ltb (cell_of g i) n)) (work i +ℤ work (index g s (region_of g i) (cell_of g i))) (work i)
plain g array (finish Y) work i = work i

-- the whole work area after a step, and after a list of steps, as `stepped` and `ran`
unfoldable pub plain_stepped : Grid → List ℤ → TreeStep → List ℤ → List ℤ
plain_stepped g array m work = table (length work) (plain g (read array) m (read work))

unfoldable pub plain_ran : Grid → List ℤ → List TreeStep → List ℤ → List ℤ
plain_ran g array [] work = work
plain_ran g array (m ∷ l) work = plain_ran g array l (plain_stepped g array m work)
