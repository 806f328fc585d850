-- An expansion done lead by lead and child by child, as code does it: the work area on the way, and what the code asks.
use Rattle.std.specs.Prelude.{ℕ, ◌+◌, ◌-◌, ◌*◌, ◌≤◌, ◌<◌, ◌≡◌, ◌&&◌, List, ◌∷◌, eqb, ltb, length, get_or, ℤ}
use Rattle.cube_spec.specs.Boxes.{pick, sum_n, product}
use Rattle.cube_spec.specs.Limits.{point_limit}
use Rattle.cube_spec.specs.Tree.{next}
use Rattle.plan_spec.specs.Plans.{lists_of}
use Rattle.plan_spec.specs.Refusals.{plan_refusal}
use Rattle.plan_spec.specs.declared.types.Plan.{Plan}
use Rattle.rack_spec.specs.Grids.{Grid, boards, label, box, cells, region_start, share, board_of, region_of, cell_of}
use Rattle.rack_spec.specs.Steps.{expand}
use Rattle.rack_spec.specs.Finding.{plan_grid, summed_in, leads}
use Rattle.run_spec.specs.Memory.{formed, after}
use Rattle.run_spec.specs.Entries.{work_cells}
use Rattle.run_spec.specs.Copies.{cell_stride, rank_of}

-- one child on one board: its cells formed, all else kept
unfoldable pub one_child : Grid → (ℕ → ℤ) → List ℕ → ℕ → ℕ → (ℕ → ℤ) → (ℕ → ℤ)
one_child g array Y b j work i =
    pick (eqb (board_of g i) b && (eqb (region_of g i) j && ltb (cell_of g i) (cells g (j ∷ Y) b))) (formed g array work Y b j (cell_of g i)) (work i)

-- the children on one board in regions before j: their cells formed, all else kept
unfoldable pub children_to : Grid → (ℕ → ℤ) → List ℕ → ℕ → ℕ → (ℕ → ℤ) → (ℕ → ℤ)
children_to g array Y b j work i = pick (eqb (board_of g i) b && ltb (region_of g i) j) (after g array (expand Y) work i) (work i)

-- the leads of a rank below r expanded, all else kept
unfoldable pub ranks_to : Grid → (ℕ → ℤ) → List ℕ → ℕ → (ℕ → ℤ) → (ℕ → ℤ)
ranks_to g array Y r work i = pick (ltb (rank_of g Y (board_of g i)) r) (after g array (expand Y) work i) (work i)

-- ---- the array by strides

-- the lengths by axis number
abbrev pub axis_length : Grid → ℕ → ℕ
axis_length g a = g.len (g.rank a)

-- how far apart in the array neighbours on the axis at place d stand: the points of the axes after it
unfoldable pub stride : Grid → ℕ → ℕ
stride g d = product (axis_length g) (g.axes - (g.order d + 1)) (g.order d + 1)

-- what forming the child that sums out the axis at place j asks: a board of the rack, a choice that sums out earlier axes alone, and a work area that is large enough
pub record Forms (q : Plan) (mask b j n : ℕ) : Type 0 where
  pub passed : plan_refusal q ≡ 0
  pub board : b < boards (plan_grid q)
  pub later : next (summed_in q mask) ≤ j
  pub inside : j < q.axes
  pub room : work_cells (lists_of q) ≤ n

-- what expanding the lead of a rank asks
pub record Expands (q : Plan) (mask r n : ℕ) : Type 0 where
  pub passed : plan_refusal q ≡ 0
  pub below : r < leads (plan_grid q) (summed_in q mask)
  pub room : work_cells (lists_of q) ≤ n

-- ---- what the code works out once for many children

-- A, and where each region of a share starts
pub record Regioned (q : Plan) (A : ℕ) (starts : List ℕ) : Type 0 where
  pub whole : A ≡ share (plan_grid q)
  pub most : A ≤ point_limit * 8
  pub slots : length starts ≡ 8
  pub each : (i : ℕ) → i < q.axes → get_or starts i 0 ≡ region_start (plan_grid q) i

-- the labels of a board
abbrev pub Own : Plan → ℕ → List ℕ → Type 0
Own q b labels = (d : ℕ) → d < q.axes → get_or labels d 0 ≡ label (plan_grid q) b d

-- the strides of a choice's axes
abbrev pub Strides : Plan → ℕ → List ℕ → Type 0
Strides q mask T = (length T ≡ 8) × ((d : ℕ) → d < q.axes → get_or T d 0 ≡ cell_stride (plan_grid q) (summed_in q mask) d)

-- a board's box of a choice's cells: its extents, the strides, and where its first cell stands
pub record BoardBox (q : Plan) (mask b : ℕ) (E T : List ℕ) (at : ℕ) : Type 0 where
  pub slots : length E ≡ 8
  pub extents : (d : ℕ) → d < q.axes → get_or E d 0 ≡ box (plan_grid q) (summed_in q mask) b d
  pub strides : Strides q mask T
  pub first : at ≡ sum_n q.axes (λ d. (plan_grid q).start d (label (plan_grid q) b d) * cell_stride (plan_grid q) (summed_in q mask) d)
