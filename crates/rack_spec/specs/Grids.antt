-- A plan's grid of boards: portions, labels, extents, and where cells stand in the work area. Axes go by their place in the plan.
use Rattle.std.specs.Prelude.{ℕ, zero, suc, ◌+◌, ◌-◌, ◌*◌, ◌/◌, ◌%◌, ◌^◌, ◌≤◌, ◌<◌, ◌≡◌, Bool, true, ◌&&◌, not, List, [], ◌∷◌, eqb, ltb, length}
use Rattle.cube_spec.specs.Boxes.{pick, sum_n, put, product, place, position}
use Rattle.cube_spec.specs.Choices.{keeps}
use Rattle.cube_spec.specs.Portions.{portion_start}
use Rattle.cube_spec.specs.Tree as Tree
use Rattle.cube_spec.specs.Tree.{has, kept, last_of}
use Rattle.plan_spec.specs.Plans.{PlanLists, axis_at, length_at, exponent_at, most_at, find}

pub record Grid : Type 0 where
  -- the number of axes
  pub axes : ℕ
  -- the length of an axis, the number of its portions, the start of its portion l, the largest extent that a portion has
  pub len : ℕ → ℕ
  pub parts : ℕ → ℕ
  pub start : ℕ → ℕ → ℕ
  pub most : ℕ → ℕ
  -- the number of the axis at a place, and the place of an axis number
  pub order : ℕ → ℕ
  pub rank : ℕ → ℕ

unfoldable pub grid_of : PlanLists → Grid
grid_of a =
    record {
      axes = length a.lengths;
      len = length_at a;
      parts = λ d. 2 ^ exponent_at a d;
      start = λ d l. portion_start (length_at a d) (2 ^ exponent_at a d) l;
      most = most_at a;
      order = axis_at a;
      rank = λ d. find d a.order;
    }

-- What the proofs know of a grid; how portions are cut plays no part beyond this, but where longer ones are said to come first (`Falling`).
pub record Lawful (g : Grid) : Type 0 where
  pub some : (d : ℕ) → d < g.axes → 0 < g.parts d
  pub first : (d : ℕ) → d < g.axes → g.start d 0 ≡ 0
  pub last : (d : ℕ) → d < g.axes → g.start d (g.parts d) ≡ g.len d
  pub rising : (d l : ℕ) → d < g.axes → l < g.parts d → g.start d l < g.start d (suc l)
  pub widest : (d l : ℕ) → d < g.axes → l < g.parts d → g.start d (suc l) ≤ g.start d l + g.most d
  pub order_lt : (d : ℕ) → d < g.axes → g.order d < g.axes
  pub rank_lt : (a : ℕ) → a < g.axes → g.rank a < g.axes
  pub rank_order : (d : ℕ) → d < g.axes → g.rank (g.order d) ≡ d
  pub order_rank : (a : ℕ) → a < g.axes → g.order (g.rank a) ≡ a

-- the mask of the choice that sums out Y
unfoldable pub mask_of : Grid → List ℕ → ℕ
mask_of g Y = sum_n g.axes (λ a. pick (has Y (g.rank a)) 0 (2 ^ a))

-- the set of the places below n that f tells, and the set that a mask sums out
unfoldable pub set_of : (ℕ → Bool) → ℕ → List ℕ
set_of f zero = []
set_of f (suc n) = pick (f n) (n ∷ set_of f n) (set_of f n)

unfoldable pub summed_by : Grid → ℕ → ℕ → Bool
summed_by g mask d = not (keeps mask (g.order d))

unfoldable pub summed : Grid → ℕ → List ℕ
summed g mask = set_of (summed_by g mask) g.axes

-- ---- boards

-- as many as there are ways to label the axes
unfoldable pub boards : Grid → ℕ
boards g = product g.parts g.axes 0

-- "A board's number is its labels read in plan order as binary fields of k bits, first axis highest": the label of board b on the axis at place d
unfoldable pub label : Grid → ℕ → ℕ → ℕ
label g b d = position g.parts g.axes 0 b d

-- and back: the board with the labels x
unfoldable pub board_with : Grid → (ℕ → ℕ) → ℕ
board_with g x = place g.parts x g.axes 0

-- the board with b's labels but for l on axis j
unfoldable pub with_label : Grid → ℕ → ℕ → ℕ → ℕ
with_label g b j l = board_with g (put (label g b) j l)

-- a lead of Y has "label 0 on every axis the choice sums out"
unfoldable pub lead : Grid → List ℕ → ℕ → Bool
lead g [] b = true
lead g (j ∷ Y) b = eqb (label g b j) 0 && lead g Y b

-- the extent of board b's portion of an axis
unfoldable pub extent : Grid → ℕ → ℕ → ℕ
extent g b d = g.start d (suc (label g b d)) - g.start d (label g b d)

-- board b's cells of the choice Y: a box, and how many they are
unfoldable pub box : Grid → List ℕ → ℕ → (ℕ → ℕ)
box g Y b = kept Y (extent g b)

unfoldable pub cells : Grid → List ℕ → ℕ → ℕ
cells g Y b = product (box g Y b) g.axes 0

-- positions in the array of the positions x in board b's portions
unfoldable pub global : Grid → ℕ → (ℕ → ℕ) → (ℕ → ℕ)
global g b x d = g.start d (label g b d) + x d

-- ---- the work area

-- the regions of a share, and A
unfoldable pub region_size : Grid → ℕ → ℕ
region_size g i = Tree.region_size g.axes g.most i

unfoldable pub region_start : Grid → ℕ → ℕ
region_start g i = Tree.region_start g.axes g.most i

unfoldable pub share : Grid → ℕ
share g = Tree.share_size g.axes g.most

-- "Board b's share of the work area .. starts at cell b·A": cell c of region i of board b
unfoldable pub index : Grid → ℕ → ℕ → ℕ → ℕ
index g b i c = b * share g + (region_start g i + c)

-- and back: which board, region and cell an index is. Of m regions from region d on, r is counted from the start of region d.
unfoldable pub region_from : Grid → ℕ → ℕ → ℕ → ℕ
region_from g zero d r = d
region_from g (suc m) d r = pick (ltb r (region_size g d)) d (region_from g m (d + 1) (r - region_size g d))

unfoldable pub board_of : Grid → ℕ → ℕ
board_of g i = i / share g

unfoldable pub region_of : Grid → ℕ → ℕ
region_of g i = region_from g g.axes 0 (i % share g)

unfoldable pub cell_of : Grid → ℕ → ℕ
cell_of g i = i % share g - region_start g (region_of g i)

-- "A choice whose last summed axis is i starts at the start of region i, row-major in plan order over this board's own extents": board b's cell of Y at the positions x
unfoldable pub cell_at : Grid → List ℕ → ℕ → (ℕ → ℕ) → ℕ
cell_at g Y b x = index g b (last_of Y) (place (box g Y b) x g.axes 0)
