-- Boards by their labels, and cells by their positions: past this file no index is computed with.
use Prim.Native.Nat.{ℕ, zero, suc, ◌+◌, ◌-◌, ◌≤◌, ◌<◌}
use mathlib.Core.Path.{◌≡◌, sym, ◌∙◌, refl, ap}
use mathlib.Core.List.{List, [], ◌∷◌}
use native.Mathlib.Nat.{le_refl}
use native.Mathlib.Numerals.{add-one}
use native.Mathlib.Omega.{arith}
use borrow.Author.Tests.{eqb-true, eqb-false, lt-ltb, le-ltb}
use lib.Dec.{eqb}
use Rattle.cube_spec.specs.Boxes.{sum_n, Within, place, put}
use Rattle.cube_spec.specs.Tree as Tree
use Rattle.cube_spec.specs.Tree.{has, kept, last_of}
use Rattle.rack_spec.specs.Grids.{Grid, Lawful, board_of, boards, box, cell_at, cell_of, cells, extent, index, label, region_from, region_of, region_size, region_start, share, board_with, with_label}
use Rattle.cube_spec.proofs.Sums.{by, put_same, put_other}
use Rattle.cube_spec.proofs.Products.{product_le}
use Rattle.cube_spec.proofs.Boxing.{row_of, rest_of, product_cong, place_cong, place_lt, position_place, position_lt}

-- regions follow each other
pub start_zero : (g : Grid) → region_start g 0 ≡ 0
unfolding region_start Tree.region_start sum_n
start_zero g = refl

pub start_next : (g : Grid) (i : ℕ) → region_start g (suc i) ≡ region_start g i + region_size g i
unfolding region_start region_size Tree.region_start sum_n
start_next g i = refl

pub starts_rise : (g : Grid) (i k : ℕ) → i ≤ k → region_start g i ≤ region_start g k
starts_rise g i zero h = let e : i ≡ 0 = omega arith in rw e (omega arith)
starts_rise g i (suc k) h =
    by (eqb i (suc k))
    (λ t. rw (eqb-true i (suc k) t) (le_refl _))
    (λ t. let ne = eqb-false i (suc k) t in let q = starts_rise g i k (omega (arith, ne)) in let s = start_next g k in omega arith)

region_found : (g : Grid) (m d i c r : ℕ) → d ≤ i → i < d + m → c < region_size g i → r + region_start g d ≡ region_start g i + c → region_from g m d r ≡ i
unfolding region_from
region_found g zero d i c r l u h e = absurd (omega arith)
region_found g (suc m) d i c r l u h e =
    by (eqb i d)
    (λ t.
    let q = eqb-true i d t in
    let s : r < region_size g d = (let z : r ≡ c = (let y : region_start g i ≡ region_start g d = ap (region_start g) q in omega arith) in rw (z, ← q) h) in
    rw (lt-ltb r (region_size g d) s) (sym q))
    (λ t.
    let ne = eqb-false i d t in
    let n = start_next g d in
    let x = starts_rise g (suc d) i (omega (arith, ne)) in
    let y : region_start g d + region_size g d ≤ region_start g i = omega arith in
    let z : r - region_size g d + region_start g (d + 1) ≡ region_start g i + c = rw add-one (omega arith) in
    rw (le-ltb r (region_size g d) (omega arith)) (region_found g m (d + 1) i c (r - region_size g d) (omega (arith, ne)) (omega arith) h z))

module _ (g : Grid) (b i c : ℕ) (hi : i < g.axes) (hc : c < region_size g i) where
  in_share : region_start g i + c < share g
  in_share =
      let q = starts_rise g (suc i) g.axes hi in
      let r = start_next g i in
      let s : share g ≡ region_start g g.axes = (unfold share region_start Tree.share_size in refl) in
      omega arith

  pub board_index : board_of g (index g b i c) ≡ b
  unfolding board_of index
  board_index = row_of b in_share

  pub region_index : region_of g (index g b i c) ≡ i
  unfolding region_of index
  region_index =
      let e : region_start g i + c + region_start g 0 ≡ region_start g i + c = (let z = start_zero g in omega arith) in
      rw (rest_of b in_share) (region_found g g.axes 0 i c (region_start g i + c) (omega arith) (omega arith) hc e)

  pub cell_index : cell_of g (index g b i c) ≡ c
  unfolding cell_of
  cell_index = rw region_index (unfold index in rw (rest_of b in_share) (omega arith))

module _ (g : Grid) (ok : Lawful g) where
  -- ---- boards

  pub label_lt : (b d : ℕ) → b < boards g → d < g.axes → label g b d < g.parts d
  unfolding boards label
  label_lt b d h l = position_lt g.parts g.axes 0 b d h (omega arith) (omega arith)

  -- the labels of a sender are those of its lead, but for l on axis j
  labels_ok : (b j l : ℕ) → b < boards g → l < g.parts j → (i : ℕ) → 0 ≤ i → i < 0 + g.axes → put (label g b) j l i < g.parts i
  labels_ok b j l h k i _ r =
      by (eqb i j)
      (λ t. rw (eqb-true i j t) (rw put_same k))
      (λ t. rw (put_other (label g b) j l i (eqb-false i j t)) (label_lt b i h (omega arith)))

  pub sender_lt : (b j l : ℕ) → b < boards g → l < g.parts j → with_label g b j l < boards g
  unfolding boards with_label board_with
  sender_lt b j l h k = place_lt g.axes 0 (unfold boards in labels_ok b j l h k)

  sender_label : (b j l d : ℕ) → b < boards g → l < g.parts j → d < g.axes → label g (with_label g b j l) d ≡ put (label g b) j l d
  sender_label b j l d h k r = unfold label with_label board_with in position_place g.axes 0 d (labels_ok b j l h k) (omega arith) (omega arith)

  pub sender_same : (b j l : ℕ) → b < boards g → l < g.parts j → j < g.axes → label g (with_label g b j l) j ≡ l
  sender_same b j l h k r = sender_label b j l j h k r ∙ put_same (label g b) j l

  pub sender_other : (b j l d : ℕ) → b < boards g → l < g.parts j → d < g.axes → (d ≡ j → ⊥) → label g (with_label g b j l) d ≡ label g b d
  sender_other b j l d h k r ne = sender_label b j l d h k r ∙ put_other (label g b) j l d ne

  sender_extent : (b j l d : ℕ) → b < boards g → l < g.parts j → d < g.axes → (d ≡ j → ⊥) → extent g (with_label g b j l) d ≡ extent g b d
  unfolding extent
  sender_extent b j l d h k r ne = rw (sender_other b j l d h k r ne)

  -- a lead and its senders have the same box of a choice that sums out axis j
  pub sender_box : (Y : List ℕ) (b j l : ℕ) → b < boards g → l < g.parts j → (d : ℕ) → d < g.axes → box g (j ∷ Y) (with_label g b j l) d ≡ box g (j ∷ Y) b d
  unfolding box kept has
  sender_box Y b j l h k d r =
      by (eqb d j)
      (λ t. rw t)
      (λ t. rw (sender_extent b j l d h k r (eqb-false d j t)))

  -- ---- a board's cells fit their region

  extent_le : (b d : ℕ) → b < boards g → d < g.axes → extent g b d ≤ g.most d
  unfolding extent
  extent_le b d h r = let q = ok.widest d (label g b d) r (label_lt b d h r) in omega arith

  pub most_pos : (d : ℕ) → d < g.axes → 1 ≤ g.most d
  most_pos d r =
      let q = ok.widest d 0 r (ok.some d r) in
      let s = ok.rising d 0 r (ok.some d r) in
      omega arith

  fits_axis : (Y : List ℕ) (b j i : ℕ) → b < boards g → i < g.axes → box g (j ∷ Y) b i ≤ kept (j ∷ []) g.most i
  unfolding box kept has
  fits_axis Y b j i h r =
      by (eqb i j)
      (λ t. rw t (omega arith))
      (λ t.
      by (has Y i)
      (λ s. rw (t, s) (most_pos i r))
      (λ s. rw (t, s) (extent_le b i h r)))

  pub cells_fit : (Y : List ℕ) (b j : ℕ) → b < boards g → cells g (j ∷ Y) b ≤ region_size g j
  unfolding cells region_size Tree.region_size Tree.choice_cells
  cells_fit Y b j h = product_le (box g (j ∷ Y) b) (kept (j ∷ []) g.most) g.axes 0 (λ i l r. fits_axis Y b j i h (omega arith))

  -- ---- the cell of board b at the positions x of a choice

  module _ (Y : List ℕ) (b j : ℕ) (x : ℕ → ℕ) (h : b < boards g) (r : j < g.axes) (w : Within g.axes (box g (j ∷ Y) b) x) where
    within_box : (i : ℕ) → 0 ≤ i → i < 0 + g.axes → x i < box g (j ∷ Y) b i
    within_box i _ u = w i (omega arith)

    place_in : place (box g (j ∷ Y) b) x g.axes 0 < cells g (j ∷ Y) b
    unfolding cells
    place_in = place_lt g.axes 0 within_box

    place_fits : place (box g (j ∷ Y) b) x g.axes 0 < region_size g j
    place_fits = let q = cells_fit Y b j h in let s = place_in in omega arith

    pub cell_board : board_of g (cell_at g (j ∷ Y) b x) ≡ b
    unfolding cell_at
    cell_board = board_index g b j _ r place_fits

    pub cell_region : region_of g (cell_at g (j ∷ Y) b x) ≡ j
    unfolding cell_at
    cell_region = region_index g b j _ r place_fits

    pub cell_cell : cell_of g (cell_at g (j ∷ Y) b x) ≡ place (box g (j ∷ Y) b) x g.axes 0
    unfolding cell_at
    cell_cell = cell_index g b j _ r place_fits

  -- ---- positions that agree on every axis name the same cell

  pub cell_cong : (Y : List ℕ) (b : ℕ) (x x' : ℕ → ℕ) → ((d : ℕ) → d < g.axes → x d ≡ x' d) → cell_at g Y b x ≡ cell_at g Y b x'
  unfolding cell_at
  cell_cong Y b x x' h = ap (index g b (last_of Y)) (place_cong g.axes 0 (λ i l r. refl) (λ i l r. h i (omega arith)))

  -- a sender's cells and its lead's go by the same positions
  pub sender_cells : (Y : List ℕ) (b j l : ℕ) → b < boards g → l < g.parts j → cells g (j ∷ Y) (with_label g b j l) ≡ cells g (j ∷ Y) b
  unfolding cells
  sender_cells Y b j l h k = product_cong g.axes 0 (λ d _ r. sender_box Y b j l h k d (omega arith))

  pub sender_cell : (Y : List ℕ) (b j l : ℕ) (x : ℕ → ℕ) → b < boards g → l < g.parts j → index g (with_label g b j l) j (place (box g (j ∷ Y) b) x g.axes 0) ≡ cell_at g (j ∷ Y) (with_label g b j l) x
  unfolding cell_at
  sender_cell Y b j l x h k =
      ap (index g (with_label g b j l) j) (place_cong g.axes 0 (λ d _ r. sym (sender_box Y b j l h k d (omega arith))) (λ d _ r. refl))
