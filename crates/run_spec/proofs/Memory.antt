-- What each step does to a cell that is named by board, choice and positions.
use Prim.Native.Nat.{ℕ, suc, ◌+◌, ◌≤◌, ◌<◌}
use mathlib.Core.Path.{◌≡◌, refl, ap}
use mathlib.Core.Bool.{true, and-false}
use mathlib.Core.List.{List, [], ◌∷◌}
use native.Mathlib.Omega.{arith}
use borrow.Author.Tests.{eq-eqb, ne_eqb, lt-ltb, lt-leb}
use lib.Dec.{eqb, leb}
use lib.IntN.{ℤ, ◌+ℤ◌}
use Rattle.cube_spec.specs.Boxes.{pick, sum_z, put, place, Within}
use Rattle.cube_spec.specs.Tree as Tree
use Rattle.cube_spec.specs.Tree.{next}
use Rattle.cube_spec.proofs.Sums.{sum_cong}
use Rattle.cube_spec.proofs.Boxing.{place_cong, place_lt, position_place}
use Rattle.rack_spec.specs.Grids.{Grid, Lawful, boards, label, with_label, lead, extent, box, cells, global, region_size, region_start, share, board_of, region_of, cell_at}
use Rattle.rack_spec.specs.Steps.{TreeStep, expand, transfer}
use Rattle.rack_spec.proofs.Boards.{start_next, starts_rise, cell_board, cell_region, cell_cell, cell_cong, sender_cells, sender_cell}
use Rattle.cell_spec.specs.Wrapped.{wrapped}
use Rattle.run_spec.specs.Memory.{point_at, source, formed, forms, after}

-- a list of steps, one after the other
unfoldable pub run : Grid → (ℕ → ℤ) → List TreeStep → (ℕ → ℤ) → (ℕ → ℤ)
run g array [] work = work
run g array (s ∷ l) work = run g array l (after g array s work)

-- a region ends within the share
pub region_in : (g : Grid) (i : ℕ) → i < g.axes → region_start g i + region_size g i ≤ share g
region_in g i h =
    let p = start_next g i in
    let q = starts_rise g (suc i) g.axes h in
    let s : share g ≡ region_start g g.axes = (unfold share region_start Tree.share_size in refl) in
    omega arith

module _ (g : Grid) (ok : Lawful g) where
  -- positions that agree on every axis name the same point, and the same cell
  pub point_cong : (z z' : ℕ → ℕ) → ((d : ℕ) → d < g.axes → z d ≡ z' d) → point_at g z ≡ point_at g z'
  unfolding point_at
  point_cong z z' h = place_cong g.axes 0 (λ i l r. refl) (λ a l r. h (g.rank a) (ok.rank_lt a (omega arith)))

  source_cong : (array work : ℕ → ℤ) (Y : List ℕ) (b : ℕ) (x x' : ℕ → ℕ) → ((d : ℕ) → d < g.axes → x d ≡ x' d) → source g array work Y b x ≡ source g array work Y b x'
  unfolding source global
  source_cong array work [] b x x' h = ap array (point_cong _ _ (λ d r. ap (λ v. g.start d (label g b d) + v) (h d r)))
  source_cong array work (j ∷ Y) b x x' h = ap work (cell_cong g ok (j ∷ Y) b x x' h)

  module _ (Y : List ℕ) (b j : ℕ) (x : ℕ → ℕ) (w : Within g.axes (box g (j ∷ Y) b) x) where
    within_box : (i : ℕ) → 0 ≤ i → i < 0 + g.axes → x i < box g (j ∷ Y) b i
    within_box i _ u = w i (omega arith)

    place_in : place (box g (j ∷ Y) b) x g.axes 0 < cells g (j ∷ Y) b
    unfolding cells
    place_in = place_lt g.axes 0 within_box

  module _ (array work : ℕ → ℤ) where
    -- an expansion forms the cells of each child on its leads
    pub expand_forms : (Y : List ℕ) (b j : ℕ) (x : ℕ → ℕ) → b < boards g → j < g.axes → Within g.axes (box g (j ∷ Y) b) x → lead g Y b ≡ true → leb (next Y) j ≡ true → after g array (expand Y) work (cell_at g (j ∷ Y) b x) ≡ wrapped (sum_z (extent g b j) (λ m. source g array work Y b (put x j m)))
    unfolding after forms formed put
    expand_forms Y b j x h r w t s =
        rw (cell_board g ok Y b j x h r w, cell_region g ok Y b j x h r w, cell_cell g ok Y b j x h r w, lt-ltb b (boards g) h, t, s, lt-ltb _ _ (place_in Y b j x w)) (ap wrapped (sum_cong (extent g b j) (λ m _. source_cong array work Y b _ _ (λ d u. ap (pick (eqb d j) m) (position_place g.axes 0 d (within_box Y b j x w) (omega arith) (omega arith))))))

    -- and writes in no region up to its own choice's
    pub expand_keeps : (Y : List ℕ) (j i : ℕ) → region_of g i ≤ j → after g array (expand (j ∷ Y)) work i ≡ work i
    unfolding after forms
    expand_keeps Y j i h = rw (lt-leb (suc j) (region_of g i) (omega arith)) (simp and-false)

    -- a transfer adds the sender's cell to the lead's
    pub transfer_adds : (Y : List ℕ) (b j l : ℕ) (x : ℕ → ℕ) → b < boards g → j < g.axes → l < g.parts j → Within g.axes (box g (j ∷ Y) b) x → (let s = with_label g b j l in after g array (transfer (j ∷ Y) s b (cells g (j ∷ Y) s)) work (cell_at g (j ∷ Y) b x) ≡ wrapped (work (cell_at g (j ∷ Y) b x) +ℤ work (cell_at g (j ∷ Y) s x)))
    unfolding after
    transfer_adds Y b j l x h r k w =
        rw (cell_board g ok Y b j x h r w, cell_region g ok Y b j x h r w, cell_cell g ok Y b j x h r w, sender_cells g ok Y b j l h k, eq-eqb b b refl, eq-eqb j j refl, lt-ltb _ _ (place_in Y b j x w)) (ap (λ i. wrapped (work (cell_at g (j ∷ Y) b x) +ℤ work i)) (sender_cell g ok Y b j l x h k))

    pub transfer_keeps_region : (Y : List ℕ) (j s b n i : ℕ) → (region_of g i ≡ j → ⊥) → after g array (transfer (j ∷ Y) s b n) work i ≡ work i
    unfolding after
    transfer_keeps_region Y j s b n i h = rw (ne_eqb (region_of g i) j h) (simp and-false)

    pub transfer_keeps_board : (Y : List ℕ) (s b n i : ℕ) → (board_of g i ≡ b → ⊥) → after g array (transfer Y s b n) work i ≡ work i
    unfolding after
    transfer_keeps_board Y s b n i h = rw (ne_eqb (board_of g i) b h)
