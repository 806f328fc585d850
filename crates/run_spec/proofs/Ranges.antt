-- What a step writes, as ranges of indices: the form that a loop over the work area has.
use Prim.Native.Nat.{ℕ, zero, suc, ◌+◌, ◌-◌, ◌*◌, ◌/◌, ◌%◌, ◌≤◌, ◌<◌}
use mathlib.Core.Path.{◌≡◌, sym, ◌∙◌, refl, ap, ap₂}
use mathlib.Core.Bool.{true, false, ◌&&◌}
use mathlib.Core.List.{List, ◌∷◌}
use native.Mathlib.Nat.{add-zero, div-add-mod'}
use native.Mathlib.Numerals.{add-one}
use native.Mathlib.Omega.{arith}
use borrow.Author.Tests.{eqb-true, eqb-false, eq-eqb, lt-ltb, ltb-true, ltb-false, le-leb, leb-true}
use lib.Dec.{eqb, ltb, leb}
use lib.IntN.{ℤ, ◌+ℤ◌}
use Rattle.cube_spec.specs.Boxes.{pick, sum_z, put, place}
use Rattle.cube_spec.specs.Tree.{has}
use Rattle.cube_spec.proofs.Sums.{by, sum_cong, put_same, put_other}
use Rattle.cube_spec.proofs.Naturals.{both}
use Rattle.cube_spec.proofs.Boxing.{place_cong}
use Rattle.rack_spec.specs.Grids.{Grid, Lawful, label, extent, box, cells, global, region_size, region_start, share, index, region_from, board_of, region_of, cell_of, cell_at}
use Rattle.rack_spec.specs.Steps.{transfer}
use Rattle.rack_spec.proofs.Boards.{start_zero, start_next, board_index, region_index, cell_index}
use Rattle.rack_spec.proofs.Around.{inner, place_further}
use Rattle.cell_spec.specs.Wrapped.{wrapped}
use Rattle.run_spec.specs.Memory.{point_at, source, formed, after}
use Rattle.run_spec.proofs.Loops.{stride_inner, parent_formula}
use Rattle.run_spec.specs.Expansions.{one_child, axis_length, stride}

-- the region found starts at r or before
region_from_lem : (g : Grid) (m d r s : ℕ) → r + region_start g d ≡ s → region_start g (region_from g m d r) ≤ s
unfolding region_from
region_from_lem g zero d r s e = omega arith
region_from_lem g (suc m) d r s e =
    by (ltb r (region_size g d))
    (λ t. rw t (omega arith))
    (λ t.
    let h = ltb-false r (region_size g d) t in
    let q : region_start g (d + 1) ≡ region_start g d + region_size g d = rw add-one (start_next g d) in
    rw t (region_from_lem g m (d + 1) (r - region_size g d) s (omega arith)))

module _ (g : Grid) where
  -- an index is the cell that its board, region and cell name
  pub index_spot : (i : ℕ) → index g (board_of g i) (region_of g i) (cell_of g i) ≡ i
  unfolding index board_of cell_of
  index_spot i =
      let h : region_start g (region_of g i) ≤ i % share g = (unfold region_of in region_from_lem g g.axes 0 (i % share g) (i % share g) (rw (start_zero g) (add-zero (i % share g)))) in
      let e : region_start g (region_of g i) + (i % share g - region_start g (region_of g i)) ≡ i % share g = omega arith in
      rw e (div-add-mod' i (share g))

  module _ (b j n i : ℕ) (r : j < g.axes) (l : n ≤ region_size g j) where
    start_index : (c : ℕ) → index g b j c ≡ index g b j 0 + c
    unfolding index
    start_index c = omega arith

    -- the first n cells of region j of board b are a range
    to_range : board_of g i ≡ b → region_of g i ≡ j → cell_of g i < n → (index g b j 0 ≤ i) × (i < index g b j 0 + n)
    to_range p q c =
        let e : index g b j (cell_of g i) ≡ i = (rw (p, q) at (index_spot i)) in
        let s = start_index (cell_of g i) in
        (omega arith, omega arith)

    from_range : index g b j 0 ≤ i → i < index g b j 0 + n → (board_of g i ≡ b) × (region_of g i ≡ j) × (cell_of g i ≡ i - index g b j 0)
    from_range p q =
        let c : ℕ = i - index g b j 0 in
        let u : c < region_size g j = omega arith in
        let s : index g b j c ≡ i = (let t = start_index c in omega arith) in
        (ap (board_of g) (sym s) ∙ board_index g b j c r u, ap (region_of g) (sym s) ∙ region_index g b j c r u, ap (cell_of g) (sym s) ∙ cell_index g b j c r u)

    pub spot_range : (eqb (board_of g i) b && (eqb (region_of g i) j && ltb (cell_of g i) n)) ≡ (leb (index g b j 0) i && ltb i (index g b j 0 + n))
    spot_range =
        by (leb (index g b j 0) i && ltb i (index g b j 0 + n))
        (λ t.
        let q = both (leb (index g b j 0) i) (ltb i (index g b j 0 + n)) t in
        let p = from_range (leb-true _ _ q.0) (ltb-true _ _ q.1) in
        let u = leb-true (index g b j 0) i q.0 in
        let v = ltb-true i (index g b j 0 + n) q.1 in
        let w = p.2 in
        rw (t, eq-eqb _ _ p.0, eq-eqb _ _ p.1, lt-ltb (cell_of g i) n (omega arith)))
        (λ t.
        by (eqb (board_of g i) b && (eqb (region_of g i) j && ltb (cell_of g i) n))
        (λ s.
        let p = both (eqb (board_of g i) b) _ s in
        let q = both (eqb (region_of g i) j) _ p.1 in
        let w = to_range (eqb-true _ _ p.0) (eqb-true _ _ q.0) (ltb-true _ _ q.1) in
        rw (le-leb (index g b j 0) i w.0, lt-ltb i (index g b j 0 + n) w.1) s)
        (λ s. s ∙ sym t))

-- ---- the steps by ranges

module _ (g : Grid) (array work : ℕ → ℤ) where
  -- a transfer: n cells from src on are added to the n cells from dst on
  pub transfer_range : (Y : List ℕ) (j s r n i : ℕ) → j < g.axes → n ≤ region_size g j → (let src = index g s j 0 in let dst = index g r j 0 in after g array (transfer (j ∷ Y) s r n) work i ≡ pick (leb dst i && ltb i (dst + n)) (wrapped (work i +ℤ work (src + (i - dst)))) (work i))
  unfolding after
  transfer_range Y j s r n i h l =
      let dst = index g r j 0 in
      rw (spot_range g r j n i h l) (by (leb dst i && ltb i (dst + n)) (λ t. rw t (inside t)) (λ t. rw t))
    where
      inside : (leb (index g r j 0) i && ltb i (index g r j 0 + n)) ≡ true → wrapped (work i +ℤ work (index g s (region_of g i) (cell_of g i))) ≡ wrapped (work i +ℤ work (index g s j 0 + (i - index g r j 0)))
      inside t =
          let q = both (leb (index g r j 0) i) (ltb i (index g r j 0 + n)) t in
          let p = from_range g r j n i h l (leb-true _ _ q.0) (ltb-true _ _ q.1) in
          ap (λ k. wrapped (work i +ℤ work k)) (ap₂ (index g s) p.1 p.2 ∙ start_index g s j n i h l (i - index g r j 0))

  -- one child on one board: the cells from dst on
  pub child_range : (Y : List ℕ) (b j i : ℕ) → j < g.axes → cells g (j ∷ Y) b ≤ region_size g j → (let dst = index g b j 0 in one_child g array Y b j work i ≡ pick (leb dst i && ltb i (dst + cells g (j ∷ Y) b)) (formed g array work Y b j (i - dst)) (work i))
  unfolding one_child
  child_range Y b j i h l =
      let dst = index g b j 0 in
      let n = cells g (j ∷ Y) b in
      rw (spot_range g b j n i h l) (by (leb dst i && ltb i (dst + n)) (λ t. rw t (inside t)) (λ t. rw t))
    where
      inside : (leb (index g b j 0) i && ltb i (index g b j 0 + cells g (j ∷ Y) b)) ≡ true → formed g array work Y b j (cell_of g i) ≡ formed g array work Y b j (i - index g b j 0)
      inside t =
          let q = both (leb (index g b j 0) i) (ltb i (index g b j 0 + cells g (j ∷ Y) b)) t in
          let p = from_range g b j (cells g (j ∷ Y) b) i h l (leb-true _ _ q.0) (ltb-true _ _ q.1) in
          ap (formed g array work Y b j) p.2

  -- a cell of a child of a choice in the work area: (outer, m, inner)
  pub formed_loop : (ok : Lawful g) (k : ℕ) (Y : List ℕ) (b j c : ℕ) → has (k ∷ Y) j ≡ false → j < g.axes → c < cells g (j ∷ k ∷ Y) b → (let R = inner (box g (k ∷ Y) b) g.axes 0 j in let e = extent g b j in formed g array work (k ∷ Y) b j c ≡ wrapped (sum_z e (λ m. work (index g b k ((c / R * e + m) * R + c % R)))))
  unfolding formed source cell_at
  formed_loop ok k Y b j c out r h = ap wrapped (sum_cong (extent g b j) (λ m _. ap (λ p. work (index g b k p)) (parent_formula g (k ∷ Y) b j out r c m h)))

-- the root: along axis j the points of the array are a stride apart
module _ (g : Grid) (ok : Lawful g) (b j : ℕ) (x : ℕ → ℕ) (r : j < g.axes) where
  -- the positions by axis number
  by_number : (m a : ℕ) → a < g.axes → global g b (put x j m) (g.rank a) ≡ put (λ a. global g b x (g.rank a)) (g.order j) (g.start j (label g b j) + m) a
  unfolding global
  by_number m a u =
      by (eqb a (g.order j))
      (λ t. rw (eqb-true a (g.order j) t, put_same (λ a. g.start (g.rank a) (label g b (g.rank a)) + x (g.rank a)) (g.order j) (g.start j (label g b j) + m), ok.rank_order j r) (rw put_same))
      (λ t.
      let ne = eqb-false a (g.order j) t in
      let ne' : g.rank a ≡ j → ⊥ = λ e. ne (sym (ok.order_rank a u) ∙ ap g.order e) in
      rw (put_other x j m (g.rank a) ne', put_other (λ a. g.start (g.rank a) (label g b (g.rank a)) + x (g.rank a)) (g.order j) (g.start j (label g b j) + m) a ne))

  by_axis : (m : ℕ) → point_at g (global g b (put x j m)) ≡ place (axis_length g) (put (λ a. global g b x (g.rank a)) (g.order j) (g.start j (label g b j) + m)) g.axes 0
  unfolding point_at
  by_axis m = place_cong g.axes 0 (λ i l u. refl) (λ a l u. by_number m a (omega arith))

  pub root_stride : (m : ℕ) → point_at g (global g b (put x j m)) ≡ point_at g (global g b (put x j 0)) + m * stride g j
  root_stride m =
      let z : ℕ → ℕ = λ a. global g b x (g.rank a) in
      let s = g.start j (label g b j) in
      by_axis m ∙ place_further g.axes (g.order j) (ok.order_lt j r) (axis_length g) z s m ∙ ap (λ p. p + m * inner (axis_length g) g.axes 0 (g.order j)) (ap (λ v. place (axis_length g) (put z (g.order j) v) g.axes 0) (sym (add-zero s)) ∙ sym (by_axis 0)) ∙ ap (λ t. point_at g (global g b (put x j 0)) + m * t) (sym (stride_inner g j))
