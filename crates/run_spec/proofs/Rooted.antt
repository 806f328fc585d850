-- The root's children on a board: boxes of sums over the array, read through strides.
use Prim.Native.Nat.{ℕ, zero, suc, ◌+◌, ◌-◌, ◌*◌, ◌≤◌, ◌<◌}
use mathlib.Core.Path.{◌≡◌, sym, ◌∙◌, refl, ap, ap₂}
use mathlib.Core.Bool.{false, ◌&&◌}
use mathlib.Core.List.{List, [], ◌∷◌}
use native.Mathlib.Nat.{zero-add, add-mul, one-mul}
use native.Mathlib.Omega.{arith}
use borrow.Author.Tests.{eqb-true, eqb-false, leb-true, ltb-true}
use lib.Dec.{eqb, leb, ltb}
use lib.ListN.{length, get_or}
use lib.IntN.{ℤ, pos}
use Rattle.cube_spec.specs.Boxes.{pick, sum_n, put, product, position, table, Within}
use Rattle.cube_spec.specs.Choices.{points, length_of}
use Rattle.cube_spec.specs.Tree.{has, kept}
use Rattle.cube_spec.proofs.Sums.{by, sum_cong, put_same, put_other}
use Rattle.cube_spec.proofs.Naturals.{both, sum_n_cong, sum_n_add}
use Rattle.cube_spec.proofs.Boxing.{product_cong, place_lt, position_lt}
use Rattle.cube_spec.proofs.Products.{product_pos}
use Rattle.cube_spec.proofs.Sets.{kept_has, kept_out}
use Rattle.plan_spec.specs.Plans.{PlanLists, Sound}
use Rattle.rack_spec.specs.Grids.{Lawful, grid_of, boards, label, extent, box, cells, global, share, index}
use Rattle.plan_spec.proofs.Orders.{order_rank}
use Rattle.rack_spec.proofs.Lawful.{grid_lawful}
use Rattle.rack_spec.proofs.Boards.{label_lt, cells_fit}
use Rattle.rack_spec.proofs.Planned.{start_inside}
use Rattle.cell_spec.specs.Rows.{every, written}
use Rattle.cell_spec.specs.Strides.{box_size, offset, box_place, box_sums, Sums}
use Rattle.cell_spec.specs.Wrapped.{wrapped}
use Rattle.cell_spec.proofs.Offsets.{offset_sum}
use Rattle.cell_spec.proofs.Writing.{written_table}
use Rattle.run_spec.specs.Memory.{read, point_at, source, formed}
use Rattle.run_spec.specs.Expansions.{one_child, axis_length, stride}
use Rattle.run_spec.proofs.Loops.{one_cell, point_formula}
use Rattle.run_spec.proofs.Gathering.{table_same}
use Rattle.run_spec.proofs.Ranges.{child_range}
use Rattle.run_spec.proofs.Runs.{parent_within}
use Rattle.run_spec.proofs.Moved.{region_room}

-- positions depend on the extents of the box alone
pub position_cong : (e f : ℕ → ℕ) (m d c i : ℕ) → ((k : ℕ) → d ≤ k → k < d + m → e k ≡ f k) → position e m d c i ≡ position f m d c i
unfolding position
position_cong e f zero d c i h = refl
position_cong e f (suc m) d c i h =
    let p : product e m (d + 1) ≡ product f m (d + 1) = product_cong m (d + 1) (λ k l r. h k (omega arith) (omega arith)) in
    by (eqb i d)
    (λ t. rw (t, p) refl)
    (λ t. rw (t, p) (position_cong e f m (d + 1) _ i (λ k l r. h k (omega arith) (omega arith))))

-- a sum with one position put in where it was 0
sum_put : (n : ℕ) (x s : ℕ → ℕ) (j m : ℕ) → j < n → x j ≡ 0 → sum_n n (λ d. put x j m d * s d) ≡ sum_n n (λ d. x d * s d) + m * s j
unfolding sum_n
sum_put zero x s j m h z = absurd (omega arith)
sum_put (suc n) x s j m h z =
    by (eqb j n)
    (λ t.
    let e = eqb-true j n t in
    let a : sum_n n (λ d. put x j m d * s d) ≡ sum_n n (λ d. x d * s d) = sum_n_cong n (λ d l. ap (λ v. v * s d) (put_other x j m d (λ q. omega arith))) in
    let b : put x j m n * s n ≡ m * s j = ap (λ d. put x j m d * s d) (sym e) ∙ ap (λ v. v * s j) (put_same x j m) in
    let c : x n * s n ≡ 0 = ap (λ d. x d * s d) (sym e) ∙ ap (λ v. v * s j) z ∙ (let y : 0 * s j ≡ 0 = omega arith in y) in
    omega (arith, a, b, c))
    (λ t.
    let e = eqb-false j n t in
    let k : j < n = omega arith in
    let i = sum_put n x s j m k z in
    let b : put x j m n * s n ≡ x n * s n = ap (λ v. v * s n) (put_other x j m n (λ q. e (sym q))) in
    omega (arith, i, b))

-- ---- the array

module _ (a : PlanLists) (sound : Sound a) where
  pub axis_length_lem : (x : ℕ) → x < length a.lengths → axis_length (grid_of a) x ≡ length_of a.lengths x
  unfolding grid_of
  axis_length_lem x h = ap (λ k. get_or a.lengths k 0) (order_rank a sound x h)

  pub points_in_lem : product (axis_length (grid_of a)) (grid_of a).axes 0 ≡ points a.lengths
  unfolding points grid_of
  points_in_lem = product_cong (length a.lengths) 0 (λ x l r. axis_length_lem x (omega arith))

  point_lt : (z : ℕ → ℕ) → ((d : ℕ) → d < (grid_of a).axes → z d < (grid_of a).len d) → point_at (grid_of a) z < points a.lengths
  unfolding point_at
  point_lt z h = rw (sym points_in_lem) (place_lt (grid_of a).axes 0 (λ x l r. h ((grid_of a).rank x) ((grid_lawful a sound).rank_lt x (omega arith))))

  module _ (b : ℕ) (on : b < boards (grid_of a)) (j : ℕ) (inside : j < (grid_of a).axes) where
    law : Lawful (grid_of a)
    law = grid_lawful a sound

    -- the child that sums out the axis at place j: extents and strides in slots, and where the board's first point stands
    pub record ChildBox (E T : List ℕ) (at : ℕ) : Type 0 where
      pub extents : (d : ℕ) → d < (grid_of a).axes → get_or E d 0 ≡ box (grid_of a) (j ∷ []) b d
      pub strides : (d : ℕ) → d < (grid_of a).axes → get_or T d 0 ≡ stride (grid_of a) d
      pub first : at ≡ sum_n (grid_of a).axes (λ d. (grid_of a).start d (label (grid_of a) b d) * stride (grid_of a) d)

    out : has [] j ≡ false
    out = unfold has in refl

    whole : (d : ℕ) → box (grid_of a) [] b d ≡ extent (grid_of a) b d
    unfolding box kept has
    whole d = refl

    global_lt : (x : ℕ → ℕ) → Within (grid_of a).axes (box (grid_of a) [] b) x → (d : ℕ) → d < (grid_of a).axes → global (grid_of a) b x d < (grid_of a).len d
    unfolding global
    global_lt x w d h =
        let e : x d < (grid_of a).start d (suc (label (grid_of a) b d)) - (grid_of a).start d (label (grid_of a) b d) = (unfold extent in rw (whole d) at (w d h)) in
        let s = start_inside (grid_of a) law d h (suc (label (grid_of a) b d)) (label_lt (grid_of a) law b d on h) in
        omega arith

    some_points : (d : ℕ) → d < (grid_of a).axes → 0 < extent (grid_of a) b d
    unfolding extent
    some_points d h = let s = law.rising d (label (grid_of a) b d) h (label_lt (grid_of a) law b d on h) in omega arith

    some_cells : (d : ℕ) → d < (grid_of a).axes → 0 < box (grid_of a) (j ∷ []) b d
    unfolding box
    some_cells d h = by (has (j ∷ []) d) (λ t. rw (kept_has (extent (grid_of a) b) (j ∷ []) d t) (omega arith)) (λ t. rw (kept_out (extent (grid_of a) b) (j ∷ []) d t) (some_points d h))

    -- the positions of the child's cell c
    spots : ℕ → (ℕ → ℕ)
    spots c = position (box (grid_of a) (j ∷ []) b) (grid_of a).axes 0 c

    module _ {E T : List ℕ} {at : ℕ} (r : ChildBox E T at) where
      pub child_size : box_size E (grid_of a).axes 0 ≡ cells (grid_of a) (j ∷ []) b
      unfolding box_size cells
      child_size = product_cong (grid_of a).axes 0 (λ k l u. r.extents k (omega arith))

      pub child_some : 0 < box_size E (grid_of a).axes 0
      child_some = rw child_size (unfold cells in product_pos (box (grid_of a) (j ∷ []) b) (grid_of a).axes 0 (λ i l u. some_cells i (omega arith)))

      module _ (c : ℕ) (l : c < cells (grid_of a) (j ∷ []) b) where
        within : Within (grid_of a).axes (box (grid_of a) (j ∷ []) b) (spots c)
        unfolding spots
        within d v = position_lt (box (grid_of a) (j ∷ []) b) (grid_of a).axes 0 c d (unfold cells in l) (omega arith) (omega arith)

        no_step : spots c j ≡ 0
        no_step = let w = within j inside in let o = one_cell (grid_of a) [] b j out inside in omega arith

        steps_sum : offset E T (grid_of a).axes 0 c ≡ sum_n (grid_of a).axes (λ d. spots c d * stride (grid_of a) d)
        unfolding spots
        steps_sum = offset_sum E T (grid_of a).axes 0 c ∙ sum_n_cong (grid_of a).axes (λ i h.
            ap₂ ◌*◌ (ap (position (λ k. get_or E k 0) (grid_of a).axes 0 c) (zero-add i) ∙ position_cong (λ k. get_or E k 0) (box (grid_of a) (j ∷ []) b) (grid_of a).axes 0 c i (λ k l u. r.extents k (omega arith)))
            (ap (λ k. get_or T k 0) (zero-add i) ∙ r.strides i h))

        -- the points that cell c sums stand as far apart as neighbours on axis j
        cell_point : (m : ℕ) → at + offset E T (grid_of a).axes 0 c + m * stride (grid_of a) j ≡ point_at (grid_of a) (global (grid_of a) b (put (spots c) j m))
        cell_point m =
            let n = (grid_of a).axes in
            let s : ℕ → ℕ = stride (grid_of a) in
            let o : ℕ → ℕ = λ d. (grid_of a).start d (label (grid_of a) b d) * stride (grid_of a) d in
            let p = sum_put (grid_of a).axes (spots c) (stride (grid_of a)) j m inside no_step in
            let f = point_formula a sound (global (grid_of a) b (put (spots c) j m)) in
            let g = sum_n_cong (grid_of a).axes (λ d h. sum_up d) in
            let k = sum_n_add (grid_of a).axes o (λ d. put (spots c) j m d * stride (grid_of a) d) in
            omega (arith, r.first, steps_sum, p, f, g, k)
          where
            sum_up : (d : ℕ) → global (grid_of a) b (put (spots c) j m) d * stride (grid_of a) d ≡ (grid_of a).start d (label (grid_of a) b d) * stride (grid_of a) d + put (spots c) j m d * stride (grid_of a) d
            sum_up d = unfold global in add-mul ((grid_of a).start d (label (grid_of a) b d)) (put (spots c) j m d) (stride (grid_of a) d)

        reads_in : (m : ℕ) → m < extent (grid_of a) b j → at + offset E T (grid_of a).axes 0 c + m * stride (grid_of a) j < points a.lengths
        reads_in m u = rw (cell_point m) (point_lt (global (grid_of a) b (put (spots c) j m)) (global_lt (put (spots c) j m) (parent_within (grid_of a) law [] b j m _ out within u)))

        -- a cell of the child
        formed_root : (array : List ℤ) (work : ℕ → ℤ) → formed (grid_of a) (read array) work [] b j c ≡ box_sums array E T (grid_of a).axes 0 at (extent (grid_of a) b j) (stride (grid_of a) j) c
        unfolding formed source box_sums box_place every spots
        formed_root array work = ap wrapped (sum_cong (extent (grid_of a) b j) (λ m u. ap (λ i. get_or array i (pos 0)) (sym (cell_point m))))

      module _ (n : ℕ) (en : n ≡ (grid_of a).axes) (count : ℕ) (ec : count ≡ extent (grid_of a) b j) (step : ℕ) (es : step ≡ stride (grid_of a) j) (dst : ℕ) (ed : dst ≡ index (grid_of a) b j 0) where
        pub root_sums : (w : ℕ) (array : List ℤ) → points a.lengths ≡ length array → n ≤ length E → n ≤ length T → boards (grid_of a) * share (grid_of a) ≤ w → Sums w (length array) E T n 0 at count step dst
        root_sums w array p le lt m =
            let f = region_room (grid_of a) b j (cells (grid_of a) (j ∷ []) b) w on inside (cells_fit (grid_of a) law [] b j on) m in
            let z = some_points j inside in
            let y : extent (grid_of a) b j ≡ extent (grid_of a) b j - 1 + 1 = omega arith in
            let v : extent (grid_of a) b j * stride (grid_of a) j ≡ (extent (grid_of a) b j - 1) * stride (grid_of a) j + stride (grid_of a) j = ap (λ (i : ℕ). i * stride (grid_of a) j) y ∙ add-mul (extent (grid_of a) b j - 1) 1 (stride (grid_of a) j) ∙ ap (λ (i : ℕ). (extent (grid_of a) b j - 1) * stride (grid_of a) j + i) (one-mul (stride (grid_of a) j)) in
            record {
              extents = omega arith;
              strides = omega arith;
              some = rw en child_some;
              any = rw ec z;
              places = λ q u. rw (ec, es, en) (let k : q < cells (grid_of a) (j ∷ []) b = rw (← child_size, ← en) u in omega (arith, reads_in q k (extent (grid_of a) b j - 1) (omega arith), v, p));
              writes = rw (ed, en, child_size) f;
            }

        pub root_formed : (w array : List ℤ) → boards (grid_of a) * share (grid_of a) ≤ length w → written w dst (box_size E n 0) (box_sums array E T n 0 at count step) ≡ table (length w) (one_child (grid_of a) (read array) [] b j (read w))
        root_formed w array m =
            let f = region_room (grid_of a) b j (cells (grid_of a) (j ∷ []) b) (length w) on inside (cells_fit (grid_of a) law [] b j on) m in
            rw (en, child_size, ed, ec, es)
            (written_table w (index (grid_of a) b j 0) (cells (grid_of a) (j ∷ []) b) _ f
            ∙ table_same (length w) _ _ (λ i u. cell i ∙ sym (child_range (grid_of a) (read array) (read w) [] b j i inside (cells_fit (grid_of a) law [] b j on))))
          where
            cell : (i : ℕ) → pick (leb (index (grid_of a) b j 0) i && ltb i (index (grid_of a) b j 0 + cells (grid_of a) (j ∷ []) b)) (box_sums array E T (grid_of a).axes 0 at (extent (grid_of a) b j) (stride (grid_of a) j) (i - index (grid_of a) b j 0)) (get_or w i (pos 0)) ≡ pick (leb (index (grid_of a) b j 0) i && ltb i (index (grid_of a) b j 0 + cells (grid_of a) (j ∷ []) b)) (formed (grid_of a) (read array) (read w) [] b j (i - index (grid_of a) b j 0)) (read w i)
            cell i =
                by (leb (index (grid_of a) b j 0) i && ltb i (index (grid_of a) b j 0 + cells (grid_of a) (j ∷ []) b))
                (λ t.
                let p = both (leb (index (grid_of a) b j 0) i) _ t in
                let u = leb-true (index (grid_of a) b j 0) i p.0 in
                let v = ltb-true i (index (grid_of a) b j 0 + cells (grid_of a) (j ∷ []) b) p.1 in
                rw t (sym (formed_root (i - index (grid_of a) b j 0) (omega arith) array (read w))))
                (λ t. rw t refl)
