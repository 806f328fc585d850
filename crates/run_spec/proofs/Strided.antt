-- Strides, extents and the first point of a board's box, as the code counts them.
use Prim.Native.Nat.{ℕ, suc, ◌+◌, ◌-◌, ◌*◌, ◌≤◌, ◌<◌}
use mathlib.Core.Path.{◌≡◌, sym, ◌∙◌, refl, ap, ap₂}
use mathlib.Core.Bool.{true, false, not}
use mathlib.Core.List.{List, [], ◌∷◌}
use native.Mathlib.Nat.{sub-zero, mul-le-mul}
use native.Mathlib.Omega.{arith}
use borrow.Author.Tests.{eqb-true, eqb-false}
use lib.Dec.{eqb}
use lib.ListN.{length, get_or, set, length-set}
use lib.Seq.{get_or-take, get_or-set_same, get_or-set_other}
use Rattle.cube_spec.specs.Limits.{length_limit, point_limit}
use Rattle.cube_spec.specs.Boxes.{sum_n, product}
use Rattle.cube_spec.specs.Choices.{keeps}
use Rattle.cube_spec.specs.Tree.{next, has, kept}
use Rattle.cube_spec.proofs.Sums.{by}
use Rattle.cube_spec.proofs.Sets.{kept_has, kept_out}
use Rattle.cube_spec.proofs.Naturals.{sum_n_cong}
use Rattle.cube_spec.proofs.Products.{product_last, product_le}
use Rattle.plan_spec.specs.Plans.{lists_of}
use Rattle.plan_spec.specs.declared.types.Plan.{Plan}
use Rattle.plan_spec.specs.Accepted.{Accepted}
use Rattle.plan_spec.proofs.PricingLaws.{few_axes}
use Rattle.rack_spec.specs.Grids.{boards, board_with, label, extent, box, cells}
use Rattle.rack_spec.specs.Finding.{plan_grid, summed_in, Labels}
use Rattle.rack_spec.proofs.Tallied.{lawful, axes_same}
use Rattle.rack_spec.proofs.Planned.{summed_has, order_slot, part_le, label_with, own_board, cells_small}
use Rattle.cell_spec.specs.Strides.{box_size, Mergeable}
use Rattle.run_spec.specs.Expansions.{axis_length, stride, Own, Strides, BoardBox}
use Rattle.run_spec.specs.Copies.{kept_along, cell_stride}
use Rattle.run_spec.proofs.Loops.{one_cell, same_axis}
use Rattle.run_spec.proofs.Rooted.{axis_length_lem, points_in_lem, ChildBox, child_size, child_some}

-- a stride so far: the choice's cells along the axes from `first` up to axis a
pub record StrideTo (q : Plan) (mask first count a : ℕ) : Type 0 where
  pub counted : count ≡ product (kept_along (plan_grid q) (summed_in q mask)) (a - first) first
  pub fits : count ≤ point_limit

pub term_fits : (s t : ℕ) → s ≤ length_limit → t ≤ point_limit → s * t ≤ 1099511627776
term_fits s t a b = let m = mul-le-mul {n₁ = s} {m₁ = t} {n₂ = 65535} {m₂ = 16777216} a b in omega arith

module _ (q : Plan) (ok : Accepted q) where
  length_slot : (a : ℕ) → a < q.axes → get_or q.lengths a 0 ≡ axis_length (plan_grid q) a
  length_slot a h =
      let e = ok.axes in
      let t : get_or (lists_of q).lengths a 0 ≡ get_or q.lengths a 0 = (unfold lists_of in get_or-take q.axes q.lengths a 0 h) in
      sym (axis_length_lem (lists_of q) ok.sound a (omega arith) ∙ t)

  length_some : (a : ℕ) → a < (plan_grid q).axes → 0 < axis_length (plan_grid q) a
  length_some a h =
      let x = axes_same q ok in
      let e = ok.axes in
      let s = axis_length_lem (lists_of q) ok.sound a (omega arith) in
      let p = ok.lengths.some a (omega arith) in
      omega arith

  -- the axis at a place is one of the axes
  pub order_in : (d : ℕ) → d < q.axes → get_or q.order d 0 < q.axes
  order_in d h =
      let x = axes_same q ok in
      let o = (lawful q ok).order_lt d (omega arith) in
      let e = order_slot q ok d h in
      omega arith

  module _ (mask : ℕ) where
    -- ---- a length of the choice, by axis number

    number_has : (a : ℕ) → a < q.axes → has (summed_in q mask) ((plan_grid q).rank a) ≡ not (keeps mask a)
    number_has a h =
        let x = axes_same q ok in
        summed_has (plan_grid q) mask ((plan_grid q).rank a) ((lawful q ok).rank_lt a (omega arith)) ∙ ap (λ a. not (keeps mask a)) ((lawful q ok).order_rank a (omega arith))

    pub along_kept : (a : ℕ) → a < q.axes → keeps mask a ≡ true → get_or q.lengths a 0 ≡ kept_along (plan_grid q) (summed_in q mask) a
    along_kept a h t = length_slot a h ∙ sym (kept_out (plan_grid q).len (summed_in q mask) ((plan_grid q).rank a) (number_has a h ∙ ap not t))

    pub along_summed : (a : ℕ) → a < q.axes → keeps mask a ≡ false → 1 ≡ kept_along (plan_grid q) (summed_in q mask) a
    along_summed a h t = sym (kept_has (plan_grid q).len (summed_in q mask) ((plan_grid q).rank a) (number_has a h ∙ ap not t))

    along_le : (a : ℕ) → a < q.axes → kept_along (plan_grid q) (summed_in q mask) a ≤ axis_length (plan_grid q) a
    along_le a h =
        by (keeps mask a)
        (λ t. let k = along_kept a h t in let l = length_slot a h in omega arith)
        (λ t. let k = along_summed a h t in let s = length_some a (let x = axes_same q ok in omega arith) in omega arith)

    part_small : (m first : ℕ) → first + m ≤ q.axes → product (kept_along (plan_grid q) (summed_in q mask)) m first ≤ point_limit
    part_small m first h =
        let x = axes_same q ok in
        let k = product_le (kept_along (plan_grid q) (summed_in q mask)) (axis_length (plan_grid q)) m first (λ i l r. along_le i (omega arith)) in
        let a = part_le (axis_length (plan_grid q)) (plan_grid q).axes m first length_some (omega arith) in
        let b = points_in_lem (lists_of q) ok.sound in
        let c = ok.lengths.small in
        omega arith

    -- ---- a stride

    pub stride_begin : (first : ℕ) → StrideTo q mask first 1 first
    stride_begin first = let z : first - first ≡ 0 = omega arith in record { counted = rw z (unfold product in refl); fits = omega arith }

    pub stride_turn : (first count a n : ℕ) → n ≡ kept_along (plan_grid q) (summed_in q mask) a → first ≤ a → a < q.axes → StrideTo q mask first count a → StrideTo q mask first (count * n) (a + 1)
    stride_turn first count a n en l h s =
        let z : a + 1 - first ≡ a - first + 1 = omega arith in
        let y : first + (a - first) ≡ a = omega arith in
        let e : ℕ → ℕ = kept_along (plan_grid q) (summed_in q mask) in
        let k : count * n ≡ product e (a + 1 - first) first =
        ap₂ ◌*◌ s.counted en ∙ sym (ap (λ m. product e m first) z ∙ product_last e (a - first) first ∙ ap (λ x. product e (a - first) first * e x) y) in
        record { counted = k; fits = rw k (part_small (a + 1 - first) first (omega arith)) }

    pub stride_fits : (first count a n : ℕ) → n ≡ kept_along (plan_grid q) (summed_in q mask) a → first ≤ a → a < q.axes → StrideTo q mask first count a → count * n ≤ point_limit
    stride_fits first count a n en l h s = (stride_turn first count a n en l h s).fits

    pub stride_end : (d count a : ℕ) → d < q.axes → get_or q.order d 0 + 1 ≤ a → a ≤ q.axes → q.axes ≤ a → StrideTo q mask (get_or q.order d 0 + 1) count a → (count ≡ cell_stride (plan_grid q) (summed_in q mask) d) × (count ≤ point_limit)
    unfolding cell_stride
    stride_end d count a h u l k s =
        let x = axes_same q ok in
        let z : a ≡ (plan_grid q).axes = omega arith in
        (s.counted ∙ ap₂ (λ n f. product (kept_along (plan_grid q) (summed_in q mask)) (n - (f + 1)) (f + 1)) z (order_slot q ok d h), s.fits)

    pub stride_small : (d : ℕ) → d < q.axes → cell_stride (plan_grid q) (summed_in q mask) d ≤ point_limit
    unfolding cell_stride
    stride_small d h =
        let x = axes_same q ok in
        let o = (lawful q ok).order_lt d (omega arith) in
        part_small ((plan_grid q).axes - ((plan_grid q).order d + 1)) ((plan_grid q).order d + 1) (omega arith)

    -- ---- the box of a board

    pub extent_with : (labels : List ℕ) → Labels q labels → (d : ℕ) → d < q.axes → kept (summed_in q mask) (λ e. (plan_grid q).start e (suc (get_or labels d 0)) - (plan_grid q).start e (get_or labels d 0)) d ≡ box (plan_grid q) (summed_in q mask) (board_with (plan_grid q) (λ i. get_or labels i 0)) d
    unfolding box kept extent
    extent_with labels fits d h =
        let x = axes_same q ok in
        let l = label_with (plan_grid q) (lawful q ok) (λ i. get_or labels i 0) (λ i u. fits i (omega arith)) d (omega arith) in
        rw l refl

  -- where a choice sums out nothing, its cells are the points of the array
  root_stride : (d : ℕ) → cell_stride (plan_grid q) [] d ≡ stride (plan_grid q) d
  unfolding cell_stride stride kept has
  root_stride d = refl

  -- the box of a board, by the labels that it has
  pub board_box : (mask b : ℕ) → b < boards (plan_grid q) → (labels E T : List ℕ) (at : ℕ) → Own q b labels → length E ≡ 8 → ((d : ℕ) → d < q.axes → get_or E d 0 ≡ box (plan_grid q) (summed_in q mask) (board_with (plan_grid q) (λ i. get_or labels i 0)) d) → Strides q mask T → at ≡ sum_n q.axes (λ d. (plan_grid q).start d (get_or labels d 0) * cell_stride (plan_grid q) (summed_in q mask) d) → BoardBox q mask b E T at
  board_box mask b on labels E T at own le es ts p =
      record {
        slots = le;
        extents = λ d h. es d h ∙ ap (λ b. box (plan_grid q) (summed_in q mask) b d) (own_board q ok b on labels own);
        strides = ts;
        first = p ∙ sum_n_cong q.axes (λ d h. ap (λ l. (plan_grid q).start d l * cell_stride (plan_grid q) (summed_in q mask) d) (own d h));
      }

  -- the box of the root's child that sums out the axis at place j: the root's, with one position on that axis
  module _ (b : ℕ) (on : b < boards (plan_grid q)) (j : ℕ) (inside : j < (plan_grid q).axes) (mask : ℕ) (e : summed_in q mask ≡ []) {E T : List ℕ} {at : ℕ} (r : BoardBox q mask b E T at) where
    root_extent : (d : ℕ) → d < q.axes → get_or E d 0 ≡ box (plan_grid q) [] b d
    root_extent d h = r.extents d h ∙ ap (λ Y. box (plan_grid q) Y b d) e

    pub root_count : get_or E j 0 ≡ extent (plan_grid q) b j
    root_count = let x = axes_same q ok in root_extent j (omega arith) ∙ (unfold box kept has in refl)

    pub root_step : (d : ℕ) → d < (plan_grid q).axes → get_or T d 0 ≡ stride (plan_grid q) d
    root_step d h = let x = axes_same q ok in r.strides.1 d (omega arith) ∙ ap (λ Y. cell_stride (plan_grid q) Y d) e ∙ root_stride d

    pub child_box : ChildBox (lists_of q) ok.sound b on j inside (set E j 1) T at
    child_box =
        let x = axes_same q ok in
        let f = few_axes ok in
        let l : j < length E = (let n = r.slots in omega arith) in
        record {
          extents = λ d h. by (eqb d j)
              (λ t. (let z = eqb-true d j t in rw z (get_or-set_same E j 1 0 l ∙ sym (one_cell (plan_grid q) [] b j (unfold has in refl) inside))))
              (λ t. (let z = eqb-false d j t in get_or-set_other E j d 1 0 z ∙ root_extent d (omega arith) ∙ sym (same_axis (plan_grid q) [] b j (unfold has in refl) inside d z)));
          strides = root_step;
          first = r.first ∙ ap (λ n. sum_n n (λ d. (plan_grid q).start d (label (plan_grid q) b d) * cell_stride (plan_grid q) (summed_in q mask) d)) (sym x) ∙ sum_n_cong (plan_grid q).axes (λ d h. ap (λ t. (plan_grid q).start d (label (plan_grid q) b d) * t) (ap (λ Y. cell_stride (plan_grid q) Y d) e ∙ root_stride d));
        }

    -- both have a slot for each axis
    pub child_slots : (q.axes ≤ length (set E j 1)) × (q.axes ≤ length T)
    child_slots = let f = few_axes ok in let l = length-set E j 1 in let e = r.slots in let t = r.strides.0 in (omega arith, omega arith)

    pub child_merges : Mergeable (set E j 1) T q.axes
    child_merges =
        let x = axes_same q ok in
        let k = child_size (lists_of q) ok.sound b on j inside child_box in
        let z : box_size (set E j 1) q.axes 0 ≡ box_size (set E j 1) (plan_grid q).axes 0 = ap (λ n. box_size (set E j 1) n 0) (sym x) in
        let s = child_some (lists_of q) ok.sound b on j inside child_box in
        let m : cells (plan_grid q) (j ∷ []) b ≤ point_limit = (unfold cells in rw sub-zero at (cells_small q ok (j ∷ []) b 0 (plan_grid q).axes on (omega arith) (omega arith))) in
        record {
          extents = child_slots.0;
          strides = child_slots.1;
          some = omega arith;
          most = omega arith;
          near = λ i h. rw (r.strides.1 i h) (stride_small mask i h);
        }

-- a choice with no earlier axis is the root
pub next_empty : (Y : List ℕ) → next Y ≡ 0 → Y ≡ []
next_empty [] e = refl
next_empty (j ∷ Y) e = absurd (omega arith)
