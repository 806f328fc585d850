-- "over an accepted array from position 0 they never wrap": a run leaves what exact sums leave (`plain_ran`).
use Prim.Native.Nat.{ℕ, zero, suc, ◌+◌, ◌-◌, ◌*◌, ◌%◌, ◌^◌, ◌≤◌, ◌<◌}
use mathlib.Core.Path.{◌≡◌, sym, ◌∙◌, refl, ap, ap₂, fun_ext}
use mathlib.Core.Bool.{true, false, ◌&&◌, not}
use mathlib.Core.List.{List, [], ◌∷◌, ◌++◌}
use native.Mathlib.Nat.{zero-add, add-zero, mod-lt, le_refl, le_trans}
use native.Mathlib.Numerals.{add-one}
use native.Mathlib.Omega.{arith}
use borrow.Author.Tests.{eqb-true, ne_eqb, ltb-true, ltb-false, leb-true}
use lib.Dec.{eqb, ltb, leb}
use lib.ListN.{length}
use lib.IntN.{ℤ, pos, ◌+ℤ◌, +ℤ_idl, +ℤ_idr, nat_abs}
use mir.Syntax.{w64}
use mir.Val.{SFits}
use Rattle.cube_spec.specs.Limits.{point_limit}
use Rattle.cube_spec.specs.Boxes.{pick, sum_z, table, put, place, position, Within}
use Rattle.cube_spec.specs.Choices.{points, point_position, agrees}
use Rattle.cube_spec.specs.Tree as Tree
use Rattle.cube_spec.specs.Tree.{has, next}
use Rattle.cube_spec.proofs.Sums.{by, sum_cong, sum_none}
use Rattle.cube_spec.proofs.Naturals.{both}
use Rattle.cube_spec.proofs.Boxing.{position_lt, place_position}
use Rattle.cube_spec.proofs.Sets.{down_out, has_head}
use Rattle.plan_spec.specs.Plans.{PlanLists, Sound, board_count, share_size}
use Rattle.rack_spec.specs.Grids.{Grid, Lawful, grid_of, mask_of, boards, label, lead, extent, box, cells, global, region_size, region_start, share, index, region_from, board_of, region_of, cell_of, cell_at}
use Rattle.rack_spec.specs.Steps.{TreeStep, expand, transfer, finish, steps}
use Rattle.rack_spec.proofs.Lawful.{grid_lawful}
use Rattle.rack_spec.proofs.Boards.{start_zero, start_next, sender_cells, sender_cell}
use Rattle.rack_spec.proofs.Every.{Every, every_first}
use Rattle.cell_spec.specs.Wrapped.{wrapped}
use Rattle.run_spec.specs.Memory.{source, formed, forms, after, read, stepped, ran}
use Rattle.run_spec.specs.Plain.{plain, plain_stepped, plain_ran}
use Rattle.cell_spec.proofs.Modulo.{wrapped_fits, sum_fits, pick_small}
use Rattle.run_spec.proofs.Totals.{Law, total_at, totals_law, totals_along, total_put, keeps_order, keeps_other, order_below}
use Rattle.run_spec.proofs.Runs as Runs
use Rattle.run_spec.proofs.Runs.{Final, Sending, piece, Exact, parent_within, global_put, global_within}
use Rattle.run_spec.proofs.Lists.{Sent, sent_steps, share_pos, stepped_reads, stepped_length, total_small}
use Rattle.run_spec.proofs.Ranges.{index_spot}
use Rattle.run_spec.proofs.Delivered.{area_fits}

-- ---- every index is in a region

region_from_lt : (g : Grid) (m d r : ℕ) → r + region_start g d < region_start g (d + m) → region_from g m d r < d + m
unfolding region_from
region_from_lt g zero d r h = absurd (let e : region_start g (d + 0) ≡ region_start g d = ap (region_start g) (add-zero d) in omega arith)
region_from_lt g (suc m) d r h =
    by (ltb r (region_size g d))
    (λ t. rw t (omega arith))
    (λ t.
    let k = ltb-false r (region_size g d) t in
    let q : region_start g (d + 1) ≡ region_start g d + region_size g d = rw add-one (start_next g d) in
    let e : d + suc m ≡ d + 1 + m = omega arith in
    let h' : r + region_start g d < region_start g (d + 1 + m) = (rw e at h) in
    rw (t, e) (region_from_lt g m (d + 1) (r - region_size g d) (omega arith)))

pub region_lt : (g : Grid) → 0 < share g → (i : ℕ) → region_of g i < g.axes
unfolding region_of
region_lt g some i =
    let l : i % share g < share g = mod-lt i some in
    let s : share g ≡ region_start g g.axes = (unfold share region_start Tree.share_size in refl) in
    let z = zero-add g.axes in
    let e : region_start g (0 + g.axes) ≡ region_start g g.axes = ap (region_start g) z in
    let q = region_from_lt g g.axes 0 (i % share g) (let y = start_zero g in omega arith) in
    omega arith

-- ---- sums of totals along a part of an axis do not wrap

pub record Small (g : Grid) (T : List ℕ → (ℕ → ℕ) → ℤ) : Type 0 where
  pub whole : (Y : List ℕ) (z : ℕ → ℕ) → wrapped (T Y z) ≡ T Y z
  pub part : (Y : List ℕ) (j : ℕ) (z : ℕ → ℕ) (s n : ℕ) → has Y j ≡ false → j < g.axes → wrapped (sum_z n (λ m. T Y (put z j (s + m)))) ≡ sum_z n (λ m. T Y (put z j (s + m)))

module _ (g : Grid) (ok : Lawful g) (some : 0 < g.axes) (array : ℕ → ℤ) (T : List ℕ → (ℕ → ℕ) → ℤ) (law : Law g array T) (small : Small g T) where
  -- a list of pieces from the first on
  pieces_small : (Y : List ℕ) (j : ℕ) (z : ℕ → ℕ) → has Y j ≡ false → j < g.axes → (n : ℕ) → n ≤ g.parts j → wrapped (sum_z n (piece g T Y j z)) ≡ sum_z n (piece g T Y j z)
  pieces_small Y j z out r n h =
      let e : sum_z n (piece g T Y j z) ≡ sum_z (g.start j n) (λ m. T Y (put z j (0 + m))) = Runs.pieces g array T ok law Y j z r n h ∙ sum_cong (g.start j n) (λ m _. ap (λ v. T Y (put z j v)) (sym (zero-add m))) in
      ap wrapped e ∙ small.part Y j z 0 (g.start j n) out r ∙ sym e

  module _ (work : ℕ → ℤ) where
    -- ---- an expansion

    formed_plain : (Y : List ℕ) (b j c : ℕ) → j < g.axes → has Y j ≡ false → c < cells g (j ∷ Y) b → ((x : ℕ → ℕ) → Within g.axes (box g Y b) x → source g array work Y b x ≡ T Y (global g b x)) → formed g array work Y b j c ≡ sum_z (extent g b j) (λ m. source g array work Y b (put (position (box g (j ∷ Y) b) g.axes 0 c) j m))
    unfolding formed
    formed_plain Y b j c r out h f =
        let x : ℕ → ℕ = position (box g (j ∷ Y) b) g.axes 0 c in
        let w : Within g.axes (box g (j ∷ Y) b) x = λ d v. position_lt (box g (j ∷ Y) b) g.axes 0 c d (unfold cells in h) (omega arith) (omega arith) in
        let e : sum_z (extent g b j) (λ m. source g array work Y b (put x j m)) ≡ sum_z (extent g b j) (λ m. T Y (put (global g b x) j (g.start j (label g b j) + m))) = sum_cong (extent g b j) (λ m u. f (put x j m) (parent_within g ok Y b j m x out w u) ∙ law.alike Y _ _ (λ d u _. global_put g ok b j m x d)) in
        ap wrapped e ∙ small.part Y j (global g b x) (g.start j (label g b j)) (extent g b j) out r ∙ sym e

    -- what an expansion reads are totals
    reads : (Y : List ℕ) → Runs.Right g array T (expand Y) work → (b : ℕ) → b < boards g → lead g Y b ≡ true → (x : ℕ → ℕ) → Within g.axes (box g Y b) x → source g array work Y b x ≡ T Y (global g b x)
    unfolding source Final
    reads [] p b h t x w = sym (law.root (global g b x) (global_within g ok b x h w))
    reads (k ∷ Z) p b h t x w = p.1 b x h t w ∙ small.whole (k ∷ Z) (global g b x)

    later_out : (Y : List ℕ) → Runs.Right g array T (expand Y) work → (j : ℕ) → next Y ≤ j → has Y j ≡ false
    later_out [] p j h = unfold has in refl
    later_out (k ∷ Z) p j h = down_out (k ∷ Z) (suc k) j (omega arith, p.0.1) h

    expand_plain : (Y : List ℕ) → Runs.Right g array T (expand Y) work → (i : ℕ) → after g array (expand Y) work i ≡ plain g array (expand Y) work i
    unfolding after plain
    expand_plain Y p i = by (forms g Y (board_of g i) (region_of g i) (cell_of g i)) (λ t. rw t (inside t)) (λ t. rw t)
      where
        inside : forms g Y (board_of g i) (region_of g i) (cell_of g i) ≡ true → formed g array work Y (board_of g i) (region_of g i) (cell_of g i) ≡ sum_z (extent g (board_of g i) (region_of g i)) (λ m. source g array work Y (board_of g i) (put (position (box g (region_of g i ∷ Y) (board_of g i)) g.axes 0 (cell_of g i)) (region_of g i) m))
        inside t =
            unfold forms in
            (let q₁ = both (ltb (board_of g i) (boards g)) _ t in
            let q₂ = both (lead g Y (board_of g i)) _ q₁.1 in
            let q₃ = both (leb (next Y) (region_of g i)) _ q₂.1 in
            formed_plain Y (board_of g i) (region_of g i) (cell_of g i) (region_lt g (share_pos g ok some) i) (later_out Y p (region_of g i) (leb-true _ _ q₃.0)) (ltb-true _ _ q₃.1) (reads Y p (board_of g i) (ltb-true _ _ q₁.0) q₂.0))

    -- ---- a transfer

    module _ (Y : List ℕ) (j s b n : ℕ) (p : Sending g T Y j s b n work) (i : ℕ) (eb : board_of g i ≡ b) (er : region_of g i ≡ j) (hc : cell_of g i < n) where
      cells_same : n ≡ cells g (j ∷ Y) b
      cells_same = p.count ∙ ap (cells g (j ∷ Y)) p.sender ∙ sender_cells g ok Y b j (suc p.upto) p.board p.less

      spot : ℕ → ℕ
      spot = position (box g (j ∷ Y) b) g.axes 0 (cell_of g i)

      in_cells : cell_of g i < cells g (j ∷ Y) b
      in_cells = rw (← cells_same) hc

      spot_within : Within g.axes (box g (j ∷ Y) b) spot
      unfolding spot
      spot_within d v = position_lt (box g (j ∷ Y) b) g.axes 0 (cell_of g i) d (unfold cells in in_cells) (omega arith) (omega arith)

      spot_place : place (box g (j ∷ Y) b) spot g.axes 0 ≡ cell_of g i
      unfolding spot
      spot_place = place_position (box g (j ∷ Y) b) g.axes 0 (cell_of g i) (unfold cells in in_cells)

      -- the lead's cell, and the sender's
      here : i ≡ cell_at g (j ∷ Y) b spot
      unfolding cell_at
      here = sym (ap (index g b j) spot_place ∙ (rw (eb, er) at (index_spot g i)))

      there : index g s (region_of g i) (cell_of g i) ≡ cell_at g (j ∷ Y) s spot
      there =
          ap₂ (index g s) er (sym spot_place) ∙ ap (λ s. index g s j (place (box g (j ∷ Y) b) spot g.axes 0)) p.sender ∙ sender_cell g ok Y b j (suc p.upto) spot p.board p.less ∙ ap (λ s. cell_at g (j ∷ Y) s spot) (sym p.sender)

      abbrev held : ℕ → ℤ
      held = piece g T Y j (global g b spot)

      lead_sum : work i ≡ sum_z (suc p.upto) held
      lead_sum = let h = p.less in ap work here ∙ p.own spot spot_within ∙ pieces_small Y j (global g b spot) p.out p.axis (suc p.upto) (omega arith)

      next_piece : wrapped (held (suc p.upto)) ≡ held (suc p.upto)
      unfolding piece
      next_piece = small.part Y j (global g b spot) _ _ p.out p.axis

      sender_piece : work (index g s (region_of g i) (cell_of g i)) ≡ held (suc p.upto)
      sender_piece = ap work there ∙ p.other spot spot_within ∙ next_piece

      sum_plain : wrapped (work i +ℤ work (index g s (region_of g i) (cell_of g i))) ≡ work i +ℤ work (index g s (region_of g i) (cell_of g i))
      sum_plain =
          let e : work i +ℤ work (index g s (region_of g i) (cell_of g i)) ≡ sum_z (suc (suc p.upto)) held = (unfold sum_z in ap₂ ◌+ℤ◌ lead_sum sender_piece) in
          ap wrapped e ∙ pieces_small Y j (global g b spot) p.out p.axis (suc (suc p.upto)) p.less ∙ sym e

    transfer_plain : (Y : List ℕ) (j s b n : ℕ) → Sending g T Y j s b n work → (i : ℕ) → after g array (transfer (j ∷ Y) s b n) work i ≡ plain g array (transfer (j ∷ Y) s b n) work i
    unfolding after plain
    transfer_plain Y j s b n p i = by (eqb (board_of g i) b && (eqb (region_of g i) j && ltb (cell_of g i) n)) (λ t. rw t (inside t)) (λ t. rw t)
      where
        inside : (eqb (board_of g i) b && (eqb (region_of g i) j && ltb (cell_of g i) n)) ≡ true → wrapped (work i +ℤ work (index g s (region_of g i) (cell_of g i))) ≡ work i +ℤ work (index g s (region_of g i) (cell_of g i))
        inside t =
            let q₁ = both (eqb (board_of g i) b) _ t in
            let q₂ = both (eqb (region_of g i) j) _ q₁.1 in
            sum_plain Y j s b n p i (eqb-true _ _ q₁.0) (eqb-true _ _ q₂.0) (ltb-true _ _ q₂.1)

    -- a step that finds what it needs
    step_plain : (m : TreeStep) → Runs.Right g array T m work → (i : ℕ) → after g array m work i ≡ plain g array m work i
    step_plain (expand Y) p i = expand_plain Y p i
    step_plain (transfer [] s b n) p i = absurd p
    step_plain (transfer (j ∷ Y) s b n) p i = transfer_plain Y j s b n p i
    step_plain (finish Y) p i = unfold after plain in refl

-- ---- a list of steps

exact_first : (g : Grid) (array : ℕ → ℤ) (T : List ℕ → (ℕ → ℕ) → ℤ) (l k : List TreeStep) (work : ℕ → ℤ) → Exact g array T (l ++ k) work → Exact g array T l work
exact_first g array T [] k work p = tt
exact_first g array T (s ∷ l) k work p = (p.0, exact_first g array T l k (after g array s work) p.1)

module _ (g : Grid) (ok : Lawful g) (some : 0 < g.axes) (array : List ℤ) (T : List ℕ → (ℕ → ℕ) → ℤ) (law : Law g (read array) T) (small : Small g T) where
  ran_plain : (l : List TreeStep) (work : List ℤ) → Every (Sent g) l → boards g * share g ≤ length work → Exact g (read array) T l (read work) → ran g array l work ≡ plain_ran g array l work
  unfolding ran plain_ran
  ran_plain [] work q h p = refl
  ran_plain (s ∷ l) work q h p =
      let e : stepped g array s work ≡ plain_stepped g array s work = (unfold stepped plain_stepped in ap (table (length work)) (fun_ext (step_plain g ok some (read array) T law small (read work) s p.0))) in
      let f : after g (read array) s (read work) ≡ read (stepped g array s work) = sym (fun_ext (stepped_reads g ok some array work s q.0 h)) in
      ran_plain l (stepped g array s work) q.1 (rw (stepped_length g ok some array work s) h) (rw f at p.1) ∙ ap (plain_ran g array l) e

-- ---- the totals of an accepted array

-- of n positions in a row at most one is p
one_of : (n s p : ℕ) (v : ℤ) → nat_abs (sum_z n (λ m. pick (eqb p (s + m)) v (pos 0))) ≤ nat_abs v
unfolding sum_z
one_of zero s p v = omega arith
one_of (suc n) s p v =
    let ih = one_of n s p v in
    by (eqb p (s + n))
    (λ t.
    let e = eqb-true p (s + n) t in
    let none : sum_z n (λ m. pick (eqb p (s + m)) v (pos 0)) ≡ pos 0 = sum_none n (λ m l. rw (ne_eqb p (s + m) (λ q. omega arith))) in
    rw (t, none, +ℤ_idl v) (le_refl (nat_abs v)))
    (λ t. rw (t, +ℤ_idr (sum_z n (λ m. pick (eqb p (s + m)) v (pos 0)))) ih)

module _ (a : PlanLists) (sound : Sound a) (array : ℕ → ℤ) (small : (i : ℕ) → nat_abs (array i) ≤ 2 ^ 31) (few : points a.lengths ≤ point_limit) where
  abbrev g : Grid
  g = grid_of a

  part_small : (Y : List ℕ) (j : ℕ) (z : ℕ → ℕ) (s n : ℕ) → has Y j ≡ false → j < g.axes → SFits w64 (sum_z n (λ m. total_at a array Y (put z j (s + m))))
  part_small Y j z s n out r =
      let ds = a.lengths in
      let x : ℕ → ℕ = λ d. z (g.rank d) in
      let F : ℕ → ℤ = λ q. sum_z n (λ m. pick (eqb (point_position ds q (g.order j)) (s + m)) (pick (agrees ds (mask_of g (j ∷ Y)) q x (length ds)) (array q) (pos 0)) (pos 0)) in
      let e : sum_z n (λ m. total_at a array Y (put z j (s + m))) ≡ sum_z (points ds) F = sum_cong n (λ m _. total_put a sound array Y j z (s + m) r) ∙ totals_along ds (mask_of g Y) (mask_of g (j ∷ Y)) (g.order j) (keeps_order a sound Y j r ∙ ap not out) (keeps_order a sound (j ∷ Y) j r ∙ ap not (has_head j Y)) (keeps_other a sound Y j) array x n (λ m. s + m) (order_below a sound j r) in
      let h : (q : ℕ) → nat_abs (F q) ≤ 2 ^ 31 = λ q. le_trans (one_of n s (point_position ds q (g.order j)) (pick (agrees ds (mask_of g (j ∷ Y)) q x (length ds)) (array q) (pos 0))) (pick_small (agrees ds (mask_of g (j ∷ Y)) q x (length ds)) (array q) (small q)) in
      rw e (sum_fits (points ds) F few h)

  totals_small : Small g (total_at a array)
  totals_small =
      record {
        whole = λ Y z. unfold total_at in total_small a.lengths array small few (mask_of g Y) (λ d. z (g.rank d));
        part = λ Y j z s n out r. wrapped_fits _ (part_small Y j z s n out r);
      }

-- NOTHING WRAPS IN A RUN. Of any sound plan, any accepted array and any work area that is large enough: after any number of steps from position 0 the work area
-- is what exact sums leave.
pub run_never_wraps : (a : PlanLists) → Sound a → 0 < length a.lengths → (array work : List ℤ) → board_count a * share_size a ≤ length work → ((i : ℕ) → nat_abs (read array i) ≤ 2 ^ 31) → points a.lengths ≤ point_limit → (before rest : List TreeStep) → steps (grid_of a) ≡ before ++ rest → ran (grid_of a) array before work ≡ plain_ran (grid_of a) array before work
run_never_wraps a sound axes array work fits small few before rest e =
    let g = grid_of a in
    let ok = grid_lawful a sound in
    let some : 0 < g.axes = (unfold grid_of in axes) in
    let T = total_at a (read array) in
    let law = totals_law a sound (read array) in
    ran_plain g ok some array T law (totals_small a sound (read array) small few) before work (every_first (Sent g) before rest (rw e at (sent_steps g))) (area_fits a sound (length work) fits) (exact_first g (read array) T before rest (read work) (rw e at (Runs.steps_exact g (read array) T ok law (read work))))
