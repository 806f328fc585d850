-- Gathering in code: a lead's copy, by what the code's functions give, and the refusals of gathering.
use Prim.Native.Nat.{ℕ, zero, suc, ◌+◌, ◌-◌, ◌*◌, ◌≤◌, ◌<◌}
use mathlib.Core.Path.{◌≡◌, sym, ◌∙◌, refl, ap}
use mathlib.Core.Bool.{Bool, true, false, ◌||◌, not}
use mathlib.Core.Option.{none, some}
use mathlib.Core.List.{List, [], ◌∷◌}
use native.Mathlib.Omega.{arith}
use borrow.Author.Tests.{lt-ltb, le-ltb, eq-eqb, ne_eqb, eqb-true, eqb-false, ltb-true, ltb-false}
use lib.Dec.{eqb, ltb}
use lib.ListN.{length, get_or, take}
use lib.IntN.{ℤ}
use Rattle.cube_spec.specs.Boxes.{pick, sum_n}
use Rattle.cube_spec.specs.Limits.{point_limit}
use Rattle.cube_spec.specs.Choices as Choices
use Rattle.cube_spec.specs.Choices.{keeps, length_of, kept_length}
use Rattle.cube_spec.proofs.Boxing.{product_cong}
use Rattle.cube_spec.specs.Tree.{next, last_of}
use Rattle.cube_spec.proofs.Naturals.{sum_n_cong}
use Rattle.cube_spec.proofs.Sets.{Down}
use Rattle.cube_spec.specs.Checks.{check, first}
use Rattle.cube_spec.proofs.Sums.{by}
use Rattle.plan_spec.specs.Plans.{lists_of, step_count}
use Rattle.plan_spec.specs.Refusals.{plan_refusal}
use Rattle.plan_spec.specs.declared.types.Plan.{Plan}
use Rattle.plan_spec.specs.Accepted.{Accepted}
use Rattle.rack_spec.specs.Grids.{grid_of, mask_of, summed, summed_by, boards, board_with, label, lead, box, cells, index}
use Rattle.rack_spec.specs.Finding.{plan_grid, summed_in}
use Rattle.rack_spec.specs.Held.{finished_at}
use Rattle.rack_spec.specs.Answers.{past_end}
use Rattle.rack_spec.proofs.Refusing.{plan_due, plan_passed}
use Rattle.rack_spec.proofs.Tallied.{lawful, axes_same}
use Rattle.rack_spec.proofs.Planned.{summed_has, own_board, set_down, cells_small}
use Rattle.cell_spec.specs.Rows.{from, placed}
use Rattle.cell_spec.specs.Strides.{box_size, box_place, Boxed, Mergeable}
use Rattle.run_spec.specs.Memory.{read}
use Rattle.run_spec.specs.Gather.{gathered}
use Rattle.run_spec.specs.Entries.{work_cells, small_area, no_finish, wrong_result, gather_checks, gather_refusal, gather_of, gather_or, gathering}
use Rattle.run_spec.specs.Copies.{cell_stride, one_board, leads_to, Copying}
use Rattle.run_spec.proofs.Refusing.{area_boards, counted_plan}
use Rattle.run_spec.proofs.Totals.{keeps_order}
use Rattle.run_spec.proofs.Shown.{cells_room}
use Rattle.run_spec.proofs.Strided.{stride_small}
use Rattle.run_spec.proofs.Copied as Copied
use Rattle.run_spec.proofs.Copied.{LeadBox}

module _ (q : Plan) (ok : Accepted q) (mask : ℕ) where
  pub down : Down (summed_in q mask) (plan_grid q).axes
  unfolding summed
  down = set_down (summed_by (plan_grid q) mask) (plan_grid q).axes

  module _ (b : ℕ) (on : b < boards (plan_grid q)) (t : lead (plan_grid q) (summed_in q mask) b ≡ true) (labels E T : List ℕ) (at : ℕ)
      (own : (d : ℕ) → d < q.axes → get_or labels d 0 ≡ label (plan_grid q) b d)
      (es : (d : ℕ) → d < q.axes → get_or E d 0 ≡ box (plan_grid q) (summed_in q mask) (board_with (plan_grid q) (λ i. get_or labels i 0)) d)
      (ts : (d : ℕ) → d < q.axes → get_or T d 0 ≡ cell_stride (plan_grid q) (summed_in q mask) d)
      (p : at ≡ sum_n q.axes (λ d. (plan_grid q).start d (get_or labels d 0) * cell_stride (plan_grid q) (summed_in q mask) d)) where
    lead_box : LeadBox (lists_of q) ok.sound (summed_in q mask) b on t E T at
    lead_box =
        let x = axes_same q ok in
        record {
          extents = λ d h. es d (omega arith) ∙ ap (λ b. box (plan_grid q) (summed_in q mask) b d) (own_board q ok b on labels own);
          strides = λ d h. ts d (omega arith);
          first = p ∙ ap (λ n. sum_n n (λ d. (plan_grid q).start d (get_or labels d 0) * cell_stride (plan_grid q) (summed_in q mask) d)) (sym x) ∙ sum_n_cong (plan_grid q).axes (λ d h. ap (λ l. (plan_grid q).start d l * cell_stride (plan_grid q) (summed_in q mask) d) (own d (omega arith)));
        }

    few_cells : cells (plan_grid q) (summed_in q mask) b ≤ point_limit
    unfolding cells
    few_cells =
        let x = axes_same q ok in
        let z : (plan_grid q).axes - 0 ≡ (plan_grid q).axes = omega arith in
        rw z at (cells_small q ok (summed_in q mask) b 0 (plan_grid q).axes on (omega arith) (omega arith))

    -- the box has cells, few of them, and its strides are small: its axes may be merged
    pub lead_mergeable : length E ≡ 8 → length T ≡ 8 → q.axes ≤ 8 → Mergeable E T q.axes
    lead_mergeable le lt few =
        let x = axes_same q ok in
        let within = Copied.lead_in (lists_of q) ok.sound (summed_in q mask) b on t lead_box _ refl (omega arith) (omega arith) in
        let size = Copied.box_size_lem (lists_of q) ok.sound (summed_in q mask) b on t lead_box in
        let y : box_size E (plan_grid q).axes 0 ≡ box_size E q.axes 0 = ap (λ n. box_size E n 0) x in
        let small = few_cells in
        record {
          extents = omega arith;
          strides = omega arith;
          some = omega (arith, within.some);
          most = omega arith;
          near = λ d h. rw (ts d h) (stride_small q ok mask d h);
        }

    module _ (n : ℕ) (en : n ≡ (plan_grid q).axes) (le : length E ≡ 8) (lt : length T ≡ 8) (few : n ≤ 8) (src : ℕ) (er : src ≡ index (plan_grid q) b (next (summed_in q mask) - 1) 0) (work now : List ℤ) (c : Copying q mask (length work) (length now)) where
      room : (next (summed_in q mask) - 1 ≡ last_of (summed_in q mask)) × (index (plan_grid q) b (last_of (summed_in q mask)) 0 + cells (plan_grid q) (summed_in q mask) b ≤ length work)
      room = cells_room (plan_grid q) (lawful q ok) b (summed_in q mask) (length work) c.some down on (rw (area_boards q ok) at c.room)

      from_region : src ≡ index (plan_grid q) b (last_of (summed_in q mask)) 0
      from_region = er ∙ ap (λ i. index (plan_grid q) b i 0) room.0

      pub lead_boxed : Boxed (length work) (length now) E T n 0 at src
      lead_boxed =
          let r = room.1 in
          let e = from_region in
          rw en (record {
            within = Copied.lead_in (lists_of q) ok.sound (summed_in q mask) b on t lead_box (length now) c.cells (omega arith) (omega arith);
            fits = rw (Copied.box_size_lem (lists_of q) ok.sound (summed_in q mask) b on t lead_box, e) r;
          })

      pub lead_copied : placed now (box_size E n 0) (box_place E T n 0 at) (from work src) ≡ one_board (lists_of q).lengths (plan_grid q) (summed_in q mask) b (read work) now
      lead_copied = rw en (Copied.copy_lead (lists_of q) ok.sound (summed_in q mask) b on t lead_box src from_region now work c.cells (omega arith) (omega arith))

-- ---- the refusals of gathering

not_not : (t : Bool) → not (not t) ≡ t
not_not true = refl
not_not false = refl

-- a mask and the mask of the set that it sums out have the same cells
pub cells_same : (q : Plan) → Accepted q → (mask : ℕ) → Choices.cells (lists_of q).lengths mask ≡ Choices.cells (lists_of q).lengths (mask_of (plan_grid q) (summed_in q mask))
unfolding Choices.cells kept_length
cells_same q ok mask =
    let e : (plan_grid q).axes ≡ length (lists_of q).lengths = (unfold grid_of in refl) in
    product_cong (length (lists_of q).lengths) 0 (λ a l u. ap (λ t. pick t (length_of (lists_of q).lengths a) 1) (kept_alike q ok mask a (omega arith)) ∙ refl)
  where
    kept_alike : (q : Plan) → Accepted q → (mask a : ℕ) → a < (plan_grid q).axes → keeps mask a ≡ keeps (mask_of (plan_grid q) (summed_in q mask)) a
    kept_alike q ok mask a h =
        let r = (lawful q ok).rank_lt a h in
        let o = (lawful q ok).order_rank a h in
        let k = keeps_order (lists_of q) ok.sound (summed_in q mask) ((plan_grid q).rank a) r in
        let s = summed_has (plan_grid q) mask ((plan_grid q).rank a) r in
        ap (keeps mask) (sym o) ∙ sym (not_not (keeps mask ((plan_grid q).order ((plan_grid q).rank a)))) ∙ ap not (sym s) ∙ sym k ∙ ap (keeps (mask_of (plan_grid q) (summed_in q mask))) o

-- a result on the way has the length that it had
pub copying_on : (q : Plan) → Accepted q → (mask : ℕ) (work old now : List ℤ) (r : ℕ) → now ≡ leads_to (lists_of q).lengths (plan_grid q) (summed_in q mask) r (read work) old → Copying q mask (length work) (length old) → Copying q mask (length work) (length now)
copying_on q ok mask work old now r e c =
    record { passed = c.passed; some = c.some; room = c.room; cells = ap length e ∙ Copied.copy_length (lists_of q) ok.sound (summed_in q mask) (down q ok mask) old work c.cells r ∙ c.cells }

module _ (q : Plan) (work at result : ℕ) where
  pub gather_due : (plan_refusal q ≡ 0 → ⊥) → plan_refusal q ≡ gather_refusal q work at result
  unfolding gather_refusal gather_checks
  gather_due h = sym (plan_due q _ h)

  module _ (h : plan_refusal q ≡ 0) where
    others : gather_refusal q work at result ≡ first (check 11 (small_area (lists_of q) work) ∷ check 12 (past_end (lists_of q) at || no_finish (lists_of q) at) ∷ check 13 (wrong_result (lists_of q) at result) ∷ [])
    unfolding gather_refusal gather_checks
    others = plan_passed q _ h

    pub gather_area : work < work_cells (lists_of q) → 11 ≡ gather_refusal q work at result
    unfolding first small_area
    gather_area l = rw (others, lt-ltb work (work_cells (lists_of q)) l) refl

    module _ (l : work_cells (lists_of q) ≤ work) where
      pub gather_past : step_count (lists_of q) < at → 12 ≡ gather_refusal q work at result
      unfolding first small_area past_end
      gather_past k = rw (others, le-ltb work (work_cells (lists_of q)) l, lt-ltb (step_count (lists_of q)) at k) refl

      module _ (k : at ≤ step_count (lists_of q)) where
        pub gather_unfinished : finished_at (plan_grid q) at ≡ none → 12 ≡ gather_refusal q work at result
        unfolding first small_area past_end no_finish
        gather_unfinished e = rw (others, le-ltb work (work_cells (lists_of q)) l, le-ltb (step_count (lists_of q)) at k, e) refl

        module _ (Y : List ℕ) (e : finished_at (plan_grid q) at ≡ some Y) where
          pub gather_wrong : (result ≡ Choices.cells (lists_of q).lengths (mask_of (plan_grid q) Y) → ⊥) → 13 ≡ gather_refusal q work at result
          unfolding first small_area past_end no_finish wrong_result
          gather_wrong ne = rw (others, le-ltb work (work_cells (lists_of q)) l, le-ltb (step_count (lists_of q)) at k, e, ne_eqb result (Choices.cells (lists_of q).lengths (mask_of (plan_grid q) Y)) ne) refl

          pub gather_passed : result ≡ Choices.cells (lists_of q).lengths (mask_of (plan_grid q) Y) → 0 ≡ gather_refusal q work at result
          unfolding first small_area past_end no_finish wrong_result
          gather_passed s = rw (others, le-ltb work (work_cells (lists_of q)) l, le-ltb (step_count (lists_of q)) at k, e, eq-eqb result (Choices.cells (lists_of q).lengths (mask_of (plan_grid q) Y)) s) refl

-- what no refusal of gathering leaves over
pub record Collecting (q : Plan) (work at result : ℕ) : Type 0 where
  pub plan : plan_refusal q ≡ 0
  pub room : work_cells (lists_of q) ≤ work
  pub cells : (Y : List ℕ) → finished_at (plan_grid q) at ≡ some Y → result ≡ Choices.cells (lists_of q).lengths (mask_of (plan_grid q) Y)

pub collecting : (q : Plan) (work at result : ℕ) → gather_refusal q work at result ≡ 0 → Collecting q work at result
collecting q work at result z =
    by (eqb (plan_refusal q) 0)
    (λ t.
    let p = eqb-true (plan_refusal q) 0 t in
    by (ltb work (work_cells (lists_of q)))
    (λ u. let s = gather_area q work at result p (ltb-true _ _ u) in absurd (omega arith))
    (λ u.
    let r = ltb-false work (work_cells (lists_of q)) u in
    by (ltb (step_count (lists_of q)) at)
    (λ v. let s = gather_past q work at result p r (ltb-true _ _ v) in absurd (omega arith))
    (λ v.
    let k = ltb-false (step_count (lists_of q)) at v in
    record { plan = p; room = r; cells = λ Y e. by (eqb result (Choices.cells (lists_of q).lengths (mask_of (plan_grid q) Y))) (λ w. eqb-true _ _ w) (λ w. let s = gather_wrong q work at result p r k Y e (eqb-false _ _ w) in absurd (omega arith)) })))
    (λ t. let ne = eqb-false (plan_refusal q) 0 t in let s = gather_due q work at result ne in absurd (ne (s ∙ z)))

-- ---- the result

module _ (q : Plan) (work : List ℤ) (at : ℕ) (old : List ℤ) where
  pub kept_refused : (n : ℕ) → n ≡ gather_refusal q (length work) at (length old) → (n ≡ 0 → ⊥) → old ≡ gathering q work at old
  unfolding gathering
  kept_refused n e h = rw (← e) (go n h)
    where
      go : (n : ℕ) → (n ≡ 0 → ⊥) → old ≡ gather_or n (lists_of q) work at old
      go zero h = absurd (h refl)
      go (suc n) h = unfold gather_or in refl

  module _ (z : gather_refusal q (length work) at (length old) ≡ 0) where
    delivered : gathering q work at old ≡ gather_of (lists_of q) (finished_at (plan_grid q) at) work old
    unfolding gathering gather_or
    delivered = rw z refl

    pub kept_none : finished_at (plan_grid q) at ≡ none → old ≡ gathering q work at old
    kept_none e = sym (delivered ∙ ap (λ o. gather_of (lists_of q) o work old) e)

    pub gathered_some : (Y : List ℕ) → finished_at (plan_grid q) at ≡ some Y → gathered (lists_of q).lengths (plan_grid q) Y (read work) ≡ gathering q work at old
    gathered_some Y e = sym (delivered ∙ ap (λ o. gather_of (lists_of q) o work old) e)

-- the count of a choice's cells by its slots
pub cells_told_lem : (q : Plan) → Accepted q → (mask : ℕ)
    → Choices.counted_cells (take q.axes q.lengths) mask ≡ Choices.cells (lists_of q).lengths (mask_of (plan_grid q) (summed_in q mask))
cells_told_lem q ok mask = counted_plan q ok mask ∙ cells_same q ok mask
