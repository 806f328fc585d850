-- A lead's cells in the gathered choice: a box of the result, written through strides.
use Prim.Native.Nat.{ℕ, zero, suc, ◌+◌, ◌-◌, ◌*◌, ◌≤◌, ◌<◌}
use mathlib.Core.Path.{◌≡◌, sym, ◌∙◌, refl, ap, ap₂}
use mathlib.Core.Bool.{true}
use mathlib.Core.List.{List, [], ◌∷◌}
use native.Mathlib.Nat.{zero-add, add-mul}
use native.Mathlib.Omega.{arith}
use borrow.Author.Tests.{eqb-true, eqb-false, ltb-true, ltb-false, lt-ltb, le-ltb}
use lib.Dec.{eqb, ltb}
use lib.ListN.{length, get_or}
use lib.IntN.{ℤ, pos}
use Rattle.cube_spec.specs.Boxes.{pick, sum_n, product, place, position, table, Within}
use Rattle.cube_spec.specs.Choices as Choices
use Rattle.cube_spec.specs.Choices.{kept_length, cell_position}
use Rattle.cube_spec.specs.Tree.{has, kept, last_of}
use Rattle.cube_spec.proofs.Sums.{by}
use Rattle.cube_spec.proofs.Naturals.{both, sum_n_cong, sum_n_add}
use Rattle.cube_spec.proofs.Products.{product_pos}
use Rattle.cube_spec.proofs.Boxing.{product_cong, place_cong, place_lt, position_place, position_lt, place_position}
use Rattle.cube_spec.proofs.Sets.{Down, kept_has, kept_out}
use Rattle.cube_spec.proofs.Tables.{table_length, table_at, table_of}
use Rattle.plan_spec.specs.Plans.{PlanLists, Sound}
use Rattle.rack_spec.specs.Grids.{Grid, Lawful, grid_of, mask_of, boards, label, lead, extent, box, cells, global, index, cell_at}
use Rattle.rack_spec.specs.Finding.{leads, lead_at}
use Rattle.rack_spec.proofs.Lawful.{grid_lawful}
use Rattle.rack_spec.proofs.Boards.{label_lt}
use Rattle.cell_spec.specs.Strides.{box_size, offset, box_place, InArray}
use Rattle.cell_spec.specs.Rows.{from, placed}
use Rattle.cell_spec.proofs.Offsets.{offset_sum}
use Rattle.cell_spec.proofs.Putting.{Distinct, put_length, put_at, put_else}
use Rattle.run_spec.specs.Memory.{read}
use Rattle.run_spec.specs.Gather.{portion_of, owner, local, gathered_position, gathered}
use Rattle.run_spec.specs.Copies.{kept_along, cell_stride, due_at, owner_of, one_board, rank_of, leads_to}
use Rattle.run_spec.proofs.Ranked.{rank_at, at_rank, rank_lt}
use Rattle.run_spec.proofs.Loops.{place_formula}
use Rattle.run_spec.proofs.Rooted.{position_cong}
use Rattle.run_spec.proofs.Gathering.{table_same, Holds, portion_holds, owner_lt, owner_global, owner_leads, owner_within, kept_order, gathered_within, gathered_flat}
use Rattle.run_spec.proofs.Runs.{start_le}

-- a lead has label 0 on each summed axis
pub lead_label_lem : (g : Grid) (Y : List ℕ) (b d : ℕ) → lead g Y b ≡ true → has Y d ≡ true → label g b d ≡ 0
unfolding lead has
lead_label_lem g [] b d t h = absurd (let z : ◌≡◌ {A = ℕ} 0 1 = cc in omega arith)
lead_label_lem g (j ∷ Y) b d t h =
    let p = both (eqb (label g b j) 0) (lead g Y b) t in
    by (eqb d j)
    (λ e. rw (eqb-true d j e) (eqb-true (label g b j) 0 p.0))
    (λ e. lead_label_lem g Y b d p.1 (rw e at h))

module _ (g : Grid) (ok : Lawful g) where
  -- starts rise
  starts_rise : (d l m : ℕ) → d < g.axes → l + m ≤ g.parts d → g.start d l ≤ g.start d (l + m)
  starts_rise d l zero r h = let z : l + 0 ≡ l = omega arith in rw z (omega arith)
  starts_rise d l (suc m) r h =
      let p = starts_rise d l m r (omega arith) in
      let q = ok.rising d (l + m) r (omega arith) in
      let z : l + suc m ≡ suc (l + m) = omega arith in
      rw z (omega arith)

  apart : (d v l k : ℕ) → d < g.axes → Holds g d v l (g.parts d) → Holds g d v k (g.parts d) → l < k → ⊥
  apart d v l k r p q h =
      let s = starts_rise d (suc l) (k - suc l) r (let x = q.below in omega arith) in
      let z : suc l + (k - suc l) ≡ k = omega arith in
      let u : g.start d (suc l) ≤ g.start d k = rw z at s in
      let a = p.to in
      let b = q.from in
      omega arith

  -- a position lies in one portion
  pub one_portion : (d v l k : ℕ) → d < g.axes → Holds g d v l (g.parts d) → Holds g d v k (g.parts d) → l ≡ k
  one_portion d v l k r p q =
      by (ltb l k)
      (λ t. absurd (apart d v l k r p q (ltb-true l k t)))
      (λ t. by (ltb k l)
      (λ s. absurd (apart d v k l r q p (ltb-true k l s)))
      (λ s. let x = ltb-false l k t in let y = ltb-false k l s in omega arith))

module _ (a : PlanLists) (sound : Sound a) (Y : List ℕ) where
  abbrev g : Grid
  g = grid_of a

  ok : Lawful g
  ok = grid_lawful a sound

  abbrev mask : ℕ
  mask = mask_of g Y

  axes_length : g.axes ≡ length a.lengths
  unfolding grid_of
  axes_length = refl

  -- the choice's lengths by axis number
  along : (x : ℕ) → x < g.axes → kept_length a.lengths mask x ≡ kept_along g Y x
  along x h = ap (kept_length a.lengths mask) (sym (ok.order_rank x h)) ∙ kept_order a sound Y (g.rank x) (ok.rank_lt x h)

  pub cells_along : Choices.cells a.lengths mask ≡ product (kept_along g Y) g.axes 0
  unfolding Choices.cells
  cells_along = product_cong (length a.lengths) 0 (λ x l r. along x (let e = axes_length in omega arith)) ∙ ap (λ n. product (kept_along g Y) n 0) (sym axes_length)

  -- the cell at the positions z, by place in the plan
  abbrev number_of : (ℕ → ℕ) → ℕ
  number_of z = place (kept_along g Y) (λ x. z (g.rank x)) g.axes 0

  module _ (z : ℕ → ℕ) (w : Within g.axes (kept Y g.len) z) where
    fits : (x : ℕ) → 0 ≤ x → x < 0 + g.axes → z (g.rank x) < kept_along g Y x
    fits x l r = w (g.rank x) (ok.rank_lt x (omega arith))

    pub number_lt : number_of z < Choices.cells a.lengths mask
    number_lt = rw cells_along (place_lt g.axes 0 fits)

    pub number_position : (d : ℕ) → d < g.axes → gathered_position a.lengths g mask (number_of z) d ≡ z d
    unfolding gathered_position cell_position
    number_position d r =
        let l = ok.order_lt d r in
        ap (λ n. position (kept_length a.lengths mask) n 0 (number_of z) (g.order d)) (sym axes_length)
        ∙ position_cong (kept_length a.lengths mask) (kept_along g Y) g.axes 0 (number_of z) (g.order d) (λ k l r. along k (omega arith))
        ∙ position_place g.axes 0 (g.order d) fits (omega arith) (omega arith)
        ∙ ap z (ok.rank_order d r)

  -- and back
  pub position_number : (c : ℕ) → c < Choices.cells a.lengths mask → number_of (gathered_position a.lengths g mask c) ≡ c
  unfolding gathered_position cell_position
  position_number c h =
      place_cong g.axes 0 (λ x l r. sym (along x (omega arith))) (λ x l r. ap (position (kept_length a.lengths mask) (length a.lengths) 0 c) (ok.order_rank x (omega arith)))
      ∙ ap (λ n. place (kept_length a.lengths mask) (position (kept_length a.lengths mask) (length a.lengths) 0 c) n 0) axes_length
      ∙ place_position (kept_length a.lengths mask) (length a.lengths) 0 c (unfold Choices.cells in h)

  -- ---- a lead's box

  module _ (b : ℕ) (on : b < boards g) (t : lead g Y b ≡ true) where
    -- extents and strides in slots, and where the lead's first cell stands in the result
    pub record LeadBox (E T : List ℕ) (at : ℕ) : Type 0 where
      pub extents : (d : ℕ) → d < g.axes → get_or E d 0 ≡ box g Y b d
      pub strides : (d : ℕ) → d < g.axes → get_or T d 0 ≡ cell_stride g Y d
      pub first : at ≡ sum_n g.axes (λ d. g.start d (label g b d) * cell_stride g Y d)

    module _ (x : ℕ → ℕ) (w : Within g.axes (box g Y b) x) where
      below : (d : ℕ) → d < g.axes → x d < extent g b d
      below d r =
          by (has Y d)
          (λ s. let u : x d < 1 = (unfold box in rw (kept_has (extent g b) Y d s) at (w d r)) in let v = ok.rising d (label g b d) r (label_lt g ok b d on r) in unfold extent in omega arith)
          (λ s. (unfold box in rw (kept_out (extent g b) Y d s) at (w d r)))

      holds : (d : ℕ) → d < g.axes → Holds g d (global g b x d) (label g b d) (g.parts d)
      unfolding global
      holds d r = let u : x d < g.start d (suc (label g b d)) - g.start d (label g b d) = (unfold extent in below d r) in record { below = label_lt g ok b d on r; from = omega arith; to = omega arith }

      pub global_kept : Within g.axes (kept Y g.len) (global g b x)
      global_kept d r =
          by (has Y d)
          (λ s. rw (kept_has g.len Y d s) (let u : x d < 1 = (unfold box in rw (kept_has (extent g b) Y d s) at (w d r)) in let l = lead_label_lem g Y b d t s in let f = ok.first d r in unfold global in (rw (l, f) (omega arith))))
          (λ s. rw (kept_out g.len Y d s) (let h = (holds d r).to in let e = start_le g ok d (suc (label g b d)) r (label_lt g ok b d on r) in omega arith))

      global_len : Within g.axes g.len (global g b x)
      global_len d r = let h = (holds d r).to in let e = start_le g ok d (suc (label g b d)) r (label_lt g ok b d on r) in omega arith

      pub own_portion : (d : ℕ) → d < g.axes → portion_of g d (global g b x d) ≡ label g b d
      own_portion d r = one_portion g ok d (global g b x d) _ _ r (portion_holds g ok d (global g b x d) r (global_len d r)) (holds d r)

      pub own_local : (d : ℕ) → d < g.axes → local g (global g b x) d ≡ x d
      unfolding local
      own_local d r = rw (own_portion d r) (unfold global in omega arith)

      pub own_owner : owner g (global g b x) ≡ b
      unfolding owner
      own_owner = place_cong g.axes 0 (λ i l r. refl) (λ i l r. own_portion i (omega arith)) ∙ (unfold label in place_position g.parts g.axes 0 b (unfold boards in on))

    module _ {E T : List ℕ} {at : ℕ} (r : LeadBox E T at) where
      same_box : (k : ℕ) → 0 ≤ k → k < 0 + g.axes → get_or E k 0 ≡ box g Y b k
      same_box k l u = r.extents k (omega arith)

      pub box_size_lem : box_size E g.axes 0 ≡ cells g Y b
      unfolding box_size cells
      box_size_lem = product_cong g.axes 0 same_box

      -- cell q of the lead stands at the number of its positions
      pub cell_number : (x : ℕ → ℕ) → Within g.axes (box g Y b) x → at + offset E T g.axes 0 (place (box g Y b) x g.axes 0) ≡ number_of (global g b x)
      cell_number x w =
          let q = place (box g Y b) x g.axes 0 in
          let one : (i : ℕ) → i < g.axes → position (λ k. get_or E k 0) g.axes 0 q (0 + i) * get_or T (0 + i) 0 ≡ x i * cell_stride g Y i =
          λ i h. ap₂ ◌*◌ (ap (position (λ k. get_or E k 0) g.axes 0 q) (zero-add i) ∙ position_cong (λ k. get_or E k 0) (box g Y b) g.axes 0 q i same_box ∙ position_place g.axes 0 i (λ k l u. w k (omega arith)) (omega arith) (omega arith)) (ap (λ k. get_or T k 0) (zero-add i) ∙ r.strides i h) in
          ap₂ ◌+◌ r.first (offset_sum E T g.axes 0 q ∙ sum_n_cong g.axes one)
          ∙ sym (sum_n_add g.axes (λ d. g.start d (label g b d) * cell_stride g Y d) (λ d. x d * cell_stride g Y d))
          ∙ sum_n_cong g.axes (λ d h. sym (sum_up d))
          ∙ sym (formula (global g b x))
        where
          sum_up : (d : ℕ) → global g b x d * cell_stride g Y d ≡ g.start d (label g b d) * cell_stride g Y d + x d * cell_stride g Y d
          sum_up d = unfold global in add-mul (g.start d (label g b d)) (x d) (cell_stride g Y d)

          formula : (z : ℕ → ℕ) → number_of z ≡ sum_n g.axes (λ d. z d * cell_stride g Y d)
          formula z = unfold cell_stride in place_formula a sound (kept_along g Y) z

      -- the positions of cell q
      abbrev at_cell : ℕ → ℕ → ℕ
      at_cell q = position (box g Y b) g.axes 0 q

      inside : (q : ℕ) → q < cells g Y b → Within g.axes (box g Y b) (at_cell q)
      inside q h d u = position_lt (box g Y b) g.axes 0 q d (unfold cells in h) (omega arith) (omega arith)

      spot : (q : ℕ) → q < cells g Y b → at + offset E T g.axes 0 q ≡ number_of (global g b (at_cell q))
      spot q h = ap (λ q. at + offset E T g.axes 0 q) (sym (place_position (box g Y b) g.axes 0 q (unfold cells in h))) ∙ cell_number (at_cell q) (inside q h)

      pub spot_lt : (q : ℕ) → q < cells g Y b → at + offset E T g.axes 0 q < Choices.cells a.lengths mask
      spot_lt q h = rw (spot q h) (number_lt (global g b (at_cell q)) (global_kept (at_cell q) (inside q h)))

      -- the positions of the place where it stands are its positions
      spot_position : (q : ℕ) → q < cells g Y b → (d : ℕ) → d < g.axes → gathered_position a.lengths g mask (at + offset E T g.axes 0 q) d ≡ global g b (at_cell q) d
      spot_position q h d u = ap (λ c. gathered_position a.lengths g mask c d) (spot q h) ∙ number_position (global g b (at_cell q)) (global_kept (at_cell q) (inside q h)) d u

      owner_same : (z z' : ℕ → ℕ) → ((d : ℕ) → d < g.axes → z d ≡ z' d) → owner g z ≡ owner g z'
      unfolding owner
      owner_same z z' e = place_cong g.axes 0 (λ i l u. refl) (λ i l u. ap (portion_of g i) (e i (omega arith)))

      -- so the lead is the owner of the place
      pub spot_owner : (q : ℕ) → q < cells g Y b → owner g (gathered_position a.lengths g mask (at + offset E T g.axes 0 q)) ≡ b
      spot_owner q h = owner_same _ _ (spot_position q h) ∙ own_owner (at_cell q) (inside q h)

      pub own_within : (c : ℕ) → c < Choices.cells a.lengths mask → owner g (gathered_position a.lengths g mask c) ≡ b → Within g.axes (box g Y b) (local g (gathered_position a.lengths g mask c))
      own_within c h e d u = rw (sym e) (owner_within g ok (gathered_position a.lengths g mask c) (gathered_within a sound Y c h) Y (gathered_flat a sound Y c h) d u)

      -- and each place that it owns is one of these
      pub own_cell : (c : ℕ) → c < Choices.cells a.lengths mask → owner g (gathered_position a.lengths g mask c) ≡ b → c ≡ at + offset E T g.axes 0 (place (box g Y b) (local g (gathered_position a.lengths g mask c)) g.axes 0)
      own_cell c h e =
          let z : ℕ → ℕ = gathered_position a.lengths g mask c in
          let gw = gathered_within a sound Y c h in
          sym (position_number c h)
          ∙ place_cong g.axes 0 (λ i l u. refl) (λ i l u. sym (owner_global g ok z gw (g.rank i) (ok.rank_lt i (omega arith))) ∙ ap (λ b. global g b (local g z) (g.rank i)) e)
          ∙ sym (cell_number (local g z) (own_within c h e))

      local_same : (z z' : ℕ → ℕ) (d : ℕ) → z d ≡ z' d → local g z d ≡ local g z' d
      unfolding local
      local_same z z' d e = ap (λ v. v - g.start d (portion_of g d v)) e

      -- the cell of the lead that a place shows
      abbrev back : ℕ → ℕ
      back c = place (box g Y b) (local g (gathered_position a.lengths g mask c)) g.axes 0

      spot_back : (q : ℕ) → q < cells g Y b → back (at + offset E T g.axes 0 q) ≡ q
      spot_back q h =
          place_cong g.axes 0 (λ i l u. refl) (λ i l u. local_same _ _ i (spot_position q h i (omega arith)) ∙ own_local (at_cell q) (inside q h) i (omega arith))
          ∙ place_position (box g Y b) g.axes 0 q (unfold cells in h)

      pub all_apart : Distinct E T g.axes 0 at
      all_apart q q' h h' e = sym (spot_back q (rw box_size_lem at h)) ∙ ap back e ∙ spot_back q' (rw box_size_lem at h')

      some_cells : 0 < cells g Y b
      unfolding cells
      some_cells = product_pos (box g Y b) g.axes 0 (λ i l u. by (has Y i)
          (λ s. (unfold box in rw (kept_has (extent g b) Y i s) (omega arith)))
          (λ s. (unfold box in rw (kept_out (extent g b) Y i s) (let v = ok.rising i (label g b i) (omega arith) (label_lt g ok b i on (omega arith)) in unfold extent in omega arith))))

      pub lead_in : (n : ℕ) → n ≡ Choices.cells a.lengths mask → g.axes ≤ length E → g.axes ≤ length T → InArray n E T g.axes 0 at
      lead_in n e le lt = record { extents = omega arith; strides = omega arith; some = rw box_size_lem some_cells; places = λ q h. rw e (spot_lt q (rw box_size_lem at h)) }

  -- ---- board by board

  abbrev due : List ℤ → ℕ → ℤ
  due work = due_at a.lengths g Y (read work)

  abbrev owns : ℕ → ℕ
  owns = owner_of a.lengths g Y

  further : (o b : ℕ) → (o ≡ b → ⊥) → ltb o b ≡ ltb o (b + 1)
  further o b ne =
      by (ltb o b)
      (λ t. let l = ltb-true o b t in t ∙ sym (lt-ltb o (b + 1) (omega arith)))
      (λ t. let l = ltb-false o b t in t ∙ sym (le-ltb o (b + 1) (let n : b < o = by (ltb b o) (λ s. ltb-true b o s) (λ s. absurd (ne (let m = ltb-false b o s in omega arith))) in omega arith)))

  module _ (b : ℕ) (on : b < boards g) (t : lead g Y b ≡ true) {E T : List ℕ} {at : ℕ} (r : LeadBox b on t E T at) (src : ℕ) (es : src ≡ index g b (last_of Y) 0) where
    -- a lead's cells are copied
    pub copy_lead : (now work : List ℤ) → length now ≡ Choices.cells a.lengths mask → g.axes ≤ length E → g.axes ≤ length T → placed now (box_size E g.axes 0) (box_place E T g.axes 0 at) (from work src) ≡ one_board a.lengths g Y b (read work) now
    unfolding one_board owner_of due_at
    copy_lead now work n le lt =
        table_of (length now) _ _ (pos 0) (put_length E T g.axes 0 at now work src)
        (λ c h. by (eqb (owns c) b) (λ s. rw s (here c (rw n at h) (eqb-true (owns c) b s))) (λ s. rw s (there c (eqb-false (owns c) b s))))
      where
        here : (c : ℕ) → c < Choices.cells a.lengths mask → owns c ≡ b → get_or (placed now (box_size E g.axes 0) (box_place E T g.axes 0 at) (from work src)) c (pos 0) ≡ due work c
        here c h e =
            let z : ℕ → ℕ = gathered_position a.lengths g mask c in
            let q : ℕ = place (box g Y b) (local g z) g.axes 0 in
            let f = own_cell b on t r c h e in
            let u : q < box_size E g.axes 0 = rw (box_size_lem b on t r) (unfold cells in place_lt g.axes 0 (λ i l u. own_within b on t r c h e i (omega arith))) in
            let p = put_at E T g.axes 0 at now work src (all_apart b on t r) (lead_in b on t r (length now) n le lt) q u in
            let y : src + q ≡ cell_at g Y b (local g z) = (unfold cell_at index in (rw es (unfold index in omega arith))) in
            ap (λ c. get_or (placed now (box_size E g.axes 0) (box_place E T g.axes 0 at) (from work src)) c (pos 0)) f ∙ p ∙ ap (read work) (y ∙ ap (λ b. cell_at g Y b (local g z)) (sym e))

        there : (c : ℕ) → (owns c ≡ b → ⊥) → get_or (placed now (box_size E g.axes 0) (box_place E T g.axes 0 at) (from work src)) c (pos 0) ≡ get_or now c (pos 0)
        there c ne = put_else E T g.axes 0 at now work src c (λ q u e. ne (ap owns e ∙ spot_owner b on t r q (rw (box_size_lem b on t r) at u)))

  -- ---- all leads, by their ranks

  module _ (down : Down Y g.axes) (old work : List ℤ) (n : length old ≡ Choices.cells a.lengths mask) where
    -- the rank of the board that has cell c
    abbrev ranked : ℕ → ℕ
    ranked c = rank_of g Y (owns c)

    abbrev cell_to : ℕ → ℕ → ℤ
    cell_to r c = pick (ltb (ranked c) r) (due work c) (get_or old c (pos 0))

    owns_lead : (c : ℕ) → c < length old → lead g Y (owns c) ≡ true
    unfolding owner_of
    owns_lead c u = let h : c < Choices.cells a.lengths mask = (rw n at u) in owner_leads g ok (gathered_position a.lengths g mask c) (gathered_within a sound Y c h) Y (gathered_flat a sound Y c h) Y down (gathered_flat a sound Y c h)

    owns_lt : (c : ℕ) → c < length old → owns c < boards g
    unfolding owner_of
    owns_lt c u = let h : c < Choices.cells a.lengths mask = (rw n at u) in owner_lt g ok (gathered_position a.lengths g mask c) (gathered_within a sound Y c h)

    pub copy_begin : old ≡ leads_to a.lengths g Y 0 (read work) old
    unfolding leads_to
    copy_begin = table_of (length old) _ old (pos 0) refl (λ c h. sym (ap (λ t. pick t (due work c) (get_or old c (pos 0))) (le-ltb (ranked c) 0 (omega arith))))

    pub copy_length : (r : ℕ) → length (leads_to a.lengths g Y r (read work) old) ≡ length old
    unfolding leads_to
    copy_length r = table_length (length old) 0 _

    pub copy_turn : (r : ℕ) → r < leads g Y → one_board a.lengths g Y (lead_at g Y r) (read work) (leads_to a.lengths g Y r (read work) old) ≡ leads_to a.lengths g Y (r + 1) (read work) old
    unfolding one_board leads_to
    copy_turn r below =
        ap (λ n. table n (λ c. pick (eqb (owns c) (lead_at g Y r)) (due work c) (get_or (table (length old) (cell_to r)) c (pos 0)))) (table_length (length old) 0 (cell_to r))
        ∙ table_same (length old) (λ c. pick (eqb (owns c) (lead_at g Y r)) (due work c) (get_or (table (length old) (cell_to r)) c (pos 0))) (cell_to (r + 1)) each
      where
        same : (c : ℕ) → owns c ≡ lead_at g Y r → ranked c ≡ r
        same c e = ap (rank_of g Y) e ∙ rank_at g ok Y down r below

        other : (c : ℕ) → c < length old → (owns c ≡ lead_at g Y r → ⊥) → ranked c ≡ r → ⊥
        other c h ne e = ne (sym (at_rank g ok Y down (owns c) (owns_lt c h) (owns_lead c h)) ∙ ap (lead_at g Y) e)

        each : (c : ℕ) → c < length old → pick (eqb (owns c) (lead_at g Y r)) (due work c) (get_or (table (length old) (cell_to r)) c (pos 0)) ≡ cell_to (r + 1) c
        each c h =
            by (eqb (owns c) (lead_at g Y r))
            (λ s. ap (λ t. pick t (due work c) (get_or (table (length old) (cell_to r)) c (pos 0))) s ∙ ap (λ t. pick t (due work c) (get_or old c (pos 0))) (sym (lt-ltb (ranked c) (r + 1) (let e = same c (eqb-true (owns c) (lead_at g Y r) s) in omega arith))))
            (λ s. ap (λ t. pick t (due work c) (get_or (table (length old) (cell_to r)) c (pos 0))) s ∙ table_at (length old) 0 (cell_to r) c (pos 0) h ∙ ap (cell_to r) (zero-add c) ∙ ap (λ t. pick t (due work c) (get_or old c (pos 0))) (further (ranked c) r (other c h (eqb-false (owns c) (lead_at g Y r) s))))

    -- all leads copied: the gathered choice
    pub copy_end : (r : ℕ) → leads g Y ≤ r → leads_to a.lengths g Y r (read work) old ≡ gathered a.lengths g Y (read work)
    unfolding leads_to gathered due_at owner_of
    copy_end r h =
        ap (λ n. table n (cell_to r)) n
        ∙ table_same (Choices.cells a.lengths mask) (cell_to r) _ (λ c u. ap (λ t. pick t (due work c) (get_or old c (pos 0))) (lt-ltb (ranked c) r (let v : c < length old = (rw (sym n) at u) in let o = rank_lt g ok Y down (owns c) (owns_lt c v) (owns_lead c v) in omega arith)))
