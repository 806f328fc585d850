-- What is gathered and viewed after a finish are the choice's totals.
use Prim.Native.Nat.{ℕ, zero, suc, ◌+◌, ◌*◌, ◌≤◌, ◌<◌}
use mathlib.Core.Path.{◌≡◌, sym, ◌∙◌, refl, ap}
use mathlib.Core.Bool.{true}
use mathlib.Core.List.{List, [], ◌∷◌}
use native.Mathlib.Nat.{zero-add, suc-mul, mul-le-mul, le_refl}
use native.Mathlib.Omega.{arith}
use borrow.Author.Tests.{leb-true, leb-false}
use lib.Dec.{eqb, leb}
use lib.ListN.{length, take, drop, length-drop}
use lib.Seq.{length-take-le, get_or-take, get_or-drop}
use lib.IntN.{ℤ, pos}
use Rattle.cube_spec.specs.Boxes.{table, position, Within}
use Rattle.cube_spec.specs.Choices as Choices
use Rattle.cube_spec.specs.Choices.{kept_length, cell_position, total}
use Rattle.cube_spec.specs.Tree.{has, kept}
use Rattle.cube_spec.proofs.Sums.{by}
use Rattle.cube_spec.proofs.Boxing.{place_lt, position_place, position_lt, place_position}
use Rattle.cube_spec.proofs.Sets.{Down, down_up, has_head, kept_has, kept_out}
use Rattle.cube_spec.proofs.Tables.{table_length, table_at, table_of}
use Rattle.plan_spec.specs.Plans.{PlanLists, Sound}
use Rattle.rack_spec.specs.Grids.{Grid, Lawful, grid_of, mask_of, boards, label, lead, extent, box, cells, global, share, index, cell_at}
use Rattle.rack_spec.proofs.Lawful.{grid_lawful}
use Rattle.rack_spec.proofs.Boards.{cells_fit}
use Rattle.cell_spec.specs.Wrapped.{wrapped}
use Rattle.run_spec.specs.Memory.{read}
use Rattle.run_spec.specs.Gather.{portion_from, portion_of, owner, local, gathered_position, gathered, viewed}
use Rattle.run_spec.proofs.Memory.{region_in}
use Rattle.run_spec.proofs.Totals.{Law, total_at, total_cong, totals_law, order_of_rank, order_below, order_length, keeps_order}
use Rattle.run_spec.proofs.Runs.{Final, start_le}

-- ---- the board that holds a position

-- v lies in portion l of axis d
pub record Holds (g : Grid) (d v l n : ℕ) : Type 0 where
  pub below : l < n
  pub from : g.start d l ≤ v
  pub to : v < g.start d (suc l)

module _ (g : Grid) (ok : Lawful g) where
  portion_from_lem : (d v : ℕ) → d < g.axes → (n : ℕ) → v < g.start d n → Holds g d v (portion_from g d v n) n
  unfolding portion_from
  portion_from_lem d v r zero h = absurd (let q = ok.first d r in omega arith)
  portion_from_lem d v r (suc n) h =
      by (leb (g.start d n) v)
      (λ t. let k = leb-true (g.start d n) v t in rw t (record { below = omega arith; from = k; to = h }))
      (λ t. let k = portion_from_lem d v r n (leb-false (g.start d n) v t) in rw t (record { below = omega (arith, k.below); from = k.from; to = k.to }))

  pub portion_holds : (d v : ℕ) → d < g.axes → v < g.len d → Holds g d v (portion_of g d v) (g.parts d)
  unfolding portion_of
  portion_holds d v r h = portion_from_lem d v r (g.parts d) (rw (ok.last d r) h)

  portion_zero : (d : ℕ) → d < g.axes → 0 < g.len d → portion_of g d 0 ≡ 0
  portion_zero d r h = go (portion_of g d 0) (portion_holds d 0 r h)
    where
      go : (l : ℕ) → Holds g d 0 l (g.parts d) → l ≡ 0
      go zero p = refl
      go (suc l) p = absurd (let q = ok.rising d l r (let b = p.below in omega arith) in let f = p.from in omega arith)

  module _ (z : ℕ → ℕ) (w : Within g.axes g.len z) where
    labels_fit : (i : ℕ) → 0 ≤ i → i < 0 + g.axes → portion_of g i (z i) < g.parts i
    labels_fit i _ r = (portion_holds i (z i) (omega arith) (w i (omega arith))).below

    pub owner_lt : owner g z < boards g
    unfolding owner boards
    owner_lt = place_lt g.axes 0 labels_fit

    pub owner_label : (d : ℕ) → d < g.axes → label g (owner g z) d ≡ portion_of g d (z d)
    unfolding owner label
    owner_label d r = position_place g.axes 0 d labels_fit (omega arith) (omega arith)

    pub owner_global : (d : ℕ) → d < g.axes → global g (owner g z) (local g z) d ≡ z d
    unfolding global local
    owner_global d r = let p = (portion_holds d (z d) r (w d r)).from in rw (owner_label d r) (omega arith)

    module _ (Y : List ℕ) (flat : (d : ℕ) → d < g.axes → has Y d ≡ true → z d ≡ 0) where
      pub owner_leads : (Z : List ℕ) → Down Z g.axes → ((d : ℕ) → d < g.axes → has Z d ≡ true → z d ≡ 0) → lead g Z (owner g z) ≡ true
      unfolding lead
      owner_leads [] q f = refl
      owner_leads (j ∷ Z) q f =
          let r = q.0 in
          let e : z j ≡ 0 = f j r (has_head j Z) in
          let u : 0 < g.len j = (let v = w j r in omega arith) in
          let l : label g (owner g z) j ≡ 0 = owner_label j r ∙ ap (portion_of g j) e ∙ portion_zero j r u in
          rw l (owner_leads Z (down_up Z j g.axes (omega arith) q.1) (λ d s t. f d s (more j d Z t)))
        where
          more : (j d : ℕ) (Z : List ℕ) → has Z d ≡ true → has (j ∷ Z) d ≡ true
          more j d Z t = unfold has in (by (eqb d j) (λ s. rw s) (λ s. rw s t))

      pub owner_within : Within g.axes (box g Y (owner g z)) (local g z)
      unfolding box kept local
      owner_within d r =
          let p = portion_holds d (z d) r (w d r) in
          by (has Y d)
          (λ t. let e = flat d r t in rw t (omega arith))
          (λ t. rw t (unfold extent in (let a = p.from in let b = p.to in rw (owner_label d r) (omega arith))))

      pub owner_total : (array : ℕ → ℤ) (T : List ℕ → (ℕ → ℕ) → ℤ) → Law g array T → (work : ℕ → ℤ) → Down Y g.axes → Final g T Y work → work (cell_at g Y (owner g z) (local g z)) ≡ wrapped (T Y z)
      unfolding Final
      owner_total array T law work q f =
          f (owner g z) (local g z) owner_lt (owner_leads Y q flat) owner_within ∙ ap wrapped (law.alike Y _ _ (λ d r _. owner_global d r))

  len_pos : (d : ℕ) → d < g.axes → 0 < g.len d
  len_pos d r =
      let p = ok.rising d 0 r (ok.some d r) in
      let q = start_le g ok d 1 r (ok.some d r) in
      omega arith

pub table_same : (n : ℕ) (f h : ℕ → ℤ) → ((c : ℕ) → c < n → f c ≡ h c) → table n f ≡ table n h
table_same n f h e = table_of n h (table n f) (pos 0) (table_length n 0 f) (λ c r. table_at n 0 f c (pos 0) r ∙ ap f (zero-add c) ∙ e c r)

-- ---- viewing

module _ (g : Grid) (ok : Lawful g) (T : List ℕ → (ℕ → ℕ) → ℤ) (Y : List ℕ) (j b : ℕ) (r : j < g.axes) (h : b < boards g) (t : lead g (j ∷ Y) b ≡ true) (work : List ℤ) (fits : boards g * share g ≤ length work) where
  view_fits : index g b j 0 + cells g (j ∷ Y) b ≤ length work
  unfolding index
  view_fits =
      let p = cells_fit g ok Y b j h in
      let q = region_in g j r in
      let s : suc b * share g ≤ boards g * share g = mul-le-mul h (le_refl (share g)) in
      let u = suc-mul b (share g) in
      omega arith

  -- cell c stands where its positions say
  view_cell : (c : ℕ) → c < cells g (j ∷ Y) b → cell_at g (j ∷ Y) b (position (box g (j ∷ Y) b) g.axes 0 c) ≡ index g b j 0 + c
  unfolding cell_at cells index
  view_cell c k = rw (place_position (box g (j ∷ Y) b) g.axes 0 c k) (omega arith)

  -- THE VIEW: a lead's part of the choice, row-major in plan order over its own extents
  pub view_exact : Final g T (j ∷ Y) (read work) → viewed g (j ∷ Y) b work ≡ table (cells g (j ∷ Y) b) (λ c. wrapped (T (j ∷ Y) (global g b (position (box g (j ∷ Y) b) g.axes 0 c))))
  unfolding viewed Final
  view_exact f =
      let n = cells g (j ∷ Y) b in
      let k = index g b j 0 in
      let l : n ≤ length (drop k work) = rw length-drop (let q = view_fits in omega arith) in
      rw t (table_of n _ (take n (drop k work)) (pos 0) (length-take-le n (drop k work) l) (λ c u. get_or-take n (drop k work) c (pos 0) u ∙ get_or-drop k work c (pos 0) ∙ ap (read work) (sym (view_cell c u)) ∙ f b _ h t (λ d v. position_lt (box g (j ∷ Y) b) g.axes 0 c d (unfold cells in u) (omega arith) (omega arith))))

-- ---- gathering

module _ (a : PlanLists) (sound : Sound a) (Y : List ℕ) where
  abbrev g : Grid
  g = grid_of a

  ok : Lawful g
  ok = grid_lawful a sound

  abbrev mask : ℕ
  mask = mask_of g Y

  -- a cell's position is below the length of its axis, and 0 on a summed one
  pub kept_order : (d : ℕ) → d < g.axes → kept_length a.lengths mask (g.order d) ≡ kept Y g.len d
  unfolding kept_length kept
  kept_order d r = by (has Y d) (λ t. rw (keeps_order a sound Y d r, t)) (λ t. rw (keeps_order a sound Y d r, t) (order_length a sound d r))

  pub gathered_lt : (c : ℕ) → c < Choices.cells a.lengths mask → (d : ℕ) → d < g.axes → gathered_position a.lengths g mask c d < kept Y g.len d
  unfolding Choices.cells gathered_position cell_position
  gathered_lt c h d r =
      let l = order_below a sound d r in
      rw (kept_order d r) at (position_lt (kept_length a.lengths mask) (length a.lengths) 0 c (g.order d) h (omega arith) (omega arith))

  module _ (c : ℕ) (h : c < Choices.cells a.lengths mask) where
    pub gathered_within : Within g.axes g.len (gathered_position a.lengths g mask c)
    gathered_within d r = let s = gathered_lt c h d r in let p = len_pos g ok d r in go s p
      where
        go : gathered_position a.lengths g mask c d < kept Y g.len d → 0 < g.len d → gathered_position a.lengths g mask c d < g.len d
        go s p = by (has Y d) (λ t. let u = (rw (kept_has g.len Y d t) at s) in omega arith) (λ t. (rw (kept_out g.len Y d t) at s))

    pub gathered_flat : (d : ℕ) → d < g.axes → has Y d ≡ true → gathered_position a.lengths g mask c d ≡ 0
    gathered_flat d r t = let s = (rw (kept_has g.len Y d t) at (gathered_lt c h d r)) in omega arith

    -- positions by place and back are the positions by axis
    pub gathered_total : (array : ℕ → ℤ) → total_at a array Y (gathered_position a.lengths g mask c) ≡ total a.lengths array mask (cell_position a.lengths mask c)
    unfolding total_at gathered_position
    gathered_total array = total_cong a.lengths array mask _ _ (λ d r _. ap (cell_position a.lengths mask c) (order_of_rank a sound d r))

  -- THE GATHERED CHOICE: its totals, row-major in axis order
  pub gather_exact : (array work : ℕ → ℤ) → Down Y g.axes → Final g (total_at a array) Y work → gathered a.lengths g Y work ≡ table (Choices.cells a.lengths mask) (λ c. wrapped (total a.lengths array mask (cell_position a.lengths mask c)))
  unfolding gathered
  gather_exact array work q f =
      table_same (Choices.cells a.lengths mask) _ _ (λ c h. owner_total g ok (gathered_position a.lengths g mask c) (gathered_within c h) Y (gathered_flat c h) array (total_at a array) (totals_law a sound array) work q f ∙ ap wrapped (gathered_total c h array))
