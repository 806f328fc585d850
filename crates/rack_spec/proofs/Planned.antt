-- An accepted plan's grid as the code reads it from the plan's slots, and boards by their labels.
use Prim.Native.Nat.{ℕ, zero, suc, ◌+◌, ◌-◌, ◌*◌, ◌/◌, ◌%◌, ◌≤◌, ◌<◌, min}
use mathlib.Core.Path.{◌≡◌, sym, ◌∙◌, refl, ap, ap₂, fun_ext}
use mathlib.Core.Bool.{Bool, true, false, ◌||◌, not}
use mathlib.Core.List.{List, [], ◌∷◌}
use native.Mathlib.Nat.{zero-add, sub-zero, one-mul, mul_comm, div-div-eq-div-mul, div-one, le_refl, mul-le-mul}
use native.Mathlib.Omega.{arith}
use lib.Dec.{eqb}
use lib.ListN.{length, get_or, set}
use lib.Seq.{get_or-take, get_or-set_same, get_or-set_other}
use borrow.Author.Tests.{eqb-true, eqb-false, eq-eqb, ne_eqb}
use Rattle.cube_spec.specs.Limits.{axis_limit, length_limit, point_limit, padded}
use Rattle.cube_spec.specs.Boxes.{table, product, place, position}
use Rattle.cube_spec.specs.Choices.{keeps, full_mask, points, length_of}
use Rattle.cube_spec.specs.Tree as Tree
use Rattle.cube_spec.specs.Tree.{has, kept, next}
use Rattle.cube_spec.proofs.Sums.{by}
use Rattle.cube_spec.proofs.Naturals.{clash}
use Rattle.cube_spec.proofs.Slots.{slots_table}
use Rattle.cube_spec.proofs.Boxing.{place_cong, place_lt, position_place, position_lt, place_position}
use Rattle.cube_spec.proofs.Products.{product_append, product_last, product_next, product_none, product_pos, product_le}
use Rattle.cube_spec.proofs.Sets.{Down, down_up, down_lt, kept_has, kept_out}
use Rattle.plan_spec.specs.Plans.{lists_of, most_at}
use Rattle.plan_spec.specs.declared.types.Plan.{Plan}
use Rattle.plan_spec.specs.Accepted.{Accepted}
use Rattle.plan_spec.proofs.Orders.{order_below, product_order}
use Rattle.plan_spec.proofs.PricingLaws.{along, few_axes}
use Rattle.rack_spec.specs.Grids.{Grid, Lawful, grid_of, set_of, summed_by, summed, boards, board_with, label, lead, extent, box, cells, share, region_start, index}
use Rattle.rack_spec.specs.Finding.{plan_grid, summed_in, leads, lead_label, Labels}
use Rattle.rack_spec.proofs.Tallied.{lawful, axes_same, boards_few}
use Rattle.rack_spec.proofs.Finishing.{set_has}
use Rattle.rack_spec.proofs.Boards.{label_lt}
use Rattle.rack_spec.proofs.Masks.{not_not, set_mask, root_mask}
use Rattle.rack_spec.proofs.Moving.{lead_each, lead_none}
use Rattle.rack_spec.proofs.Around.{inner, place_append, position_formula}

pub place_last : (e x : ℕ → ℕ) (m : ℕ) → place e x (m + 1) 0 ≡ place e x m 0 * e m + x m
place_last e x m = place_append e x m 1 0 ∙ (unfold place product in (let z : 0 + m ≡ m = zero-add m in rw z (omega arith)))

-- what a choice keeps, by its mask and by its set
module _ (g : Grid) (mask d : ℕ) (h : d < g.axes) where
  pub summed_has : has (summed g mask) d ≡ not (keeps mask (g.order d))
  unfolding summed
  summed_has = set_has (summed_by g mask) g.axes d h ∙ (unfold summed_by in refl)

  pub kept_not : keeps mask (g.order d) ≡ true → has (summed g mask) d ≡ false
  kept_not t = summed_has ∙ ap not t

  pub summed_is : keeps mask (g.order d) ≡ false → has (summed g mask) d ≡ true
  summed_is t = summed_has ∙ ap not t

pub inner_from : (e : ℕ → ℕ) (n d : ℕ) → inner e n 0 d ≡ product e (n - (d + 1)) (d + 1)
unfolding inner
inner_from e n d = let z : 0 + n - suc d ≡ n - (d + 1) = omega arith in let y : suc d ≡ d + 1 = omega arith in ap₂ (product e) z y

-- ---- ranks of leads, read from the last axis on

module _ (g : Grid) (Y : List ℕ) (r d : ℕ) (h : d < g.axes) (k : r < leads g Y) where
  abbrev after : ℕ
  after = product (kept Y g.parts) (g.axes - (d + 1)) (d + 1)

  field : lead_label g Y r d ≡ r / after % kept Y g.parts d
  unfolding lead_label leads
  field = position_formula g.axes d h (kept Y g.parts) r k ∙ ap (λ x. r / x % kept Y g.parts d) (inner_from (kept Y g.parts) g.axes d)

  one_further : r / after / kept Y g.parts d ≡ r / product (kept Y g.parts) (g.axes - d) d
  one_further = div-div-eq-div-mul r after (kept Y g.parts d) ∙ ap (λ x. r / x) (mul_comm after (kept Y g.parts d) ∙ sym (product_next (kept Y g.parts) g.axes d h))

  pub rank_kept : has Y d ≡ false → (r / after % g.parts d ≡ lead_label g Y r d) × (r / after / g.parts d ≡ r / product (kept Y g.parts) (g.axes - d) d)
  rank_kept t =
      let e = kept_out g.parts Y d t in
      (sym (field ∙ ap (λ x. r / after % x) e), ap (λ x. r / after / x) (sym e) ∙ one_further)

  pub rank_summed : has Y d ≡ true → (0 ≡ lead_label g Y r d) × (r / after ≡ r / product (kept Y g.parts) (g.axes - d) d)
  rank_summed t =
      let e = kept_has g.parts Y d t in
      let l : lead_label g Y r d < kept Y g.parts d = (unfold lead_label in position_lt (kept Y g.parts) g.axes 0 r d (unfold leads in k) (omega arith) (omega arith)) in
      (omega arith, ap (λ x. r / x) (sym (product_next (kept Y g.parts) g.axes d h ∙ ap (λ x. x * after) e ∙ one-mul after)))

-- some factors of a product
pub part_le : (e : ℕ → ℕ) (n m first : ℕ) → ((i : ℕ) → i < n → 0 < e i) → first + m ≤ n → product e m first ≤ product e n 0
part_le e n m first some h =
    let z : n ≡ first + (m + (n - (first + m))) = omega arith in
    let p = product_pos e first 0 (λ i l r. some i (omega arith)) in
    let s = product_pos e (n - (first + m)) (first + m) (λ i l r. some i (omega arith)) in
    let q : product e n 0 ≡ product e first 0 * (product e m first * product e (n - (first + m)) (first + m)) =
    ap (λ n. product e n 0) z ∙ product_append e first (m + (n - (first + m))) 0 ∙ ap (λ x. product e first 0 * x) (ap (product e (m + (n - (first + m)))) (zero-add first) ∙ product_append e m (n - (first + m)) first) in
    let t = mul-le-mul {n₁ = product e m first} {m₁ = 1} {n₂ = product e m first} {m₂ = product e (n - (first + m)) (first + m)} (le_refl _) s in
    let u = mul-le-mul {n₁ = 1} {m₁ = product e m first * product e (n - (first + m)) (first + m)} {n₂ = product e first 0} {m₂ = product e m first * product e (n - (first + m)) (first + m)} p (le_refl _) in
    omega arith

-- ---- portions

module _ (g : Grid) (ok : Lawful g) (d : ℕ) (h : d < g.axes) where
  back_from_end : (k : ℕ) → k ≤ g.parts d → g.start d (g.parts d - k) ≤ g.len d
  back_from_end zero r = let e = ok.last d h in let z : g.parts d - 0 ≡ g.parts d = omega arith in rw (z, e) (le_refl (g.len d))
  back_from_end (suc k) r =
      let a = ok.rising d (g.parts d - suc k) h (omega arith) in
      let b = back_from_end k (omega arith) in
      let z : suc (g.parts d - suc k) ≡ g.parts d - k = omega arith in
      let c : g.start d (suc (g.parts d - suc k)) ≡ g.start d (g.parts d - k) = ap (g.start d) z in
      omega arith

  pub start_inside : (l : ℕ) → l ≤ g.parts d → g.start d l ≤ g.len d
  start_inside l r =
      let z : g.parts d - (g.parts d - l) ≡ l = omega arith in
      rw z at (back_from_end (g.parts d - l) (omega arith))

-- ---- boards with given labels

module _ (g : Grid) (ok : Lawful g) (x : ℕ → ℕ) (fits : (d : ℕ) → d < g.axes → x d < g.parts d) where
  inside : (i : ℕ) → 0 ≤ i → i < 0 + g.axes → x i < g.parts i
  inside i _ r = fits i (omega arith)

  pub label_with : (d : ℕ) → d < g.axes → label g (board_with g x) d ≡ x d
  unfolding label board_with
  label_with d h = position_place g.axes 0 d inside (omega arith) (omega arith)

  pub board_with_lem : board_with g x < boards g
  unfolding board_with boards
  board_with_lem = place_lt g.axes 0 inside

  -- the first m labels
  pub prefix_lt : (m : ℕ) → m ≤ g.axes → place g.parts x m 0 < boards g
  unfolding boards
  prefix_lt m h =
      let a : place g.parts x m 0 < product g.parts m 0 = place_lt m 0 (λ i _ r. fits i (omega arith)) in
      let b : g.axes ≡ m + (g.axes - m) = omega arith in
      let c = product_append g.parts m (g.axes - m) 0 in
      let e : product g.parts g.axes 0 ≡ product g.parts m 0 * product g.parts (g.axes - m) (0 + m) = ap (λ n. product g.parts n 0) b ∙ c in
      let s = product_pos g.parts (g.axes - m) (0 + m) (λ i l r. ok.some i (omega arith)) in
      let t = mul-le-mul {n₁ = product g.parts m 0} {m₁ = 1} {n₂ = product g.parts m 0} {m₂ = product g.parts (g.axes - m) (0 + m)} (le_refl _) s in
      omega arith

-- a board is the one with its labels
pub board_labels : (g : Grid) (b : ℕ) → b < boards g → board_with g (label g b) ≡ b
unfolding board_with label boards
board_labels g b h = place_position g.parts g.axes 0 b h

pub board_same : (g : Grid) (x y : ℕ → ℕ) → ((d : ℕ) → d < g.axes → x d ≡ y d) → board_with g x ≡ board_with g y
unfolding board_with
board_same g x y h = place_cong g.axes 0 (λ i l r. refl) (λ i l r. h i (omega arith))

-- ---- cells, axis by axis

pub cells_next : (g : Grid) (Y : List ℕ) (b first d : ℕ) → first ≤ d → product (box g Y b) (d - first) first * box g Y b d ≡ product (box g Y b) (d + 1 - first) first
cells_next g Y b first d l =
    let z : d + 1 - first ≡ d - first + 1 = omega arith in
    let y : first + (d - first) ≡ d = omega arith in
    sym (ap (λ n. product (box g Y b) n first) z ∙ product_last (box g Y b) (d - first) first ∙ ap (λ x. product (box g Y b) (d - first) first * box g Y b x) y)

module _ (g : Grid) (ok : Lawful g) (Y : List ℕ) (b : ℕ) (in-rack : b < boards g) where
  -- they are no more than the points
  extent_inside : (d : ℕ) → d < g.axes → extent g b d ≤ g.len d
  unfolding extent
  extent_inside d h = let s = start_inside g ok d h (suc (label g b d)) (label_lt g ok b d in-rack h) in omega arith

  len_some : (d : ℕ) → d < g.axes → 1 ≤ g.len d
  len_some d h =
      let a = ok.rising d 0 h (ok.some d h) in
      let b = start_inside g ok d h 1 (ok.some d h) in
      omega arith

  box_inside : (d : ℕ) → d < g.axes → box g Y b d ≤ g.len d
  unfolding box
  box_inside d h = by (has Y d) (λ t. rw (kept_has (extent g b) Y d t) (len_some d h)) (λ t. rw (kept_out (extent g b) Y d t) (extent_inside d h))

  -- of the m axes from place `first` on
  pub cells_inside : (m first : ℕ) → first + m ≤ g.axes → product (box g Y b) m first ≤ product g.len g.axes 0
  cells_inside m first h =
      let a = product_le (box g Y b) g.len m first (λ i l r. box_inside i (omega arith)) in
      let s = part_le g.len g.axes m first (λ i l. len_some i l) h in
      omega arith

-- ---- an accepted plan

module _ (q : Plan) (ok : Accepted q) where
  pub order_slot : (d : ℕ) → d < q.axes → get_or q.order d 0 ≡ (plan_grid q).order d
  unfolding grid_of lists_of
  order_slot d h = sym (get_or-take q.axes q.order d 0 h)

  pub len_slot : (d : ℕ) → d < q.axes → get_or q.lengths (get_or q.order d 0) 0 ≡ (plan_grid q).len d
  unfolding grid_of lists_of
  len_slot d h = along q ok q.lengths d h

  pub len_small : (d : ℕ) → d < q.axes → (plan_grid q).len d ≤ length_limit
  unfolding grid_of
  len_small d h =
      let e = ok.axes in
      let b = order_below (lists_of q) ok.sound d (omega arith) in
      ok.lengths.short (get_or (lists_of q).order d 0) b

  pub start_small : (d l : ℕ) → d < q.axes → l ≤ (plan_grid q).parts d → (plan_grid q).start d l ≤ length_limit
  start_small d l h r =
      let e = axes_same q ok in
      let a = start_inside (plan_grid q) (lawful q ok) d (omega arith) l r in
      let b = len_small d h in
      omega arith

  pub points_few : product (plan_grid q).len (plan_grid q).axes 0 ≤ point_limit
  unfolding grid_of
  points_few =
      let e = product_order (lists_of q) ok.sound (length_of (lists_of q).lengths) in
      let s : points (lists_of q).lengths ≤ point_limit = ok.lengths.small in
      rw e (unfold points in s)

  -- a choice's axis at place d
  pub axis_kept : (mask d : ℕ) → d < q.axes → keeps mask (get_or q.order d 0) ≡ true → has (summed_in q mask) d ≡ false
  axis_kept mask d h t = let e = axes_same q ok in kept_not (plan_grid q) mask d (omega arith) (ap (keeps mask) (sym (order_slot d h)) ∙ t)

  pub axis_summed : (mask d : ℕ) → d < q.axes → keeps mask (get_or q.order d 0) ≡ false → has (summed_in q mask) d ≡ true
  axis_summed mask d h t = let e = axes_same q ok in summed_is (plan_grid q) mask d (omega arith) (ap (keeps mask) (sym (order_slot d h)) ∙ t)

  -- labels in slots
  module _ (labels : List ℕ) (fits : Labels q labels) where
    in_grid : (d : ℕ) → d < (plan_grid q).axes → get_or labels d 0 < (plan_grid q).parts d
    in_grid d h = let e = axes_same q ok in fits d (omega arith)

    pub board_in : board_with (plan_grid q) (λ d. get_or labels d 0) < boards (plan_grid q)
    board_in = board_with_lem (plan_grid q) (lawful q ok) (λ d. get_or labels d 0) in_grid

    -- the extent that a board with these labels has in a choice's box
    pub extent_slot : (Y : List ℕ) (d : ℕ) → d < q.axes → kept Y (λ e. (plan_grid q).start e (suc (get_or labels d 0)) - (plan_grid q).start e (get_or labels d 0)) d ≡ box (plan_grid q) Y (board_with (plan_grid q) (λ d. get_or labels d 0)) d
    unfolding box kept extent
    extent_slot Y d h = let e = axes_same q ok in rw (label_with (plan_grid q) (lawful q ok) (λ d. get_or labels d 0) in_grid d (omega arith)) refl

    pub prefix_small : (m : ℕ) → m ≤ q.axes → place (plan_grid q).parts (λ d. get_or labels d 0) m 0 < 1024
    prefix_small m h =
        let e = axes_same q ok in
        let a = prefix_lt (plan_grid q) (lawful q ok) (λ d. get_or labels d 0) in_grid m (omega arith) in
        let b = boards_few q ok in
        omega arith

  pub cells_small : (Y : List ℕ) (b first d : ℕ) → b < boards (plan_grid q) → first ≤ d → d ≤ q.axes → product (box (plan_grid q) Y b) (d - first) first ≤ point_limit
  cells_small Y b first d h l r =
      let e = axes_same q ok in
      let a = cells_inside (plan_grid q) (lawful q ok) Y b h (d - first) first (omega arith) in
      let p = points_few in
      omega arith

-- ---- the labels of a lead, filled in from the last axis on

-- what is left of the rank before place d, and the labels from d on
pub record Ranking (q : Plan) (mask rank : ℕ) (labels : List ℕ) (rest d : ℕ) : Type 0 where
  pub left : rest ≡ rank / product (kept (summed_in q mask) (plan_grid q).parts) (q.axes - d) d
  pub blank : (i : ℕ) → i < d → get_or labels i 0 ≡ 0
  pub known : (i : ℕ) → d ≤ i → i < q.axes → get_or labels i 0 ≡ lead_label (plan_grid q) (summed_in q mask) rank i
  pub past : (i : ℕ) → q.axes ≤ i → get_or labels i 0 ≡ 0

zeros : (i : ℕ) → ◌≡◌ {A = ℕ} (get_or (0 ∷ 0 ∷ 0 ∷ 0 ∷ 0 ∷ 0 ∷ 0 ∷ 0 ∷ []) i 0) 0
zeros zero = refl
zeros (suc zero) = refl
zeros (suc (suc zero)) = refl
zeros (suc (suc (suc zero))) = refl
zeros (suc (suc (suc (suc zero)))) = refl
zeros (suc (suc (suc (suc (suc zero))))) = refl
zeros (suc (suc (suc (suc (suc (suc zero)))))) = refl
zeros (suc (suc (suc (suc (suc (suc (suc zero))))))) = refl
zeros (suc (suc (suc (suc (suc (suc (suc (suc i)))))))) = refl

module _ (q : Plan) (ok : Accepted q) (mask rank : ℕ) where
  pub ranking_start : Ranking q mask rank (0 ∷ 0 ∷ 0 ∷ 0 ∷ 0 ∷ 0 ∷ 0 ∷ 0 ∷ []) rank q.axes
  ranking_start =
      record {
        left = sym (ap (λ x. rank / x) (product_none (kept (summed_in q mask) (plan_grid q).parts) q.axes q.axes (le_refl _)) ∙ div-one rank);
        blank = λ i h. zeros i;
        known = λ i l h. absurd (omega arith);
        past = λ i h. zeros i;
      }

  module _ (below : rank < leads (plan_grid q) (summed_in q mask)) (labels : List ℕ) (rest d : ℕ) (l : d ≤ q.axes) (h : 0 < d) where
    abbrev e : ℕ
    e = d - 1

    same_end : (plan_grid q).axes - (e + 1) ≡ q.axes - d
    same_end = let a = axes_same q ok in omega arith

    here : e < (plan_grid q).axes
    here = let a = axes_same q ok in omega arith

    -- what is left before the turn, counted from place d - 1
    before : rest ≡ rank / product (kept (summed_in q mask) (plan_grid q).parts) (q.axes - d) d → rest ≡ rank / product (kept (summed_in q mask) (plan_grid q).parts) ((plan_grid q).axes - (e + 1)) (e + 1)
    before r = let z : e + 1 ≡ d = omega arith in rw (same_end, z) r

    fewer : (plan_grid q).axes - e ≡ q.axes - e
    fewer = ap (λ n. n - e) (axes_same q ok)

    pub ranking_kept : length labels ≡ 8 → Ranking q mask rank labels rest d → keeps mask (get_or q.order e 0) ≡ true → Ranking q mask rank (set labels e (rest % (plan_grid q).parts e)) (rest / (plan_grid q).parts e) e
    ranking_kept n r t =
        let f = few_axes ok in
        let k = rank_kept (plan_grid q) (summed_in q mask) rank e here below (axis_kept q ok mask e (omega arith) t) in
        let b = before r.left in
        record {
          left = ap (λ x. x / (plan_grid q).parts e) b ∙ k.1 ∙ ap (λ n. rank / product (kept (summed_in q mask) (plan_grid q).parts) n e) fewer;
          blank = λ i u. get_or-set_other labels e i _ 0 (λ z. omega arith) ∙ r.blank i (omega arith);
          known = λ i u v. by (eqb i e)
              (λ s. rw (eqb-true i e s) (get_or-set_same labels e _ 0 (omega arith) ∙ ap (λ x. x % (plan_grid q).parts e) b ∙ k.0))
              (λ s. let ne = eqb-false i e s in get_or-set_other labels e i _ 0 ne ∙ r.known i (omega (arith, ne)) v);
          past = λ i u. get_or-set_other labels e i _ 0 (λ z. omega arith) ∙ r.past i u;
        }

    pub ranking_summed : Ranking q mask rank labels rest d → keeps mask (get_or q.order e 0) ≡ false → Ranking q mask rank labels rest e
    ranking_summed r t =
        let k = rank_summed (plan_grid q) (summed_in q mask) rank e here below (axis_summed q ok mask e (omega arith) t) in
        record {
          left = before r.left ∙ k.1 ∙ ap (λ n. rank / product (kept (summed_in q mask) (plan_grid q).parts) n e) fewer;
          blank = λ i u. r.blank i (omega arith);
          known = λ i u v. by (eqb i e)
              (λ s. rw (eqb-true i e s) (r.blank e (omega arith) ∙ k.0))
              (λ s. let ne = eqb-false i e s in r.known i (omega (arith, ne)) v);
          past = r.past;
        }

  pub ranking_end : (labels : List ℕ) (rest d : ℕ) → d ≤ 0 → length labels ≡ 8 → Ranking q mask rank labels rest d
      → labels ≡ padded (table q.axes (lead_label (plan_grid q) (summed_in q mask) rank))
  ranking_end labels rest d z n r = slots_table q.axes (lead_label (plan_grid q) (summed_in q mask) rank) labels n (λ i h. r.known i (omega arith) h) r.past

-- a set told by a test has its last place first
pub set_down : (f : ℕ → Bool) (n : ℕ) → Down (set_of f n) n
unfolding set_of
set_down f zero = tt
set_down f (suc n) =
    by (f n)
    (λ t. rw t (omega arith, set_down f n))
    (λ t. rw t (down_up (set_of f n) n (suc n) (omega arith) (set_down f n)))

or_true : (t : Bool) → (t || true) ≡ true
or_true true = refl
or_true false = refl

-- ---- the choice that keeps every axis: each board is a lead, and its number is its rank

kept_all : (e : ℕ → ℕ) → kept [] e ≡ e
kept_all e = fun_ext (λ d. unfold kept has in refl)

module _ (q : Plan) (ok : Accepted q) where
  pub full_set : summed_in q (full_mask (min q.axes axis_limit)) ≡ []
  unfolding summed
  full_set =
      let a = axes_same q ok in
      let f = few_axes ok in
      let m : min q.axes axis_limit ≡ (plan_grid q).axes = omega arith in
      ap (λ n. summed (plan_grid q) (full_mask n)) m ∙ set_mask (plan_grid q) (lawful q ok) [] (full_mask (plan_grid q).axes) tt (root_mask (plan_grid q) (lawful q ok))

  pub full_leads : leads (plan_grid q) (summed_in q (full_mask (min q.axes axis_limit))) ≡ boards (plan_grid q)
  unfolding leads boards
  full_leads = ap (λ Y. product (kept Y (plan_grid q).parts) (plan_grid q).axes 0) full_set ∙ ap (λ e. product e (plan_grid q).axes 0) (kept_all (plan_grid q).parts)

  pub full_label : (b d : ℕ) → lead_label (plan_grid q) (summed_in q (full_mask (min q.axes axis_limit))) b d ≡ label (plan_grid q) b d
  unfolding lead_label label
  full_label b d = ap (λ Y. position (kept Y (plan_grid q).parts) (plan_grid q).axes 0 b d) full_set ∙ ap (λ e. position e (plan_grid q).axes 0 b d) (kept_all (plan_grid q).parts)

  pub full_labels : (b : ℕ)
      → padded (table q.axes (lead_label (plan_grid q) (summed_in q (full_mask (min q.axes axis_limit))) b)) ≡ padded (table q.axes (label (plan_grid q) b))
  full_labels b = ap (λ f. padded (table q.axes f)) (fun_ext (full_label b))

  -- ---- leads, axis by axis

  pub lead_fails : (mask b d : ℕ) (l : ℕ) → l ≡ label (plan_grid q) b d → (eqb l 0 || not (has (summed_in q mask) d)) ≡ false → false ≡ lead (plan_grid q) (summed_in q mask) b
  lead_fails mask b d l s t =
      by (lead (plan_grid q) (summed_in q mask) b)
      (λ r.
      by (has (summed_in q mask) d)
      (λ k. let z = lead_each (plan_grid q) (lawful q ok) (summed_in q mask) b d r k in clash (rw (eq-eqb l 0 (s ∙ z)) at t))
      (λ k. clash (rw (k, or_true (eqb l 0)) at t)))
      sym

  pub lead_holds : (mask b : ℕ) → ((d : ℕ) → d < q.axes → (eqb (label (plan_grid q) b d) 0 || not (has (summed_in q mask) d)) ≡ true) → true ≡ lead (plan_grid q) (summed_in q mask) b
  unfolding summed
  lead_holds mask b h =
      by (lead (plan_grid q) (summed_in q mask) b)
      sym
      (λ s.
      let w = lead_none (plan_grid q) (lawful q ok) (summed_in q mask) b s in
      let a = axes_same q ok in
      let u = down_lt (summed_in q mask) (plan_grid q).axes w.0 (set_down (summed_by (plan_grid q) mask) (plan_grid q).axes) w.1 in
      let t = h w.0 (omega arith) in
      clash (sym (rw (ne_eqb (label (plan_grid q) b w.0) 0 w.2, w.1) at t)))

  pub has_slot : (mask d : ℕ) → d < q.axes → keeps mask (get_or q.order d 0) ≡ not (has (summed_in q mask) d)
  has_slot mask d h = let e = axes_same q ok in rw (order_slot q ok d h) (sym (ap not (summed_has (plan_grid q) mask d (omega arith)) ∙ not_not _))

-- ---- the cells of a board with given labels, counted axis by axis

-- from place `first` up to place d
pub record CellsTo (q : Plan) (mask : ℕ) (labels : List ℕ) (first count d : ℕ) : Type 0 where
  pub counted : count ≡ product (box (plan_grid q) (summed_in q mask) (board_with (plan_grid q) (λ d. get_or labels d 0))) (d - first) first
  pub fits : count ≤ point_limit

pub cells_begin : (q : Plan) (mask : ℕ) (labels : List ℕ) (first : ℕ) → CellsTo q mask labels first 1 first
cells_begin q mask labels first = let z : first - first ≡ 0 = omega arith in record { counted = rw z (unfold product in refl); fits = omega arith }

module _ (q : Plan) (ok : Accepted q) (mask : ℕ) (labels : List ℕ) (first : ℕ) where
  pub cells_turn : Labels q labels → (count d : ℕ) → first ≤ d → d < q.axes → CellsTo q mask labels first count d → CellsTo q mask labels first (count * kept (summed_in q mask) (λ e. (plan_grid q).start e (suc (get_or labels d 0)) - (plan_grid q).start e (get_or labels d 0)) d) (d + 1)
  cells_turn fits count d l h c =
      let Y = summed_in q mask in
      let b = board_with (plan_grid q) (λ d. get_or labels d 0) in
      let n : count * kept Y (λ e. (plan_grid q).start e (suc (get_or labels d 0)) - (plan_grid q).start e (get_or labels d 0)) d ≡ product (box (plan_grid q) Y b) (d + 1 - first) first =
      ap (λ x. count * x) (extent_slot q ok labels fits Y d h) ∙ ap (λ x. x * box (plan_grid q) Y b d) c.counted ∙ cells_next (plan_grid q) Y b first d l in
      record { counted = n; fits = rw n (cells_small q ok Y b first (d + 1) (board_in q ok labels fits) (omega arith) (omega arith)) }

  pub cells_whole : (count : ℕ) → count ≡ product (box (plan_grid q) (summed_in q mask) (board_with (plan_grid q) (λ d. get_or labels d 0))) (q.axes - 0) 0 → count ≡ cells (plan_grid q) (summed_in q mask) (board_with (plan_grid q) (λ d. get_or labels d 0))
  unfolding cells
  cells_whole count e = e ∙ ap (λ n. product (box (plan_grid q) (summed_in q mask) (board_with (plan_grid q) (λ d. get_or labels d 0))) n 0) (sub-zero q.axes ∙ sym (axes_same q ok))

-- ---- a board's own labels

module _ (q : Plan) (ok : Accepted q) (b : ℕ) (h : b < boards (plan_grid q)) (labels : List ℕ) (own : (d : ℕ) → d < q.axes → get_or labels d 0 ≡ label (plan_grid q) b d) where
  pub own_fit : Labels q labels
  own_fit d l = let e = axes_same q ok in rw (own d l) (label_lt (plan_grid q) (lawful q ok) b d h (omega arith))

  pub own_board : board_with (plan_grid q) (λ d. get_or labels d 0) ≡ b
  own_board = let e = axes_same q ok in board_same (plan_grid q) (λ d. get_or labels d 0) (label (plan_grid q) b) (λ d l. own d (omega arith)) ∙ board_labels (plan_grid q) b h

-- ---- the first place later than a set

next_none : (f : ℕ → Bool) (n : ℕ) → ((e : ℕ) → e < n → f e ≡ false) → set_of f n ≡ []
unfolding set_of
next_none f zero h = refl
next_none f (suc n) h = rw (h n (omega arith)) (next_none f n (λ e l. h e (omega arith)))

next_set : (f : ℕ → Bool) (n d : ℕ) → d < n → f d ≡ true → ((e : ℕ) → d + 1 ≤ e → e < n → f e ≡ false) → next (set_of f n) ≡ suc d
unfolding set_of
next_set f zero d l t h = absurd (omega arith)
next_set f (suc n) d l t h =
    by (eqb d n)
    (λ s. let q = eqb-true d n s in rw (ap f (sym q) ∙ t) (ap suc (sym q)))
    (λ s. let ne = eqb-false d n s in rw (h n (omega (arith, ne)) (omega arith)) (next_set f n d (omega (arith, ne)) t (λ e u v. h e u (omega arith))))

-- the choice keeps every axis from place d on
abbrev pub KeptFrom : Plan → ℕ → ℕ → Type 0
KeptFrom q mask d = (e : ℕ) → d ≤ e → e < q.axes → keeps mask ((plan_grid q).order e) ≡ true

module _ (q : Plan) (ok : Accepted q) (mask d : ℕ) (kept_on : KeptFrom q mask d) where
  pub next_found : 0 < d → d ≤ q.axes → keeps mask (get_or q.order (d - 1) 0) ≡ false → d ≡ next (summed_in q mask)
  unfolding summed summed_by
  next_found h l t =
      let a = axes_same q ok in
      let z : suc (d - 1) ≡ d = omega arith in
      let k : keeps mask ((plan_grid q).order (d - 1)) ≡ false = ap (keeps mask) (sym (order_slot q ok (d - 1) (omega arith))) ∙ t in
      sym (next_set (summed_by (plan_grid q) mask) (plan_grid q).axes (d - 1) (omega arith) (ap not k) (λ e u v. ap not (kept_on e (omega arith) (omega arith))) ∙ z)

  pub next_passed : 0 < d → d ≤ q.axes → keeps mask (get_or q.order (d - 1) 0) ≡ true → KeptFrom q mask (d - 1)
  next_passed h l t e u v =
      by (eqb e (d - 1))
      (λ s. rw (eqb-true e (d - 1) s) (ap (keeps mask) (sym (order_slot q ok (d - 1) (omega arith))) ∙ t))
      (λ s. let ne = eqb-false e (d - 1) s in kept_on e (omega (arith, ne)) v)

  pub next_root : d ≤ 0 → 0 ≡ next (summed_in q mask)
  unfolding summed
  next_root h =
      let a = axes_same q ok in
      sym (ap next (next_none (summed_by (plan_grid q) mask) (plan_grid q).axes (λ e l. unfold summed_by in ap not (kept_on e (omega arith) (omega arith)))))

-- ---- regions

module _ (q : Plan) (ok : Accepted q) where
  pub start_plan : (i : ℕ) → Tree.region_start q.axes (most_at (lists_of q)) i ≡ region_start (plan_grid q) i
  unfolding region_start
  start_plan i = ap (λ n. Tree.region_start n (most_at (lists_of q)) i) (sym (axes_same q ok)) ∙ (unfold grid_of in refl)

  pub share_plan : Tree.region_start q.axes (most_at (lists_of q)) q.axes ≡ share (plan_grid q)
  unfolding share Tree.share_size
  share_plan = start_plan q.axes ∙ (unfold region_start in ap (Tree.region_start (plan_grid q).axes (plan_grid q).most) (sym (axes_same q ok)))

pub first_cell : (g : Grid) (b i : ℕ) → b * share g + region_start g i ≡ index g b i 0
unfolding index
first_cell g b i = omega arith

pub area_fits : (b s r n i : ℕ) → b < 1024 → n ≤ 8 → i ≤ n → s ≤ point_limit * n → r ≤ point_limit * i → b * s + r < 274877906944
area_fits b s r n i h f l k u = let m = mul-le-mul {n₁ = b} {m₁ = s} {n₂ = 1023} {m₂ = 134217728} (omega arith) (omega arith) in omega arith
