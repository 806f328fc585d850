-- The total, a sum over all points, obeys the law by which the engine forms it: summing out one axis more is a sum over that axis.
use Prim.Native.Nat.{ℕ, zero, suc, ◌+◌, ◌≤◌, ◌<◌}
use mathlib.Core.Path.{◌≡◌, sym, ◌∙◌, refl, ap}
use mathlib.Core.Bool.{Bool, true, false, ◌&&◌, ◌||◌, not, and-false}
use mathlib.Core.List.{List, [], ◌∷◌}
use native.Mathlib.Omega.{arith}
use borrow.Author.Tests.{eqb-true, eqb-false, eq-eqb}
use lib.Dec.{eqb}
use lib.ListN.{length}
use lib.IntN.{ℤ, pos}
use Rattle.cube_spec.specs.Boxes.{pick, sum_z, put, place, Within}
use Rattle.cube_spec.specs.Choices.{keeps, length_of, points, point_position, agrees, total}
use Rattle.cube_spec.specs.Tree.{has}
use Rattle.cube_spec.proofs.Sums.{by, put_same, put_other, sum_cong, sum_swap, sum_only}
use Rattle.cube_spec.proofs.Naturals.{both, not_true}
use Rattle.cube_spec.proofs.Boxing.{place_cong, place_lt, position_place, position_lt, place_position}
use Rattle.cube_spec.proofs.Sets.{has_head, has_other}
use Rattle.plan_spec.specs.Plans.{PlanLists, Sound}
use Rattle.plan_spec.proofs.Orders.{order_rank}
use Rattle.rack_spec.specs.Grids.{Grid, Lawful, grid_of, mask_of}
use Rattle.rack_spec.proofs.Lawful.{grid_lawful}
use Rattle.rack_spec.proofs.Masks.{keeps_mask}
use Rattle.run_spec.specs.Memory.{point_at}

module _ (ds : List ℕ) where
  -- ---- which points share positions

  -- positions on the summed axes do not matter
  agrees_cong : (mask q : ℕ) (x x' : ℕ → ℕ) (m : ℕ) → ((d : ℕ) → d < m → keeps mask d ≡ true → x d ≡ x' d) → agrees ds mask q x m ≡ agrees ds mask q x' m
  unfolding agrees
  agrees_cong mask q x x' zero h = refl
  agrees_cong mask q x x' (suc m) h =
      rw (agrees_cong mask q x x' m (λ d r t. h d (omega arith) t)) (by (keeps mask m) (λ t. rw (h m (omega arith) t)) (λ t. rw t))

  agrees_all : (mask q : ℕ) (x : ℕ → ℕ) (m : ℕ) → ((d : ℕ) → d < m → point_position ds q d ≡ x d) → agrees ds mask q x m ≡ true
  unfolding agrees
  agrees_all mask q x zero h = refl
  agrees_all mask q x (suc m) h =
      rw (h m (omega arith), eq-eqb (x m) (x m) refl, agrees_all mask q x m (λ d r. h d (omega arith))) (by (keeps mask m) (λ t. rw t) (λ t. rw t))

  agrees_each : (mask q : ℕ) (x : ℕ → ℕ) (m : ℕ) → ((d : ℕ) → d < m → keeps mask d ≡ true) → agrees ds mask q x m ≡ true → (d : ℕ) → d < m → point_position ds q d ≡ x d
  unfolding agrees
  agrees_each mask q x zero k e d h = absurd (omega arith)
  agrees_each mask q x (suc m) k e d h =
      let s = both (eqb (point_position ds q m) (x m)) (agrees ds mask q x m) (rw (k m (omega arith)) at e) in
      by (eqb d m)
      (λ t. rw (eqb-true d m t) (eqb-true _ _ s.0))
      (λ t. let ne = eqb-false d m t in agrees_each mask q x m (λ d r. k d (omega arith)) s.1 d (omega (arith, ne)))

  swap : (a e s : Bool) → (a && (e && s)) ≡ (e && (a && s))
  swap true e s = refl
  swap false e s = sym (and-false e)

  -- two choices that differ on axis a alone, which the second sums out
  module _ (mask less a : ℕ) (kept : keeps mask a ≡ true) (summed : keeps less a ≡ false) (alike : (d : ℕ) → d < length ds → (d ≡ a → ⊥) → keeps less d ≡ keeps mask d) where
    module _ (q v : ℕ) (x : ℕ → ℕ) where
      agrees_below : (m : ℕ) → m ≤ a → m ≤ length ds → agrees ds mask q (put x a v) m ≡ agrees ds less q x m
      unfolding agrees
      agrees_below zero h l = refl
      agrees_below (suc m) h l =
          let ne : m ≡ a → ⊥ = λ e. omega arith in
          rw (put_other x a v m ne, alike m l ne, agrees_below m (omega arith) (omega arith))

      -- with v put in at a, q shares the positions exactly if v is q's own position there and q shares the others
      agrees_above : (m : ℕ) → a < m → m ≤ length ds → agrees ds mask q (put x a v) m ≡ (eqb (point_position ds q a) v && agrees ds less q x m)
      unfolding agrees
      agrees_above zero h l = absurd (omega arith)
      agrees_above (suc m) h l =
          by (eqb m a)
          (λ t. rw (eqb-true m a t, put_same, kept, summed, agrees_below a (omega arith) (omega arith)))
          (λ t.
          let ne = eqb-false m a t in
          rw (put_other x a v m ne, alike m l ne, agrees_above m (omega (arith, ne)) (omega arith)) (swap (not (keeps mask m) || eqb (point_position ds q m) (x m)) (eqb (point_position ds q a) v) (agrees ds less q x m)))

    pick_both : (s t : Bool) (v : ℤ) → pick (s && t) v (pos 0) ≡ pick s (pick t v (pos 0)) (pos 0)
    pick_both true t v = refl
    pick_both false t v = refl

    -- totals at some positions v 0, v 1, .. on axis a, point by point
    pub totals_along : (array : ℕ → ℤ) (x : ℕ → ℕ) (n : ℕ) (v : ℕ → ℕ) → a < length ds → sum_z n (λ m. total ds array mask (put x a (v m))) ≡ sum_z (points ds) (λ q. sum_z n (λ m. pick (eqb (point_position ds q a) (v m)) (pick (agrees ds less q x (length ds)) (array q) (pos 0)) (pos 0)))
    unfolding total
    totals_along array x n v r =
        sum_swap n (points ds) (λ m q. pick (agrees ds mask q (put x a (v m)) (length ds)) (array q) (pos 0)) ∙ sum_cong (points ds) (λ q _. sum_cong n (λ m _. ap (λ t. pick t (array q) (pos 0)) (agrees_above q (v m) x (length ds) r (omega arith)) ∙ pick_both (eqb (point_position ds q a) (v m)) (agrees ds less q x (length ds)) (array q)))

    -- summing out axis a too is a sum over axis a
    pub total_sum : (array : ℕ → ℤ) (x : ℕ → ℕ) → a < length ds → total ds array less x ≡ sum_z (length_of ds a) (λ v. total ds array mask (put x a v))
    unfolding total
    total_sum array x r = sym (totals_along array x (length_of ds a) (λ m. m) r ∙ sum_cong (points ds) (λ q h. sum_only (length_of ds a) (point_position ds q a) (λ v. pick (agrees ds less q x (length ds)) (array q) (pos 0)) (own q h)))
      where
        own : (q : ℕ) → q < points ds → point_position ds q a < length_of ds a
        own q h = unfold point_position in position_lt (length_of ds) (length ds) 0 q a (unfold points in h) (omega arith) (omega arith)

  pub total_cong : (array : ℕ → ℤ) (mask : ℕ) (x x' : ℕ → ℕ) → ((d : ℕ) → d < length ds → keeps mask d ≡ true → x d ≡ x' d) → total ds array mask x ≡ total ds array mask x'
  unfolding total
  total_cong array mask x x' h = sum_cong (points ds) (λ q _. ap (λ t. pick t (array q) (pos 0)) (agrees_cong mask q x x' (length ds) h))

  -- ---- a choice that keeps every axis

  module _ (mask : ℕ) (all : (d : ℕ) → d < length ds → keeps mask d ≡ true) (x : ℕ → ℕ) (w : Within (length ds) (length_of ds) x) where
    lengths_ok : (d : ℕ) → 0 ≤ d → d < 0 + length ds → x d < length_of ds d
    lengths_ok d _ r = w d (omega arith)

    at : ℕ
    at = place (length_of ds) x (length ds) 0

    at_lt : at < points ds
    unfolding at points
    at_lt = place_lt (length ds) 0 lengths_ok

    -- exactly one point has the positions x on every axis
    one_point : (q : ℕ) → q < points ds → agrees ds mask q x (length ds) ≡ eqb at q
    one_point q h =
        by (eqb at q)
        (λ t. rw (t, ← eqb-true at q t) (agrees_all mask at x (length ds) (λ d r. unfold point_position at in position_place (length ds) 0 d lengths_ok (omega arith) (omega arith))))
        (λ t.
        by (agrees ds mask q x (length ds))
        (λ s. absurd (eqb-false at q t (same q h (agrees_each mask q x (length ds) all s))))
        (λ s. s ∙ sym t))
      where
        same : (q : ℕ) → q < points ds → ((d : ℕ) → d < length ds → point_position ds q d ≡ x d) → at ≡ q
        same q h e = unfold at point_position points in place_cong (length ds) 0 (λ i l r. refl) (λ d l r. sym (unfold point_position in e d (omega arith))) ∙ place_position (length_of ds) (length ds) 0 q (unfold points in h)

    -- its total is the point itself
    pub total_point : (array : ℕ → ℤ) → total ds array mask x ≡ array (place (length_of ds) x (length ds) 0)
    unfolding total
    total_point array =
        sum_cong (points ds) (λ q h. ap (λ t. pick t (array q) (pos 0)) (one_point q h)) ∙ sum_only (points ds) at array at_lt ∙ (unfold at in refl)

-- ---- the totals of a plan's choices, with positions by place in the plan

unfoldable pub total_at : PlanLists → (ℕ → ℤ) → List ℕ → (ℕ → ℕ) → ℤ
total_at a array Y z = total a.lengths array (mask_of (grid_of a) Y) (λ d. z ((grid_of a).rank d))

-- all that a run needs to know of totals
pub record Law (g : Grid) (array : ℕ → ℤ) (T : List ℕ → (ℕ → ℕ) → ℤ) : Type 0 where
  pub root : (z : ℕ → ℕ) → Within g.axes g.len z → T [] z ≡ array (point_at g z)
  pub sum : (Y : List ℕ) (j : ℕ) (z : ℕ → ℕ) → has Y j ≡ false → j < g.axes → T (j ∷ Y) z ≡ sum_z (g.len j) (λ v. T Y (put z j v))
  pub alike : (Y : List ℕ) (z z' : ℕ → ℕ) → ((d : ℕ) → d < g.axes → has Y d ≡ false → z d ≡ z' d) → T Y z ≡ T Y z'

module _ (a : PlanLists) (sound : Sound a) where
  abbrev g : Grid
  g = grid_of a

  ok : Lawful g
  ok = grid_lawful a sound

  axes_length : g.axes ≡ length a.lengths
  unfolding grid_of
  axes_length = refl

  len_length : (d : ℕ) → d < length a.lengths → g.len (g.rank d) ≡ length_of a.lengths d
  unfolding grid_of
  len_length d h = ap (length_of a.lengths) (order_rank a sound d h)

  keeps_place : (Y : List ℕ) (d : ℕ) → d < length a.lengths → keeps (mask_of g Y) d ≡ not (has Y (g.rank d))
  keeps_place Y d h = keeps_mask g ok Y d (rw axes_length h)

  rank_below : (d : ℕ) → d < length a.lengths → g.rank d < g.axes
  rank_below d h = ok.rank_lt d (rw axes_length h)

  pub order_of_rank : (d : ℕ) → d < length a.lengths → g.order (g.rank d) ≡ d
  order_of_rank d h = ok.order_rank d (rw axes_length h)

  -- the axis at place d of the plan
  pub order_below : (d : ℕ) → d < g.axes → g.order d < length a.lengths
  order_below d h = rw axes_length at (ok.order_lt d h)

  pub order_length : (d : ℕ) → d < g.axes → length_of a.lengths (g.order d) ≡ g.len d
  order_length d h = sym (len_length (g.order d) (order_below d h)) ∙ ap g.len (ok.rank_order d h)

  pub keeps_order : (Y : List ℕ) (d : ℕ) → d < g.axes → keeps (mask_of g Y) (g.order d) ≡ not (has Y d)
  keeps_order Y d h = keeps_place Y (g.order d) (order_below d h) ∙ ap (λ k. not (has Y k)) (ok.rank_order d h)

  -- the axis at place j, and the others
  apart : (j d : ℕ) → d < length a.lengths → (d ≡ g.order j → ⊥) → g.rank d ≡ j → ⊥
  apart j d h ne e = ne (sym (order_of_rank d h) ∙ ap g.order e)

  pub keeps_other : (Y : List ℕ) (j d : ℕ) → d < length a.lengths → (d ≡ g.order j → ⊥) → keeps (mask_of g (j ∷ Y)) d ≡ keeps (mask_of g Y) d
  keeps_other Y j d h ne = keeps_place (j ∷ Y) d h ∙ ap not (has_other j (g.rank d) Y (apart j d h ne)) ∙ sym (keeps_place Y d h)

  put_place : (z : ℕ → ℕ) (j v d : ℕ) → j < g.axes → d < length a.lengths → put (λ d. z (g.rank d)) (g.order j) v d ≡ put z j v (g.rank d)
  put_place z j v d r h =
      by (eqb d (g.order j))
      (λ t. let q = eqb-true d (g.order j) t in rw (q, put_same, ok.rank_order j r) (sym (put_same z j v)))
      (λ t. let ne = eqb-false d (g.order j) t in put_other (λ d. z (g.rank d)) (g.order j) v d ne ∙ sym (put_other z j v (g.rank d) (apart j d h ne)))

  module _ (array : ℕ → ℤ) where
    -- one position put in, by place and by axis
    pub total_put : (Y : List ℕ) (j : ℕ) (z : ℕ → ℕ) (v : ℕ) → j < g.axes → total_at a array Y (put z j v) ≡ total a.lengths array (mask_of g Y) (put (λ d. z (g.rank d)) (g.order j) v)
    unfolding total_at
    total_put Y j z v r = total_cong a.lengths array (mask_of g Y) _ _ (λ d u _. sym (put_place z j v d r u))

    -- a set with one place more is the choice with that axis summed out too
    total_more : (Y : List ℕ) (j : ℕ) (z : ℕ → ℕ) → has Y j ≡ false → j < g.axes → total_at a array (j ∷ Y) z ≡ sum_z (g.len j) (λ v. total_at a array Y (put z j v))
    total_more Y j z out r =
        let whole : total_at a array (j ∷ Y) z ≡ sum_z (length_of a.lengths (g.order j)) (λ v. total a.lengths array (mask_of g Y) (put (λ d. z (g.rank d)) (g.order j) v)) = (unfold total_at in total_sum a.lengths (mask_of g Y) (mask_of g (j ∷ Y)) (g.order j) (keeps_order Y j r ∙ ap not out) (keeps_order (j ∷ Y) j r ∙ ap not (has_head j Y)) (keeps_other Y j) array (λ d. z (g.rank d)) (order_below j r)) in
        whole ∙ (rw (order_length j r) (sum_cong (g.len j) (λ v _. sym (total_put Y j z v r))))

    pub totals_law : Law g array (total_at a array)
    totals_law = record { root = root; sum = total_more; alike = alike }
      where
        root : (z : ℕ → ℕ) → Within g.axes g.len z → total_at a array [] z ≡ array (point_at g z)
        root z w =
            unfold total_at point_at in
            total_point a.lengths (mask_of g []) (λ d h. keeps_place [] d h ∙ (unfold has in refl)) (λ d. z (g.rank d)) (λ d h. rw (← len_length d h) (w (g.rank d) (rank_below d h))) array ∙ ap array (rw axes_length (place_cong (length a.lengths) 0 (λ d l r. sym (len_length d (omega arith))) (λ d l r. refl)))

        alike : (Y : List ℕ) (z z' : ℕ → ℕ) → ((d : ℕ) → d < g.axes → has Y d ≡ false → z d ≡ z' d) → total_at a array Y z ≡ total_at a array Y z'
        alike Y z z' h = unfold total_at in total_cong a.lengths array (mask_of g Y) _ _ (λ d r t. h (g.rank d) (rank_below d r) (not_true _ (sym (keeps_place Y d r) ∙ t)))
