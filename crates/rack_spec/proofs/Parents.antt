-- The tree by sets and the tree by masks name the same parent for every choice: the one axis that it has more is the last in the plan that the choice sums out.
use Prim.Native.Nat.{ℕ, zero, suc, ◌+◌, ◌-◌, ◌^◌, ◌<◌}
use mathlib.Core.Path.{◌≡◌, sym, ◌∙◌, refl, ap}
use mathlib.Core.Bool.{Bool, true, false, not}
use mathlib.Core.List.{List, [], ◌∷◌}
use native.Mathlib.Omega.{arith}
use borrow.Author.Tests.{eqb-true, eqb-false}
use lib.Dec.{eqb}
use lib.ListN.{length, get_or}
use Rattle.cube_spec.specs.Boxes.{pick}
use Rattle.cube_spec.specs.Choices.{keeps, full_mask, with_mask}
use Rattle.cube_spec.specs.Tree.{last_of, parent_of}
use Rattle.cube_spec.proofs.Sums.{by}
use Rattle.cube_spec.proofs.Naturals.{not_true, not_false}
use Rattle.cube_spec.proofs.Digits.{with_summed}
use Rattle.cube_spec.proofs.Sets.{Down, down_up, down_out}
use Rattle.plan_spec.specs.Plans.{PlanLists, Sound, axis_at}
use Rattle.plan_spec.specs.Rule.{plan_of}
use Rattle.plan_spec.specs.Trees.{last_summed, tree_axis}
use Rattle.rack_spec.specs.Grids.{Grid, Lawful, grid_of, mask_of, set_of, summed_by, summed}
use Rattle.rack_spec.proofs.Lawful.{grid_lawful}
use Rattle.rack_spec.proofs.Masks.{mask_set, set_mask, root_mask}
use Rattle.rack_spec.proofs.Planned.{set_down}
use Rattle.rack_spec.proofs.Seeking.{mask_less}

-- ---- the last axis of a list that is not kept

all_kept : (kept : ℕ → Bool) (a : ℕ) (l : List ℕ) → ((e : ℕ) → e < length l → kept (get_or l e 0) ≡ true) → last_summed kept a l ≡ a
unfolding last_summed
all_kept kept a [] h = refl
all_kept kept a (j ∷ r) h = rw (h 0 (omega arith)) (all_kept kept a r (λ e l. h (suc e) (omega arith)))

last_at : (kept : ℕ → Bool) (a : ℕ) (l : List ℕ) (i : ℕ) → i < length l → kept (get_or l i 0) ≡ false → ((e : ℕ) → i < e → e < length l → kept (get_or l e 0) ≡ true) → last_summed kept a l ≡ get_or l i 0
unfolding last_summed
last_at kept a [] i h s k = absurd (omega arith)
last_at kept a (j ∷ r) zero h s k = rw s (all_kept kept j r (λ e l. k (suc e) (omega arith) (omega arith)))
last_at kept a (j ∷ r) (suc i) h s k = last_at kept (pick (kept j) a j) r i (omega arith) s (λ e u l. k (suc e) (omega arith) (omega arith))

-- ---- the last place of a set

record Last (f : ℕ → Bool) (n : ℕ) (Z : List ℕ) : Type 0 where
  j : ℕ
  rest : List ℕ
  set : Z ≡ j ∷ rest
  inside : j < n
  down : Down rest j
  holds : f j ≡ true
  none_after : (e : ℕ) → j < e → e < n → f e ≡ false

set_last : (f : ℕ → Bool) (n : ℕ) → (set_of f n ≡ [] → ⊥) → Last f n (set_of f n)
unfolding set_of
set_last f zero h = absurd (h refl)
set_last f (suc n) h =
    by (f n)
    (λ t. record { j = n; rest = set_of f n; set = rw t refl; inside = omega arith; down = set_down f n; holds = t; none_after = λ e l r. absurd (omega arith) })
    (λ t.
    let s : pick (f n) (n ∷ set_of f n) (set_of f n) ≡ set_of f n = rw t refl in
    let k = set_last f n (λ z. h (s ∙ z)) in
    record {
      j = k.j;
      rest = k.rest;
      set = s ∙ k.set;
      inside = (let i = k.inside in omega arith);
      down = k.down;
      holds = k.holds;
      none_after = λ e l r. by (eqb e n) (λ u. ap f (eqb-true e n u) ∙ t) (λ u. k.none_after e l (let w = eqb-false e n u in omega (arith, w)));
    })

-- ---- THE LAW, for every plan whose order names each axis once and every choice but the full one

module _ (a : PlanLists) (sound : Sound a) (mask : ℕ) (below : mask < full_mask (length a.lengths)) where
  abbrev g : Grid
  g = grid_of a

  law : Lawful g
  law = grid_lawful a sound

  abbrev Y : List ℕ
  Y = summed g mask

  -- the axis that the parent by masks has more
  abbrev more : ℕ
  more = last_summed (keeps mask) 0 a.order

  inside : mask < 2 ^ g.axes
  inside = unfold grid_of in (let q : mask < 2 ^ length a.lengths - 1 = (unfold full_mask in below) in omega arith)

  found : Last (summed_by g mask) g.axes Y
  unfolding summed
  found = set_last (summed_by g mask) g.axes (λ z.
      let q : mask ≡ full_mask g.axes = sym (mask_set g law mask inside) ∙ ap (mask_of g) z ∙ root_mask g law in
      let n : g.axes ≡ length a.lengths = (unfold grid_of in refl) in
      let r = ap full_mask n in
      omega arith)

  summed_at : (d : ℕ) → summed_by g mask d ≡ not (keeps mask (axis_at a d))
  unfolding summed_by grid_of
  summed_at d = refl

  pub same_axis : more ≡ axis_at a (last_of Y)
  same_axis =
      let i : found.j < length a.lengths = (unfold grid_of in found.inside) in
      let o = sound.places in
      last_at (keeps mask) 0 a.order found.j (omega arith) (not_true _ (sym (summed_at found.j) ∙ found.holds)) (λ e l r. not_false _ (sym (summed_at e) ∙ found.none_after e l (unfold grid_of in omega arith)))
      ∙ ap (λ Z. axis_at a (last_of Z)) (sym found.set)

  -- the parent's mask is that of the parent's set,
  pub same_parent : mask_of g (parent_of Y) ≡ with_mask mask more
  same_parent =
      let w : more ≡ axis_at a found.j = same_axis ∙ ap (λ Z. axis_at a (last_of Z)) found.set in
      let k : keeps mask (axis_at a found.j) ≡ false = not_true _ (sym (summed_at found.j) ∙ found.holds) in
      let m : mask_of g (found.j ∷ found.rest) ≡ mask = ap (mask_of g) (sym found.set) ∙ (unfold summed in mask_set g law mask inside) in
      let u : mask_of g found.rest ≡ mask_of g (found.j ∷ found.rest) + 2 ^ axis_at a found.j = mask_less g law found.rest found.j found.inside (down_out found.rest found.j found.j found.down (omega arith)) ∙ (unfold grid_of in refl) in
      ap (λ Z. mask_of g (parent_of Z)) found.set ∙ u ∙ ap (λ x. x + 2 ^ axis_at a found.j) m ∙ sym (ap (with_mask mask) w ∙ with_summed mask (axis_at a found.j) k)

  -- and the parent's set that of its mask
  pub same_set : summed g (with_mask mask more) ≡ parent_of Y
  unfolding summed
  same_set =
      let d : Down (parent_of Y) g.axes = rw found.set (down_up found.rest found.j g.axes (let i = found.inside in omega arith) found.down) in
      set_mask g law (parent_of Y) (with_mask mask more) d same_parent

-- the planner's tree is the tree of its plan
pub tree_parent : (ds : List ℕ) (p mask : ℕ) → Sound (plan_of ds p) → mask < full_mask (length ds) → mask_of (grid_of (plan_of ds p)) (parent_of (summed (grid_of (plan_of ds p)) mask)) ≡ with_mask mask (tree_axis ds mask)
unfolding tree_axis plan_of
tree_parent ds p mask sound h = same_parent (plan_of ds p) sound mask h
