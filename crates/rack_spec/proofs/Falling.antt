-- Longer portions come first: a board whose labels are nowhere higher than another's has no fewer cells and holds no fewer, and board 0 holds the most.
-- (Of two boards the one with the lower number may hold fewer: its labels need not be lower on every axis.)
use Prim.Native.Nat.{ℕ, zero, suc, ◌+◌, ◌^◌, ◌≤◌, ◌<◌}
use mathlib.Core.Path.{◌≡◌, refl}
use mathlib.Core.Bool.{Bool, true, false}
use mathlib.Core.List.{List, [], ◌∷◌}
use native.Mathlib.Nat.{zero-add, zero-div, zero-mod, le_refl}
use native.Mathlib.Omega.{arith}
use borrow.Author.Tests.{eqb-true, eq-eqb}
use lib.Dec.{eqb}
use lib.ListN.{take}
use lib.Pow.{pow_pos}
use Rattle.cube_spec.specs.Boxes.{pick, product, position}
use Rattle.cube_spec.specs.Portions.{portion_extent}
use Rattle.cube_spec.specs.Tree.{has, kept, parent_of}
use Rattle.cube_spec.proofs.Sums.{by}
use Rattle.cube_spec.proofs.Naturals.{both}
use Rattle.cube_spec.proofs.Products.{product_le}
use Rattle.cube_spec.proofs.Portions.{extent_rule, extent_falls}
use Rattle.cube_spec.proofs.Sets.{Down, down_up, over_le}
use Rattle.plan_spec.specs.Plans.{PlanLists, Sound, length_at, exponent_at}
use Rattle.rack_spec.specs.Grids.{Grid, grid_of, boards, label, lead, extent, box, cells}
use Rattle.rack_spec.specs.Steps.{steps}
use Rattle.rack_spec.specs.Held.{own, held_after, held}
use Rattle.rack_spec.proofs.Lawful.{grid_lawful}
use Rattle.rack_spec.proofs.Spread.{live}
use Rattle.rack_spec.proofs.Holding.{held_most}

down_parent : (Y : List ℕ) (n : ℕ) → Down Y n → Down (parent_of Y) n
down_parent [] n h = tt
down_parent (j ∷ Y) n h = down_up Y j n (let l = h.0 in omega arith) h.1

extent_ruled : (a : PlanLists) (b d : ℕ) → extent (grid_of a) b d ≡ portion_extent (length_at a d) (2 ^ exponent_at a d) (label (grid_of a) b d)
unfolding extent grid_of
extent_ruled a b d = extent_rule (length_at a d) (2 ^ exponent_at a d) (pow_pos _) (label (grid_of a) b d)

module _ (a : PlanLists) (b c : ℕ) (lower : (d : ℕ) → d < (grid_of a).axes → label (grid_of a) c d ≤ label (grid_of a) b d) where
  abbrev g : Grid
  g = grid_of a

  pub extent_lower : (d : ℕ) → d < (grid_of a).axes → extent (grid_of a) b d ≤ extent (grid_of a) c d
  extent_lower d h = rw (extent_ruled a b d, extent_ruled a c d) (extent_falls (length_at a d) (2 ^ exponent_at a d) (pow_pos _) (label g c d) (label g b d) (lower d h))

  pub cells_fall : (Y : List ℕ) → cells (grid_of a) Y b ≤ cells (grid_of a) Y c
  unfolding cells box kept
  cells_fall Y = product_le _ _ g.axes 0 (λ d l r. by (has Y d) (λ t. rw t (le_refl 1)) (λ t. rw t (extent_lower d (omega arith))))

  -- a lead has label 0 on the summed axes, and so has a board whose labels are nowhere higher
  lead_too : (Z : List ℕ) → Down Z (grid_of a).axes → lead g Z b ≡ true → lead g Z c ≡ true
  unfolding lead
  lead_too [] h t = refl
  lead_too (j ∷ Z) h t =
      let s = both (eqb (label g b j) 0) (lead g Z b) t in
      let z = eqb-true (label g b j) 0 s.0 in
      let l = lower j h.0 in
      rw (eq-eqb (label g c j) 0 (omega arith), lead_too Z (down_up Z j g.axes (omega arith) h.1) s.1)

  own_falls : (Y : List ℕ) → Down Y (grid_of a).axes → own g b Y ≤ own g c Y
  unfolding own
  own_falls Y h = by (lead g (parent_of Y) b) (λ t. rw (t, lead_too (parent_of Y) (down_parent Y g.axes h) t) (cells_fall Y)) (λ t. rw t (omega arith))

  pick_le : (t : Bool) (m n : ℕ) → m ≤ n → pick t m 0 ≤ pick t n 0
  pick_le true m n h = h
  pick_le false m n h = le_refl 0

  -- at every position
  pub held_falls : (at : ℕ) → held (grid_of a) at b ≤ held (grid_of a) at c
  unfolding held held_after
  held_falls at = over_le _ _ g.axes 0 g.axes [] (zero-add g.axes) tt (λ Y h. pick_le (live (take at (steps g)) Y) (own g b Y) (own g c Y) (own_falls Y h))

-- ---- board 0, whose labels are all 0

position_zero : (e : ℕ → ℕ) (m d i : ℕ) → position e m d 0 i ≡ 0
unfolding position
position_zero e zero d i = refl
position_zero e (suc m) d i = by (eqb i d) (λ t. rw t (zero-div _)) (λ t. rw (t, zero-mod (product e m (d + 1))) (position_zero e m (d + 1) i))

labels_zero : (g : Grid) (d : ℕ) → label g 0 d ≡ 0
unfolding label
labels_zero g d = position_zero g.parts g.axes 0 d

-- THE LARGEST: no board ever holds more than board 0 after the first step
pub held_below_first : (a : PlanLists) → Sound a → (b : ℕ) → b < boards (grid_of a) → (at : ℕ) → held (grid_of a) at b ≤ held (grid_of a) 1 0
held_below_first a ok b on at =
    let p = held_falls a b 0 (λ d h. rw (labels_zero (grid_of a) d) (omega arith)) at in
    let q = held_most (grid_of a) (grid_lawful a ok) 0 (omega arith) at in
    omega arith
