-- No board ever holds more than after the first step, and at the end it holds nothing.
use Prim.Native.Nat.{ℕ, zero, suc, ◌+◌, ◌-◌, ◌≤◌, ◌<◌}
use mathlib.Core.Path.{◌≡◌, ◌∙◌, refl, ap}
use mathlib.Core.Bool.{Bool, true, false}
use mathlib.Core.List.{List, [], ◌∷◌}
use native.Mathlib.Nat.{le_refl}
use native.Mathlib.Omega.{arith}
use borrow.Author.Tests.{eq-eqb, lt-ltb, le-ltb, ltb-true, ltb-false}
use lib.Dec.{eqb, ltb}
use lib.ListN.{length, length-append}
use Rattle.cube_spec.specs.Boxes.{pick}
use Rattle.cube_spec.specs.Tree.{has, kept}
use Rattle.cube_spec.proofs.Sums.{by}
use Rattle.cube_spec.proofs.Products.{product_le}
use Rattle.rack_spec.specs.Grids.{Grid, Lawful, boards, label, lead, extent, box, cells}
use Rattle.rack_spec.specs.Steps.{TreeStep, finish, transfers, around, walk, steps}
use Rattle.rack_spec.specs.Held.{own, held_after, held}
use Rattle.rack_spec.proofs.Boards.{label_lt}
use Rattle.rack_spec.proofs.Begun.{fits, some_expands, over_alike}
use Rattle.rack_spec.specs.Finding.{into, visited, held_walk}
use Rattle.rack_spec.proofs.Alive.{held_walk_lem, over_none}

module _ (g : Grid) (b : ℕ) where
  -- a visit has one step at least past its walk
  pub visit_longer : (Y : List ℕ) (m : ℕ) (inner : List TreeStep) → length inner < length (around Y m inner)
  visit_longer Y zero inner = rw length-append (omega arith)
  visit_longer Y (suc m) inner = let q = length-append inner (finish Y ∷ []) in omega arith

  -- ---- a walk that is over holds nothing

  pick_zero : (u : Bool) → pick {A = ℕ} u 0 0 ≡ 0
  pick_zero true = refl
  pick_zero false = refl

  pub walk_over : (m d : ℕ) (Y : List ℕ) (at : ℕ) → length (walk g m d Y) ≤ at → held_walk g b m d Y at ≡ 0
  unfolding held_walk
  walk_over zero d Y at h = refl
  walk_over (suc m) d Y at h =
      let sent = transfers g (d ∷ Y) (boards g) in
      let p : length (walk g (suc m) d Y) ≡ length (walk g m (d + 1) Y) + (length sent + length (visited g m d Y)) = (unfold walk in length-append (walk g m (d + 1) Y) _ ∙ ap (λ n. length (walk g m (d + 1) Y) + n) (length-append sent (visited g m d Y))) in
      let q = visit_longer (d ∷ Y) m (walk g m (d + 1) (d ∷ Y)) in
      let right = walk_over m (d + 1) Y at (omega arith) in
      let below = walk_over m (d + 1) (d ∷ Y) (into g m d Y at - 1) (omega arith) in
      let out = le-ltb (into g m d Y at) (length (visited g m d Y)) (omega arith) in
      simp (right, below, out, pick_zero) refl

  pub held_end : held g (length (steps g)) b ≡ 0
  unfolding steps
  held_end = held_walk_lem g b (length (walk g g.axes 0 [])) ∙ walk_over g.axes 0 [] (length (walk g g.axes 0 [])) (le_refl _)

  -- ---- of each axis one choice at a time is held, and none has more cells than the root's child

  module _ (ok : Lawful g) (on : b < boards g) where
    extent_pos : (i : ℕ) → i < g.axes → 1 ≤ extent g b i
    unfolding extent
    extent_pos i r = let q = ok.rising i (label g b i) r (label_lt g ok b i on r) in omega arith

    axis_le : (Y : List ℕ) (j i : ℕ) → i < g.axes → box g (j ∷ Y) b i ≤ box g (j ∷ []) b i
    unfolding box kept has
    axis_le Y j i r =
        by (eqb i j)
        (λ t. rw t (omega arith))
        (λ t. by (has Y i) (λ s. rw (t, s) (extent_pos i r)) (λ s. rw (t, s) (le_refl (extent g b i))))

    own_le : (Y : List ℕ) (j : ℕ) → own g b (j ∷ Y) ≤ own g b (j ∷ [])
    unfolding own lead cells
    own_le Y j =
        let q = product_le (box g (j ∷ Y) b) (box g (j ∷ []) b) g.axes 0 (λ i l r. axis_le Y j i (omega arith)) in
        by (lead g Y b) (λ t. rw t q) (λ t. rw t (omega arith))

    -- the root's children that sum out one of m axes from d on
    firsts : ℕ → ℕ → ℕ
    firsts zero d = 0
    firsts (suc m) d = own g b (d ∷ []) + firsts m (d + 1)

    pick_most : (u : Bool) (n : ℕ) → pick u n 0 ≤ n
    pick_most true n = le_refl n
    pick_most false n = omega arith

    pick_least : (u : Bool) (n : ℕ) → pick u 0 n ≤ n
    pick_least true n = omega arith
    pick_least false n = le_refl n

    walk_most : (m d : ℕ) (Y : List ℕ) (at : ℕ) → held_walk g b m d Y at ≤ firsts m d
    unfolding held_walk firsts
    walk_most zero d Y at = omega arith
    walk_most (suc m) d Y at =
        let mine = pick_most (ltb (into g m d Y at) (length (visited g m d Y))) (own g b (d ∷ Y)) in
        let less = own_le Y d in
        by (ltb at (length (walk g m (d + 1) Y)))
        (λ t.
        let before : into g m d Y at ≡ 0 = omega (arith, ltb-true) in
        let shut = eq-eqb (into g m d Y at) 0 before in
        let right = walk_most m (d + 1) Y at in
        rw shut (omega arith))
        (λ t.
        let over = walk_over m (d + 1) Y at (omega (arith, ltb-false)) in
        let below = walk_most m (d + 1) (d ∷ Y) (into g m d Y at - 1) in
        let inner = pick_least (eqb (into g m d Y at) 0) (held_walk g b m (d + 1) (d ∷ Y) (into g m d Y at - 1)) in
        rw over (omega arith))

    -- and all of these are held at the beginning
    walk_begins : (m d : ℕ) → held_walk g b m d [] 0 ≡ firsts m d
    unfolding held_walk firsts
    walk_begins zero d = refl
    walk_begins (suc m) d =
        let before : into g m d [] 0 ≡ 0 = omega arith in
        let live = lt-ltb 0 (length (visited g m d [])) (let q = visit_longer (d ∷ []) m (walk g m (d + 1) (d ∷ [])) in omega arith) in
        rw (before, live, walk_begins m (d + 1)) (omega arith)

-- at the start nothing is held
pub held_start : (g : Grid) (b : ℕ) → held g 0 b ≡ 0
unfolding held held_after
held_start g b = over_alike _ (λ Z. 0) g.axes 0 [] (λ j W l x. rw (some_expands W []) (unfold fits in refl)) ∙ over_none g.axes 0 []

-- THE BOUND ON HELD. At any position a board holds at most what it holds at position 1.
pub held_most : (g : Grid) → Lawful g → (b : ℕ) → b < boards g → (at : ℕ) → held g at b ≤ held g 1 b
held_most g ok b on zero = rw (held_start g b) (omega arith)
held_most g ok b on (suc at) = rw (held_walk_lem g b at, held_walk_lem g b 0, walk_begins g b ok on g.axes 0) (walk_most g b ok on g.axes 0 [] at)
