-- What a board holds along a walk, part by part, as the code descends.
use Prim.Native.Nat.{ℕ, zero, suc, ◌+◌, ◌-◌, ◌*◌, ◌≤◌, ◌<◌, min}
use mathlib.Core.Path.{◌≡◌, sym, ◌∙◌, refl, ap, ap₂}
use mathlib.Core.List.{List, [], ◌∷◌}
use native.Mathlib.Nat.{zero-add, sub-zero}
use native.Mathlib.Omega.{arith}
use borrow.Author.Tests.{ne_eqb, lt-ltb, le-ltb}
use lib.Dec.{ltb}
use lib.ListN.{length, length-append}
use Rattle.cube_spec.specs.Boxes.{pick}
use Rattle.cube_spec.specs.Choices.{full_mask}
use Rattle.cube_spec.specs.Limits.{axis_limit, point_limit}
use Rattle.plan_spec.specs.declared.types.Plan.{Plan}
use Rattle.plan_spec.specs.Accepted.{Accepted}
use Rattle.rack_spec.specs.Grids.{Grid, boards}
use Rattle.rack_spec.specs.Steps.{TreeStep, finish, transfers, around, walk}
use Rattle.rack_spec.specs.Held.{own, held}
use Rattle.rack_spec.specs.Counts.{span, walk_count}
use Rattle.rack_spec.specs.Finding.{plan_grid, summed_in, into, visited, held_walk, Walking}
use Rattle.rack_spec.proofs.Tallied.{axes_same}
use Rattle.rack_spec.proofs.Alive.{held_walk_lem}
use Rattle.rack_spec.proofs.Holding.{walk_over, held_start, visit_longer}
use Rattle.rack_spec.proofs.Planned.{full_set}
use Rattle.rack_spec.proofs.Seeking.{counted, summed_out, child, child_set, as_long, as_many, fuel}

module _ (g : Grid) (b m d : ℕ) (Y : List ℕ) (at : ℕ) where
  abbrev siblings : ℕ
  siblings = length (walk g m (d + 1) Y)

  abbrev sent : ℕ
  sent = length (transfers g (d ∷ Y) (boards g))

  abbrev below : ℕ
  below = length (walk g m (d + 1) (d ∷ Y))

  -- before the visit begins, the child's cells are held and nothing below it
  not_begun : at ≤ siblings + sent → held_walk g b (suc m) d Y at ≡ held_walk g b m (d + 1) Y at + own g b (d ∷ Y)
  unfolding held_walk
  not_begun h =
      let z : into g m d Y at ≡ 0 = omega arith in
      let v = visit_longer g b (d ∷ Y) m (walk g m (d + 1) (d ∷ Y)) in
      rw (z, lt-ltb 0 (length (visited g m d Y)) (omega arith)) (omega arith)

  held_later : at < siblings → held_walk g b m (d + 1) Y at + own g b (d ∷ Y) ≡ held_walk g b (suc m) d Y at
  held_later h = sym (not_begun (omega arith))

  held_sends : siblings ≤ at → at ≤ siblings + sent → own g b (d ∷ Y) ≡ held_walk g b (suc m) d Y at
  held_sends h l = sym (not_begun l ∙ ap (λ x. x + own g b (d ∷ Y)) (walk_over g b m (d + 1) Y at h) ∙ zero-add _)

  -- once the visit has begun
  module _ (h : siblings + sent < at) where
    begun : held_walk g b (suc m) d Y at ≡ pick (ltb (at - (siblings + sent)) (length (visited g m d Y))) (own g b (d ∷ Y)) 0 + held_walk g b m (d + 1) (d ∷ Y) (at - (siblings + sent) - 1)
    unfolding held_walk
    begun =
        let z : into g m d Y at ≡ at - (siblings + sent) = omega arith in
        let over = walk_over g b m (d + 1) Y at (omega arith) in
        rw (z, over, ne_eqb (at - (siblings + sent)) 0 (λ e. omega arith)) (zero-add _)

    held_past : length (visited g m d Y) ≤ at - (siblings + sent) → 0 ≡ held_walk g b (suc m) d Y at
    held_past l =
        let v = visit_longer g b (d ∷ Y) m (walk g m (d + 1) (d ∷ Y)) in
        let o = walk_over g b m (d + 1) (d ∷ Y) (at - (siblings + sent) - 1) (omega arith) in
        sym (begun ∙ rw (le-ltb (at - (siblings + sent)) (length (visited g m d Y)) l, o) refl)

    held_inside : at - (siblings + sent) < length (visited g m d Y) → held_walk g b m (d + 1) (d ∷ Y) (at - (siblings + sent) - 1) + own g b (d ∷ Y) ≡ held_walk g b (suc m) d Y at
    held_inside l = sym (begun ∙ rw (lt-ltb (at - (siblings + sent)) (length (visited g m d Y)) l) (omega arith))

pub no_child : (g : Grid) (b m d : ℕ) (Y : List ℕ) (at : ℕ) → m ≡ 0 → 0 ≡ held_walk g b m d Y at
unfolding held_walk
no_child g b m d Y at e = rw e refl

-- how long a visit is
visit_leaf : (g : Grid) (d : ℕ) (Y : List ℕ) → length (visited g 0 d Y) ≡ 1
unfolding walk
visit_leaf g d Y = refl

visit_inner : (Y : List ℕ) (m : ℕ) (inner : List TreeStep) → length (around Y (suc m) inner) ≡ length inner + 2
visit_inner Y m inner = let q = length-append inner (finish Y ∷ []) in omega arith

visit_some : (g : Grid) (m d : ℕ) (Y : List ℕ) → (m ≡ 0 → ⊥) → length (visited g m d Y) ≡ length (walk g m (d + 1) (d ∷ Y)) + 2
visit_some g zero d Y h = absurd (h refl)
visit_some g (suc m) d Y h = visit_inner (d ∷ Y) m (walk g (suc m) (d + 1) (d ∷ Y))

-- no more than the points for each axis
pub bound : {x y n d : ℕ} → x ≤ point_limit * (n - (d + 1)) → y ≤ point_limit → d < n → x + y ≤ point_limit * (n - d)
bound a b h = omega arith

pub bound_own : {y n d : ℕ} → y ≤ point_limit → d < n → y ≤ point_limit * (n - d)
bound_own b h = omega arith

-- ---- as the code counts

module _ {q : Plan} (ok : Accepted q) {mask d n : ℕ} (w : Walking q mask d n) (b : ℕ) (h : d < q.axes) where
  abbrev whole : ℕ → ℕ
  whole at = held_walk (plan_grid q) b (q.axes - d) d (summed_in q mask) at

  abbrev mine : ℕ
  mine = own (plan_grid q) b (summed_in q (child ok w h))

  one_more : (at : ℕ) → held_walk (plan_grid q) b (suc (q.axes - (d + 1))) d (summed_in q mask) at ≡ whole at
  one_more at = ap (λ m. held_walk (plan_grid q) b m d (summed_in q mask) at) (sym (fuel ok w h))

  mine_same : mine ≡ own (plan_grid q) b (d ∷ summed_in q mask)
  mine_same = ap (own (plan_grid q) b) (child_set ok w h)

  module _ {later at : ℕ} (e : later ≡ walk_count (plan_grid q) (q.axes - (d + 1)) (d + 1) (n * (plan_grid q).parts d)) where
    pub later_held : at < later → held_walk (plan_grid q) b (q.axes - (d + 1)) (d + 1) (summed_in q mask) at + mine ≡ whole at
    later_held l =
        ap (λ x. held_walk (plan_grid q) b (q.axes - (d + 1)) (d + 1) (summed_in q mask) at + x) mine_same
        ∙ held_later (plan_grid q) b (q.axes - (d + 1)) d (summed_in q mask) at (rw (as_long ok w h e) l) ∙ one_more at

    module _ {count : ℕ} (o : count ≡ n * span (plan_grid q) (q.axes - (d + 1)) (d + 1) * ((plan_grid q).parts d - 1)) where
      pub sends_held : later ≤ at → at ≤ later + count → mine ≡ whole at
      sends_held l r =
          mine_same ∙ held_sends (plan_grid q) b (q.axes - (d + 1)) d (summed_in q mask) at (rw (as_long ok w h e) l) (rw (as_long ok w h e, as_many ok w h o) r) ∙ one_more at

      module _ (l : later + count < at) where
        begins : length (walk (plan_grid q) (q.axes - (d + 1)) (d + 1) (summed_in q mask)) + length (transfers (plan_grid q) (d ∷ summed_in q mask) (boards (plan_grid q))) < at
        begins = rw (as_long ok w h e, as_many ok w h o) l

        pub leaf_held : d + 1 ≡ q.axes → 0 ≡ whole at
        leaf_held z =
            let f : q.axes - (d + 1) ≡ 0 = omega arith in
            let v : length (visited (plan_grid q) (q.axes - (d + 1)) d (summed_in q mask)) ≡ 1 = ap (λ m. length (visited (plan_grid q) m d (summed_in q mask))) f ∙ visit_leaf (plan_grid q) d (summed_in q mask) in
            let s = as_long ok w h e in
            let t = as_many ok w h o in
            held_past (plan_grid q) b (q.axes - (d + 1)) d (summed_in q mask) at begins (omega arith) ∙ one_more at

        module _ {below : ℕ} (f : below ≡ walk_count (plan_grid q) (q.axes - (d + 1)) (d + 1) n) (inner : d + 1 ≡ q.axes → ⊥) where
          visit_count : length (visited (plan_grid q) (q.axes - (d + 1)) d (summed_in q mask)) ≡ below + 2
          visit_count =
              visit_some (plan_grid q) (q.axes - (d + 1)) d (summed_in q mask) (λ z. inner (omega arith))
              ∙ ap (λ x. x + 2) (ap (λ Z. length (walk (plan_grid q) (q.axes - (d + 1)) (d + 1) Z)) (sym (child_set ok w h)) ∙ counted ok (summed_out ok w h) ∙ sym f)

          pub past_held : below + 1 < at - (later + count) → 0 ≡ whole at
          past_held r =
              let s = as_long ok w h e in
              let t = as_many ok w h o in
              let v = visit_count in
              held_past (plan_grid q) b (q.axes - (d + 1)) d (summed_in q mask) at begins (omega arith) ∙ one_more at

          pub inner_held : at - (later + count) ≤ below + 1 → held_walk (plan_grid q) b (q.axes - (d + 1)) (d + 1) (summed_in q (child ok w h)) (at - (later + count) - 1) + mine ≡ whole at
          inner_held r =
              let s = as_long ok w h e in
              let t = as_many ok w h o in
              let v = visit_count in
              let p : length (walk (plan_grid q) (q.axes - (d + 1)) (d + 1) (summed_in q mask)) + length (transfers (plan_grid q) (d ∷ summed_in q mask) (boards (plan_grid q))) ≡ later + count = ap₂ ◌+◌ s t in
              ap₂ (λ Z x. held_walk (plan_grid q) b (q.axes - (d + 1)) (d + 1) Z (at - x - 1) + own (plan_grid q) b Z) (child_set ok w h) (sym p)
              ∙ held_inside (plan_grid q) b (q.axes - (d + 1)) d (summed_in q mask) at begins (omega arith) ∙ one_more at

-- ---- the whole list

module _ {q : Plan} (ok : Accepted q) (b : ℕ) where
  pub none_held : {at : ℕ} → at ≡ 0 → 0 ≡ held (plan_grid q) at b
  none_held {at} e = sym (ap (λ x. held (plan_grid q) x b) e ∙ held_start (plan_grid q) b)

  pub some_held : {at : ℕ} → (at ≡ 0 → ⊥) → held_walk (plan_grid q) b (q.axes - 0) 0 (summed_in q (full_mask (min q.axes axis_limit))) (at - 1) ≡ held (plan_grid q) at b
  some_held {at} e =
      let z : suc (at - 1) ≡ at = omega (arith, e) in
      ap₂ (λ m Z. held_walk (plan_grid q) b m 0 Z (at - 1)) (sub-zero q.axes ∙ sym (axes_same q ok)) (full_set q ok)
      ∙ sym (held_walk_lem (plan_grid q) b (at - 1)) ∙ ap (λ x. held (plan_grid q) x b) z
