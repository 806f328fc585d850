-- What a board holds, as the sum over all choices that are formed and not finished, is what the walk says.
use Prim.Native.Nat.{ℕ, zero, suc, ◌+◌, ◌-◌, ◌≤◌}
use mathlib.Core.Path.{◌≡◌, sym, ◌∙◌, refl, ap, ap₂}
use mathlib.Core.Bool.{Bool, true, false, ◌&&◌, ◌||◌, not}
use mathlib.Core.List.{List, [], ◌∷◌, ◌++◌}
use native.Mathlib.Omega.{arith}
use borrow.Author.Tests.{ne_eqb, ltb-true, ltb-false}
use lib.Dec.{eqb, ltb}
use lib.ListN.{length, take, length-append}
use Rattle.cube_spec.specs.Boxes.{pick}
use Rattle.cube_spec.specs.Tree.{has, parent_of, over_sets_from}
use Rattle.cube_spec.proofs.Sums.{by}
use Rattle.cube_spec.proofs.Naturals.{clash}
use Rattle.cube_spec.proofs.Sets.{Down, down_up, down_out, has_head}
use Rattle.rack_spec.specs.Grids.{Grid, boards}
use Rattle.rack_spec.specs.Steps.{TreeStep, expand, finish, transfers, around, walk, steps}
use Rattle.rack_spec.specs.Held.{same, expands_it, finishes_it, own, held_after, held}
use Rattle.rack_spec.specs.Finding.{into, visited, held_walk}
use Rattle.rack_spec.proofs.Finishing.{same_refl}
use Rattle.rack_spec.proofs.Begun.{take_joined, fits, some_expands, none_finishes, fits_joined, fits_first, Seeks, seeks_expand, seeks_finish, Alike, alike_more, over_alike, transfers_none, visit_none, walk_none}

-- ---- a walk's first steps, part by part

-- sets that differ on a place
differ : (Z W : List ℕ) (d : ℕ) → has Z d ≡ true → has W d ≡ false → Z ≡ W → ⊥
differ Z W d p q e = clash (sym p ∙ ap (λ Y. has Y d) e ∙ q)

module _ (g : Grid) (m d : ℕ) (Y : List ℕ) (h : Down Y d) (at : ℕ) where
  out : has Y d ≡ false
  out = down_out Y d d h (omega arith)

  module _ {t : TreeStep → Bool} {Z : List ℕ} (s : Seeks t Z) where
    -- transfers play no part
    parts_of : fits t (take at (walk g (suc m) d Y)) ≡ (fits t (take at (walk g m (d + 1) Y)) || fits t (take (into g m d Y at) (visited g m d Y)))
    unfolding walk
    parts_of =
        let first = walk g m (d + 1) Y in
        let sent = transfers g (d ∷ Y) (boards g) in
        let quiet : fits t (take (at - length first) sent) ≡ false = fits_first t (at - length first) sent (transfers_none s g (d ∷ Y) (boards g)) in
        ap (fits t) (take_joined at first (sent ++ visited g m d Y)) ∙ fits_joined t (take at first) (take (at - length first) (sent ++ visited g m d Y)) ∙ ap (λ (b : Bool). fits t (take at first) || b) (ap (fits t) (take_joined (at - length first) sent (visited g m d Y)) ∙ fits_joined t (take (at - length first) sent) (take (into g m d Y at) (visited g m d Y)) ∙ simp quiet refl)

    -- a choice that keeps axis d is met among the siblings alone, one that sums it out in the visit alone
    pub in_siblings : has Z d ≡ false → fits t (take at (walk g (suc m) d Y)) ≡ fits t (take at (walk g m (d + 1) Y))
    in_siblings e =
        let child : Z ≡ d ∷ Y → ⊥ = λ q. differ (d ∷ Y) Z d (has_head d Y) e (sym q) in
        let below = walk_none s g m (d + 1) (d ∷ Y) (λ j W l x q. differ (j ∷ W) Z d (alike_more (d + 1) j (d ∷ Y) W l x d (omega arith) ∙ has_head d Y) e (sym q)) in
        let o : fits t (take (into g m d Y at) (visited g m d Y)) ≡ false = fits_first t (into g m d Y at) (visited g m d Y) (visit_none s g m (d ∷ Y) _ child below) in
        parts_of ∙ by (fits t (take at (walk g m (d + 1) Y))) (λ x. simp (x, o) refl) (λ x. simp (x, o) refl)

    pub in_child : has Z d ≡ true → fits t (take at (walk g (suc m) d Y)) ≡ fits t (take (into g m d Y at) (visited g m d Y))
    in_child e =
        let o : fits t (take at (walk g m (d + 1) Y)) ≡ false = fits_first t at (walk g m (d + 1) Y) (walk_none s g m (d + 1) Y (λ j W l x. differ Z (j ∷ W) d e (alike_more (d + 1) j Y W l x d (omega arith) ∙ out))) in
        parts_of ∙ simp o refl

-- ---- the visit

-- the last step of a visit finishes the choice, and no step before it does
finish_last : (Y : List ℕ) (l : List TreeStep) → fits (finishes_it Y) l ≡ false → (v : ℕ) → not (fits (finishes_it Y) (take v (l ++ (finish Y ∷ [])))) ≡ ltb v (length l + 1)
unfolding fits
finish_last Y l e v =
    let first = fits_first (finishes_it Y) v l e in
    let split : fits (finishes_it Y) (take v (l ++ (finish Y ∷ []))) ≡ fits (finishes_it Y) (take (v - length l) (finish Y ∷ [])) =
    ap (fits (finishes_it Y)) (take_joined v l (finish Y ∷ [])) ∙ fits_joined (finishes_it Y) (take v l) (take (v - length l) (finish Y ∷ [])) ∙ simp first refl in
    by (ltb v (length l + 1))
    (λ q. let z : v - length l ≡ 0 = omega (arith, ltb-true) in rw (split, z, q) refl)
    (λ q. let z : v - length l ≡ suc (v - length l - 1) = omega (arith, ltb-false) in rw (split, z) (simp (same_refl Y, q) refl))

-- a test that the last step does not fit
without_last : (t : TreeStep → Bool) (s : TreeStep) → t s ≡ false → (v : ℕ) (l : List TreeStep) → fits t (take v (l ++ (s ∷ []))) ≡ fits t (take v l)
unfolding fits
without_last t s e v l =
    let o : fits t (take (v - length l) (s ∷ [])) ≡ false = fits_first t (v - length l) (s ∷ []) (simp e refl) in
    ap (fits t) (take_joined v l (s ∷ [])) ∙ fits_joined t (take v l) (take (v - length l) (s ∷ [])) ∙ by (fits t (take v l)) (λ x. simp (x, o) refl) (λ x. simp (x, o) refl)

visit_finish : (g : Grid) (m d : ℕ) (Y : List ℕ) → Down Y d → (v : ℕ) → not (fits (finishes_it Y) (take v (around Y m (walk g m d Y)))) ≡ ltb v (length (around Y m (walk g m d Y)))
visit_finish g m d Y h v = ends m (walk g m d Y) (walk_none (seeks_finish Y) g m d Y (λ j W l x q. differ (j ∷ W) Y j (has_head j W) (down_out Y d j h l) (sym q))) v
  where
    ends : (m : ℕ) (l : List TreeStep) → fits (finishes_it Y) l ≡ false → (v : ℕ) → not (fits (finishes_it Y) (take v (around Y m l))) ≡ ltb v (length (around Y m l))
    ends zero l e v = finish_last Y l e v ∙ ap (ltb v) (sym (length-append l (finish Y ∷ [])))
    ends (suc m) l e v = finish_last Y (expand Y ∷ l) (unfold fits in e) v ∙ ap (ltb v) (sym (length-append (expand Y ∷ l) (finish Y ∷ [])))

pub over_none : (m d : ℕ) (Y : List ℕ) → over_sets_from (λ Z. 0) m d Y ≡ 0
unfolding over_sets_from
over_none zero d Y = refl
over_none (suc m) d Y = rw (over_none m (d + 1) Y, over_none m (d + 1) (d ∷ Y)) refl

module _ (g : Grid) (b : ℕ) where
  -- the cells of a choice whose parent is expanded in l and that is not finished there
  abbrev seen : List TreeStep → List ℕ → ℕ
  seen l Z = pick (fits (expands_it (parent_of Z)) l && not (fits (finishes_it Z) l)) (own g b Z) 0

  -- the same where Y was expanded before
  abbrev alive : List TreeStep → List ℕ → List ℕ → ℕ
  alive l Y Z = pick ((same (parent_of Z) Y || fits (expands_it (parent_of Z)) l) && not (fits (finishes_it Z) l)) (own g b Z) 0

  -- the visit's first step expands Y
  opened : (m d : ℕ) (Y : List ℕ) (v j : ℕ) (W : List ℕ) → Down Y d → d ≤ j → seen (take (suc v) (around Y (suc m) (walk g (suc m) d Y))) (j ∷ W) ≡ alive (take v (walk g (suc m) d Y)) Y (j ∷ W)
  unfolding fits
  opened m d Y v j W h l =
      let e = without_last (expands_it W) (finish Y) refl v (walk g (suc m) d Y) in
      let o : same (j ∷ W) Y ≡ false = (seeks_finish (j ∷ W)).other_finish Y (differ (j ∷ W) Y j (has_head j W) (down_out Y d j h l)) in
      let f = without_last (finishes_it (j ∷ W)) (finish Y) o v (walk g (suc m) d Y) in
      simp (e, f) refl

  visit_alive : (m d : ℕ) (Y : List ℕ) (v : ℕ) → Down Y d → over_sets_from (seen (take v (around Y m (walk g m d Y)))) m d Y ≡ pick (eqb v 0) 0 (over_sets_from (alive (take (v - 1) (walk g m d Y)) Y) m d Y)
  unfolding fits
  visit_alive zero d Y v h = unfold over_sets_from in by (eqb v 0) (λ e. simp e refl) (λ e. simp e refl)
  visit_alive (suc m) d Y zero h = over_none (suc m) d Y
  visit_alive (suc m) d Y (suc v) h =
      let e : suc v - 1 ≡ v = omega arith in
      let z : eqb (suc v) 0 ≡ false = ne_eqb (suc v) 0 (λ q. omega arith) in
      rw (e, z) (over_alike _ _ (suc m) d Y (λ j W l x. opened m d Y v j W h l))

  module _ (m d : ℕ) (Y : List ℕ) (h : Down Y d) (at : ℕ) where
    siblings_alive : (j : ℕ) (W : List ℕ) → d + 1 ≤ j → Alike (d + 1) Y W → alive (take at (walk g (suc m) d Y)) Y (j ∷ W) ≡ alive (take at (walk g m (d + 1) Y)) Y (j ∷ W)
    siblings_alive j W l x =
        let e = in_siblings g m d Y h at (seeks_expand W) (x d (omega arith) ∙ out g m d Y h at) in
        let f = in_siblings g m d Y h at (seeks_finish (j ∷ W)) (alike_more (d + 1) j Y W l x d (omega arith) ∙ out g m d Y h at) in
        simp (e, f) refl

    child_alive : alive (take at (walk g (suc m) d Y)) Y (d ∷ Y) ≡ pick (ltb (into g m d Y at) (length (visited g m d Y))) (own g b (d ∷ Y)) 0
    child_alive =
        let f = in_child g m d Y h at (seeks_finish (d ∷ Y)) (has_head d Y) in
        let l = visit_finish g m (d + 1) (d ∷ Y) (omega arith, h) (into g m d Y at) in
        simp (same_refl Y, f, l) refl

    below_alive : (j : ℕ) (W : List ℕ) → d + 1 ≤ j → Alike (d + 1) (d ∷ Y) W → alive (take at (walk g (suc m) d Y)) Y (j ∷ W) ≡ seen (take (into g m d Y at) (visited g m d Y)) (j ∷ W)
    below_alive j W l x =
        let k : has W d ≡ true = x d (omega arith) ∙ has_head d Y in
        let o : same W Y ≡ false = (seeks_finish W).other_finish Y (differ W Y d k (out g m d Y h at)) in
        let e = in_child g m d Y h at (seeks_expand W) k in
        let f = in_child g m d Y h at (seeks_finish (j ∷ W)) (alike_more (d + 1) j (d ∷ Y) W l x d (omega arith) ∙ has_head d Y) in
        simp (o, e, f) refl

  walk_alive : (m d : ℕ) (Y : List ℕ) (at : ℕ) → Down Y d → over_sets_from (alive (take at (walk g m d Y)) Y) m d Y ≡ held_walk g b m d Y at
  unfolding over_sets_from held_walk
  walk_alive zero d Y at h = refl
  walk_alive (suc m) d Y at h =
      ap₂ ◌+◌
      (over_alike (alive (take at (walk g (suc m) d Y)) Y) (alive (take at (walk g m (d + 1) Y)) Y) m (d + 1) Y (λ j W l x. siblings_alive m d Y h at j W l x) ∙ walk_alive m (d + 1) Y at (down_up Y d (d + 1) (omega arith) h))
      (ap₂ ◌+◌
      (child_alive m d Y h at)
      (over_alike (alive (take at (walk g (suc m) d Y)) Y) (seen (take (into g m d Y at) (visited g m d Y))) m (d + 1) (d ∷ Y) (λ j W l x. below_alive m d Y h at j W l x) ∙ visit_alive m (d + 1) (d ∷ Y) (into g m d Y at) (omega arith, h) ∙ ap (pick (eqb (into g m d Y at) 0) 0) (walk_alive m (d + 1) (d ∷ Y) (into g m d Y at - 1) (omega arith, h))))

  -- WHAT IS HELD after the first step is what the walk says
  pub held_walk_lem : (at : ℕ) → held g (suc at) b ≡ held_walk g b g.axes 0 [] at
  unfolding held held_after steps
  held_walk_lem at =
      over_alike _ _ g.axes 0 [] (λ j W l x. rw (some_expands W (expand [] ∷ take at (walk g g.axes 0 [])), none_finishes (j ∷ W) (expand [] ∷ take at (walk g g.axes 0 []))) (unfold fits in refl)) ∙ walk_alive g.axes 0 [] at tt
