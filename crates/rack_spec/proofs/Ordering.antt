-- The order of the steps: a choice is finished after its children, expanded once if it has any, and both after its transfers; live choices differ in their last axis.
use Prim.Native.Nat.{ℕ, zero, suc, ◌+◌, ◌-◌, ◌*◌, ◌≤◌, ◌<◌}
use mathlib.Core.Path.{◌≡◌, sym, ◌∙◌, refl, ap}
use mathlib.Core.Bool.{Bool, true, false, not}
use mathlib.Core.List.{List, [], ◌∷◌, ◌++◌}
use native.Mathlib.Nat.{zero-add, add_assoc}
use native.Mathlib.Omega.{arith}
use borrow.Author.Tests.{eqb-true, eqb-false}
use lib.Dec.{eqb}
use lib.ListN.{take}
use Rattle.cube_spec.specs.Boxes.{pick}
use Rattle.cube_spec.specs.Tree.{has, next, last_of}
use Rattle.cube_spec.proofs.Sums.{by}
use Rattle.cube_spec.proofs.Naturals.{clash, not_true, not_false}
use Rattle.cube_spec.proofs.Sets.{Down, down_up, down_out, has_head, has_other}
use Rattle.rack_spec.specs.Grids.{Grid, boards, lead}
use Rattle.rack_spec.specs.Steps.{TreeStep, expand, transfer, finish, sends, transfers, around, walk, steps}
use Rattle.rack_spec.specs.Held.{same, expands_it, finishes_it, expansions, finishes}
use Rattle.rack_spec.proofs.Every.{every_at, every_step}
use Rattle.rack_spec.proofs.Finishing.{any, same_true, same_refl, finishes_append, finished_once, set_cong, down_set, finish_down}
use Rattle.rack_spec.proofs.Begun.{fits, some_expands, none_finishes, joined_none, each_none, not_same, Alike, alike_more}

-- does a step make a transfer of Y?
abbrev pub sends_it : List ℕ → TreeStep → Bool
sends_it Y (expand Z) = false
sends_it Y (transfer Z s r n) = same Y Z
sends_it Y (finish Z) = false

-- ---- a test that fits steps of one choice alone, and the lists in which it fits none

abbrev choice_of : TreeStep → List ℕ
choice_of (expand Y) = Y
choice_of (transfer Y s r n) = Y
choice_of (finish Y) = Y

abbrev About : (TreeStep → Bool) → List ℕ → Type 0
About t Z = (x : TreeStep) → (Z ≡ choice_of x → ⊥) → t x ≡ false

about_expand : (Z : List ℕ) → About (expands_it Z) Z
about_expand Z (expand Y) h = not_same Z Y h
about_expand Z (transfer Y s r n) h = refl
about_expand Z (finish Y) h = refl

about_send : (Z : List ℕ) → About (sends_it Z) Z
about_send Z (expand Y) h = refl
about_send Z (transfer Y s r n) h = not_same Z Y h
about_send Z (finish Y) h = refl

about_finish : (Z : List ℕ) → About (finishes_it Z) Z
about_finish Z (expand Y) h = refl
about_finish Z (transfer Y s r n) h = refl
about_finish Z (finish Y) h = not_same Z Y h

quiet_transfers : (t : TreeStep → Bool) (g : Grid) (Y : List ℕ) (n : ℕ) → ((s r k : ℕ) → t (transfer Y s r k) ≡ false) → fits t (transfers g Y n) ≡ false
unfolding transfers sends fits
quiet_transfers t g Y n h =
    each_none t n _ (λ b. by (lead g Y b) (λ e. rw e (each_none t (g.parts (last_of Y) - 1) _ (λ l. rw (h _ b _)))) (λ e. rw e))

module _ {t : TreeStep → Bool} {Z : List ℕ} (a : About t Z) (g : Grid) where
  quiet_visit : (m : ℕ) (Y : List ℕ) (inner : List TreeStep) → (Z ≡ Y → ⊥) → fits t inner ≡ false → fits t (around Y m inner) ≡ false
  unfolding fits
  quiet_visit zero Y inner n e = joined_none t inner (finish Y ∷ []) e (rw (a (finish Y) n))
  quiet_visit (suc m) Y inner n e = rw (a (expand Y) n) (joined_none t inner (finish Y ∷ []) e (rw (a (finish Y) n)))

  quiet_walk : (m d : ℕ) (Y : List ℕ) → ((j : ℕ) (W : List ℕ) → d ≤ j → Alike d Y W → Z ≡ j ∷ W → ⊥) → fits t (walk g m d Y) ≡ false
  unfolding walk
  quiet_walk zero d Y q = unfold fits in refl
  quiet_walk (suc m) d Y q =
      let n = q d Y (omega arith) (λ e r. refl) in
      joined_none t (walk g m (d + 1) Y) _ (quiet_walk m (d + 1) Y (λ j W l x. q j W (omega arith) (λ e r. x e (omega arith)))) (joined_none t (transfers g (d ∷ Y) (boards g)) _ (quiet_transfers t g (d ∷ Y) (boards g) (λ s r k. a (transfer (d ∷ Y) s r k) n)) (quiet_visit m (d ∷ Y) _ n (quiet_walk m (d + 1) (d ∷ Y) (λ j W l x. q j W (omega arith) (λ e r. x e (omega arith) ∙ has_other d e Y (λ z. omega arith))))))

  -- a walk from d on leaves the places before d as they are
  quiet_away : (m d e : ℕ) (Y : List ℕ) → e < d → (has Z e ≡ has Y e → ⊥) → fits t (walk g m d Y) ≡ false
  quiet_away m d e Y l n = quiet_walk m d Y (λ j W r x q. n (ap (λ Z. has Z e) q ∙ alike_more d j Y W r x e l))

  -- and sums out a place from d on
  quiet_past : (m d : ℕ) (Y : List ℕ) → Down Z d → fits t (walk g m d Y) ≡ false
  quiet_past m d Y h =
      quiet_walk m d Y (λ j W l x q. clash (sym (has_head j W) ∙ ap (λ Z. has Z j) (sym q) ∙ down_out Z d j h l))

  -- the transfers and the visit of a child that sums out a place which Z keeps
  quiet_child : (m d : ℕ) (Y : List ℕ) → has Z d ≡ false → fits t (transfers g (d ∷ Y) (boards g) ++ around (d ∷ Y) m (walk g m (d + 1) (d ∷ Y))) ≡ false
  quiet_child m d Y e =
      let n : has Z d ≡ has (d ∷ Y) d → ⊥ = λ q. clash (sym (has_head d Y) ∙ sym q ∙ e) in
      let o : Z ≡ d ∷ Y → ⊥ = λ q. n (ap (λ Z. has Z d) q) in
      joined_none t (transfers g (d ∷ Y) (boards g)) _ (quiet_transfers t g (d ∷ Y) (boards g) (λ s r k. a (transfer (d ∷ Y) s r k) o)) (quiet_visit m (d ∷ Y) _ o (quiet_away m (d + 1) d (d ∷ Y) (omega arith) n))

-- ---- no step that s fits comes after one that t fits

module _ (s t : TreeStep → Bool) where
  abbrev Ordered : List TreeStep → Type 0
  Ordered [] = Unit {0}
  Ordered (x ∷ l) = (t x ≡ true → fits s l ≡ false) × Ordered l

  rest_none : (x : TreeStep) (l : List TreeStep) → fits s (x ∷ l) ≡ false → fits s l ≡ false
  unfolding fits
  rest_none x l e = by (s x) (λ q. clash (simp q at e)) (λ q. simp q at e)

  -- if s fits none, or t fits none
  ordered_first : (l : List TreeStep) → fits s l ≡ false → Ordered l
  ordered_first [] e = tt
  ordered_first (x ∷ l) e = let r = rest_none x l e in (λ q. r, ordered_first l r)

  ordered_last : (l : List TreeStep) → fits t l ≡ false → Ordered l
  unfolding fits
  ordered_last [] e = tt
  ordered_last (x ∷ l) e =
      by (t x) (λ q. clash (simp q at e)) (λ q. (λ p. clash (sym p ∙ q), ordered_last l (simp q at e)))

  ordered_joined : (l k : List TreeStep) → Ordered l → Ordered k → (fits t l ≡ true → fits s k ≡ false) → Ordered (l ++ k)
  unfolding fits
  ordered_joined [] k p q r = q
  ordered_joined (x ∷ l) k p q r =
      (λ e. joined_none s l k (p.0 e) (r (simp e refl)), ordered_joined l k p.1 q (λ e. r (by (t x) (λ z. simp z refl) (λ z. simp z e))))

  ordered_at : (l : List TreeStep) (x : TreeStep) (k : List TreeStep) → Ordered (l ++ (x ∷ k)) → t x ≡ true → fits s k ≡ false
  ordered_at [] x k p e = p.0 e
  ordered_at (y ∷ l) x k p e = ordered_at l x k p.1 e

  -- if t fits one of the first steps, all that s fits are among them
  ordered_take : (n : ℕ) (l : List TreeStep) → Ordered l → fits t (take n l) ≡ true → fits s l ≡ true → fits s (take n l) ≡ true
  unfolding fits
  ordered_take zero l p e q = clash (sym e)
  ordered_take (suc n) [] p e q = q
  ordered_take (suc n) (x ∷ l) p e q =
      by (s x)
      (λ z. simp z refl)
      (λ z.
      let k : fits s l ≡ true = (simp z at q) in
      simp z (by (t x) (λ y. clash (sym k ∙ p.0 y)) (λ y. ordered_take n l p.1 (simp y at e) k)))

-- A is the choice that s looks for, B that of t. If both have the same places before k and every walk from k on is in order, the whole list is.
module _
    (g : Grid)
    {s t : TreeStep → Bool}
    {A B : List ℕ}
    (a : About s A)
    (b : About t B)
    (k : ℕ)
    (alike : Alike k A B)
    (sent : (Y : List ℕ) (x r n : ℕ) → t (transfer Y x r n) ≡ false)
    (opens : (Y : List ℕ) → next Y ≤ k → Down Y (next Y) → t (expand Y) ≡ true → A ≡ Y)
    (ends : (d : ℕ) (Y : List ℕ) → d < k → s (finish (d ∷ Y)) ≡ false)
    (from : (m d : ℕ) (Y : List ℕ) → d ≡ k → Down Y d → Ordered s t (walk g m d Y)) where
  visit_ordered : (m d : ℕ) (Y : List ℕ) (inner : List TreeStep) → d < k → Down Y d → (A ≡ d ∷ Y → fits s inner ≡ false) → Ordered s t inner → Ordered s t (around (d ∷ Y) m inner)
  unfolding fits
  visit_ordered zero d Y inner l h q p = ordered_joined s t inner _ p (λ e. refl, tt) (λ e. rw (ends d Y l))
  visit_ordered (suc m) d Y inner l h q p =
      (λ e. joined_none s inner _ (q (opens (d ∷ Y) (omega arith) (omega arith, h) e)) (rw (ends d Y l)), ordered_joined s t inner _ p (λ e. refl, tt) (λ e. rw (ends d Y l)))

  walk_ordered : (m d : ℕ) (Y : List ℕ) → d ≤ k → Down Y d → Ordered s t (walk g m d Y)
  unfolding walk
  walk_ordered zero d Y l h = tt
  walk_ordered (suc m) d Y l h =
      by (eqb d k)
      (λ e. from (suc m) d Y (eqb-true d k e) h)
      (λ e.
      let ne = eqb-false d k e in
      let r : d < k = omega (arith, ne) in
      let first = walk g m (d + 1) Y in
      let sends = transfers g (d ∷ Y) (boards g) in
      let out = down_out Y d d h (omega arith) in
      by (has A d)
      (λ z.
      let o : fits t first ≡ false = quiet_away b g m (d + 1) d Y (omega arith) (λ q. clash (sym (alike d r ∙ z) ∙ q ∙ out)) in
      let below : A ≡ d ∷ Y → fits s (walk g m (d + 1) (d ∷ Y)) ≡ false = λ q. quiet_past a g m (d + 1) (d ∷ Y) (rw q (omega arith, h)) in
      let i : fits t sends ≡ false = quiet_transfers t g (d ∷ Y) (boards g) (sent (d ∷ Y)) in
      ordered_joined s t first _ (ordered_last s t first o) (ordered_joined s t sends _ (ordered_last s t sends i) (visit_ordered m d Y _ r h below (walk_ordered m (d + 1) (d ∷ Y) (omega arith) (omega arith, h))) (λ q. clash (sym q ∙ i))) (λ q. clash (sym q ∙ o)))
      (λ z.
      let o = quiet_child a g m d Y z in
      ordered_joined s t first _ (walk_ordered m (d + 1) Y (omega arith) (down_up Y d (d + 1) (omega arith) h)) (ordered_first s t _ o) (λ q. o)))

  steps_ordered : Ordered s t (steps g)
  unfolding steps
  steps_ordered = (λ e. quiet_past a g g.axes 0 [] (rw (opens [] (omega arith) tt e) tt), walk_ordered g.axes 0 [] (omega arith) tt)

-- ---- finishes

any_told : (f : ℕ → Bool) (m d e : ℕ) → d ≤ e → e < d + m → f e ≡ true → any f m d ≡ 1
unfolding any
any_told f zero d e l r t = absurd (omega arith)
any_told f (suc m) d e l r t =
    by (f d)
    (λ z. rw z)
    (λ z. rw z (by (eqb d e) (λ q. clash (sym t ∙ ap f (sym (eqb-true d e q)) ∙ z)) (λ q. let ne = eqb-false d e q in any_told f m (d + 1) e (omega (arith, ne)) (omega arith) t)))

-- each choice but the full one is finished once
pub finished_down : (g : Grid) (j : ℕ) (Y : List ℕ) → Down (j ∷ Y) g.axes → finishes (j ∷ Y) (steps g) ≡ 1
finished_down g j Y h =
    let q = h.0 in
    ap (λ Z. finishes Z (steps g)) (sym (down_set (j ∷ Y) g.axes h)) ∙ finished_once g (has (j ∷ Y)) ∙ any_told (has (j ∷ Y)) g.axes 0 j (omega arith) (omega arith) (has_head j Y)

no_finishes : (Y : List ℕ) (l : List TreeStep) → fits (finishes_it Y) l ≡ false → finishes Y l ≡ 0
no_finishes Y l e = eqb-true (finishes Y l) 0 (none_finishes Y l ∙ ap not e)

-- "finished after all its children": when a choice is finished, each of its children has been
pub finished_after_children : (g : Grid) (before rest : List TreeStep) (Y : List ℕ) (j : ℕ) → steps g ≡ before ++ (finish Y ∷ rest) → Down (j ∷ Y) g.axes → finishes (j ∷ Y) before ≡ 1
unfolding finishes
finished_after_children g before rest Y j e h =
    let o : Ordered (finishes_it (j ∷ Y)) (finishes_it Y) (steps g) =
    steps_ordered g (about_finish (j ∷ Y)) (about_finish Y) j (λ e l. sym (has_other j e Y (λ z. omega arith))) (λ Z x r n. refl) (λ Z l d q. clash (sym q)) (λ d Z l. not_same (j ∷ Y) (d ∷ Z) (λ q. let z : j ≡ d = cc in omega arith)) (λ m d Z q d'. ordered_last _ _ _ (quiet_past (about_finish Y) g m d Z (down_up Y j d (omega arith) h.1))) in
    let after : finishes (j ∷ Y) rest ≡ 0 = no_finishes (j ∷ Y) rest (ordered_at _ _ before (finish Y) rest (rw e at o) (same_refl Y)) in
    let self : same (j ∷ Y) Y ≡ false = not_same (j ∷ Y) Y (λ q. clash (sym (has_head j Y) ∙ ap (λ Z. has Z j) q ∙ down_out Y j j h.1 (omega arith))) in
    let all : finishes (j ∷ Y) (before ++ (finish Y ∷ rest)) ≡ 1 = (rw e at (finished_down g j Y h)) in
    let q : finishes (j ∷ Y) before + (pick (same (j ∷ Y) Y) 1 0 + finishes (j ∷ Y) rest) ≡ 1 = sym (finishes_append (j ∷ Y) before (finish Y ∷ rest)) ∙ all in
    let z : finishes (j ∷ Y) before + (0 + finishes (j ∷ Y) rest) ≡ 1 = (rw self at q) in
    omega arith

-- ---- expansions

no_expansions : (Y : List ℕ) (l : List TreeStep) → fits (expands_it Y) l ≡ false → expansions Y l ≡ 0
no_expansions Y l e = eqb-true (expansions Y l) 0 (not_false _ (some_expands Y l ∙ e))

expansions_append : (Y : List ℕ) (a b : List TreeStep) → expansions Y (a ++ b) ≡ expansions Y a + expansions Y b
unfolding expansions
expansions_append Y [] b = sym (zero-add _)
expansions_append Y (s ∷ a) b = ap (λ n. pick (expands_it Y s) 1 0 + n) (expansions_append Y a b) ∙ sym (add_assoc (pick (expands_it Y s) 1 0) (expansions Y a) (expansions Y b))

-- Z is expanded c times as often as it is finished
module _ (g : Grid) (Z : List ℕ) (c : ℕ) (leaf : g.axes ≤ next Z → c ≡ 0) (inner : next Z < g.axes → c ≡ 1) where
  abbrev Level : List TreeStep → Type 0
  Level l = expansions Z l ≡ c * finishes Z l

  level_joined : (l k : List TreeStep) → Level l → Level k → Level (l ++ k)
  level_joined l k p q = rw (expansions_append Z l k, finishes_append Z l k, p, q) (omega arith)

  level_visit : (m d : ℕ) (Y : List ℕ) (l : List TreeStep) → d + suc m ≡ g.axes → Level l → Level (around (d ∷ Y) m l)
  unfolding expansions finishes
  level_visit zero d Y l e p =
      level_joined l (finish (d ∷ Y) ∷ []) p (by (same Z (d ∷ Y)) (λ z. let q = ap next (same_true Z (d ∷ Y) z) in rw (z, leaf (omega arith)) (omega arith)) (λ z. rw z (omega arith)))
  level_visit (suc m) d Y l e p =
      rw (expansions_append Z l (finish (d ∷ Y) ∷ []), finishes_append Z l (finish (d ∷ Y) ∷ []), p) (by (same Z (d ∷ Y)) (λ z. let q = ap next (same_true Z (d ∷ Y) z) in rw (z, inner (omega arith)) (omega arith)) (λ z. rw z (omega arith)))

  level_walk : (m d : ℕ) (Y : List ℕ) → d + m ≡ g.axes → Level (walk g m d Y)
  unfolding walk
  level_walk zero d Y e = unfold expansions finishes in omega arith
  level_walk (suc m) d Y e =
      let sends = transfers g (d ∷ Y) (boards g) in
      let p = no_expansions Z sends (quiet_transfers (expands_it Z) g (d ∷ Y) (boards g) (λ s r k. refl)) in
      let q = no_finishes Z sends (quiet_transfers (finishes_it Z) g (d ∷ Y) (boards g) (λ s r k. refl)) in
      level_joined (walk g m (d + 1) Y) _ (level_walk m (d + 1) Y (omega arith)) (level_joined sends _ (rw (p, q) (omega arith)) (level_visit m d Y _ e (level_walk m (d + 1) (d ∷ Y) (omega arith))))

-- the count of a choice's expansions in the whole list
expanded_times : (g : Grid) (j : ℕ) (Y : List ℕ) (c : ℕ) → (g.axes ≤ suc j → c ≡ 0) → (suc j < g.axes → c ≡ 1) → Down (j ∷ Y) g.axes → expansions (j ∷ Y) (steps g) ≡ c
unfolding steps expansions finishes same
expanded_times g j Y c leaf inner h =
    let p : finishes (j ∷ Y) (walk g g.axes 0 []) ≡ 1 = sym (zero-add _) ∙ finished_down g j Y h in
    let q = level_walk g (j ∷ Y) c leaf inner g.axes 0 [] (zero-add g.axes) in
    rw (q, p) (omega arith)

-- "expanded if it has children of its own": a choice with children is expanded exactly once
pub expanded_once : (g : Grid) (Y : List ℕ) → Down Y g.axes → next Y < g.axes → expansions Y (steps g) ≡ 1
unfolding steps expansions same
expanded_once g [] h l =
    let q = no_expansions [] (walk g g.axes 0 []) (quiet_past (about_expand []) g g.axes 0 [] tt) in
    rw q (omega arith)
expanded_once g (j ∷ Y) h l = expanded_times g j Y 1 (λ q. absurd (omega arith)) (λ q. refl) h

-- and one without children never; only a plan of no axes would have a root without children
pub leaf_never_expanded : (g : Grid) (Y : List ℕ) → 0 < g.axes → Down Y g.axes → g.axes ≤ next Y → expansions Y (steps g) ≡ 0
leaf_never_expanded g [] some h l = absurd (omega arith)
leaf_never_expanded g (j ∷ Y) some h l = expanded_times g j Y 0 (λ q. refl) (λ q. absurd (omega arith)) h

-- ---- transfers: "Each child is first made final by transfers"

down_next : (Y : List ℕ) (n : ℕ) → Down Y n → Down Y (next Y)
down_next [] n h = tt
down_next (j ∷ Y) n h = (omega arith, h.1)

abbrev Shape : ℕ → TreeStep → Type 0
Shape n (expand Y) = Down Y n
Shape n (transfer Y s r k) = Unit {0}
Shape n (finish Y) = Unit {0}

-- each expansion is of axes below n, the last first
expand_down : (g : Grid) (before rest : List TreeStep) (Y : List ℕ) → steps g ≡ before ++ (expand Y ∷ rest) → Down Y g.axes
expand_down g before rest Y e =
    every_at (Shape g.axes) before (expand Y) rest (rw e at (every_step (Shape g.axes) g (λ Y h. h) (λ Y j b l d h t r. tt) (λ Y h n. tt)))

-- what t looks for of Y comes after the transfers of Y
sends_first : (g : Grid) (Y : List ℕ) (t : TreeStep → Bool) → About t Y → ((Z : List ℕ) (s r n : ℕ) → t (transfer Z s r n) ≡ false) → ((Z : List ℕ) → t (expand Z) ≡ true → Y ≡ Z) → Down Y g.axes → Ordered (sends_it Y) t (steps g)
sends_first g Y t a sent opens h =
    steps_ordered g (about_send Y) a (next Y) (λ e l. refl) sent (λ Z l d. opens Z) (λ d Z l. refl) (λ m d Z q d'. ordered_last _ _ _ (quiet_past a g m d Z (down_up Y (next Y) d (omega arith) (down_next Y g.axes h))))

-- no transfer of a choice comes after its expansion
pub expanded_after_transfers : (g : Grid) (before rest : List TreeStep) (Y : List ℕ) → steps g ≡ before ++ (expand Y ∷ rest) → fits (sends_it Y) rest ≡ false
expanded_after_transfers g before rest Y e =
    let o = sends_first g Y (expands_it Y) (about_expand Y) (λ Z s r n. refl) (λ Z q. same_true Y Z q) (expand_down g before rest Y e) in
    ordered_at _ _ before (expand Y) rest (rw e at o) (same_refl Y)

-- nor after its finish
pub finished_after_transfers : (g : Grid) (before rest : List TreeStep) (Y : List ℕ) → steps g ≡ before ++ (finish Y ∷ rest) → fits (sends_it Y) rest ≡ false
finished_after_transfers g before rest Y e =
    let o = sends_first g Y (finishes_it Y) (about_finish Y) (λ Z s r n. refl) (λ Z q. clash (sym q)) (finish_down g before rest Y e) in
    ordered_at _ _ before (finish Y) rest (rw e at o) (same_refl Y)

-- ---- live choices

-- the first place below n on which two sets differ, if there is one
first_difference : {C : Type 0} (W U : List ℕ) (n : ℕ) → (Alike n U W → C) → ((k : ℕ) → k < n → Alike k U W → has W k ≡ false → has U k ≡ true → C) → ((k : ℕ) → k < n → Alike k W U → has U k ≡ false → has W k ≡ true → C) → C
first_difference W U zero none left right = none (λ e l. absurd (omega arith))
first_difference W U (suc n) none left right =
    first_difference W U n
    (λ x.
    let all : has W n ≡ has U n → Alike (suc n) U W = λ q e l. by (eqb e n) (λ z. rw (eqb-true e n z) q) (λ z. let ne = eqb-false e n z in x e (omega (arith, ne))) in
    by (has W n)
    (λ p. by (has U n) (λ q. none (all (p ∙ sym q))) (λ q. right n (omega arith) (λ e l. sym (x e l)) q p))
    (λ p. by (has U n) (λ q. left n (omega arith) x p q) (λ q. none (all (p ∙ sym q)))))
    (λ k l. left k (omega arith))
    (λ k l. right k (omega arith))

down_alike : (W U : List ℕ) (n : ℕ) → Down W n → Down U n → Alike n U W → W ≡ U
down_alike W U n h k x = sym (down_set W n h) ∙ set_cong (has W) (has U) n x ∙ down_set U n k

-- at an axis that A keeps and B sums out, no more of A comes once B is met
turn_ordered : (g : Grid) {s t : TreeStep → Bool} {A B : List ℕ} → About s A → About t B → (m d : ℕ) (Y : List ℕ) → Down Y d → has A d ≡ false → has B d ≡ true → Ordered s t (walk g m d Y)
unfolding walk
turn_ordered g a b zero d Y h p q = tt
turn_ordered g a b (suc m) d Y h p q =
    let o = quiet_away b g m (d + 1) d Y (omega arith) (λ z. clash (sym q ∙ z ∙ down_out Y d d h (omega arith))) in
    let i = quiet_child a g m d Y p in
    ordered_joined _ _ (walk g m (d + 1) Y) _ (ordered_last _ _ _ o) (ordered_first _ _ _ i) (λ z. i)

-- of two choices that agree on the axes before k, the one that keeps k is finished before the one that sums it out is expanded
kept_first : (g : Grid) (j k : ℕ) (W U : List ℕ) → k < j → Down U j → Alike k U W → has W k ≡ false → has U k ≡ true → Ordered (finishes_it (j ∷ W)) (expands_it U) (steps g)
kept_first g j k W U l h x p q =
    steps_ordered g (about_finish (j ∷ W)) (about_expand U) k (λ e r. sym (x e r) ∙ sym (has_other j e W (λ z. omega arith))) (λ Y s r n. refl) opens (λ d Y r. not_same (j ∷ W) (d ∷ Y) (λ z. let y : j ≡ d = cc in omega arith)) from
  where
    opens : (Y : List ℕ) → next Y ≤ k → Down Y (next Y) → same U Y ≡ true → j ∷ W ≡ Y
    opens Y r d z = clash (sym q ∙ ap (λ Z. has Z k) (same_true U Y z) ∙ down_out Y (next Y) k d r)

    from : (m d : ℕ) (Y : List ℕ) → d ≡ k → Down Y d → Ordered (finishes_it (j ∷ W)) (expands_it U) (walk g m d Y)
    from m d Y e i =
        turn_ordered g (about_finish (j ∷ W)) (about_expand U) m d Y i (rw e (has_other j k W (λ z. omega arith) ∙ p)) (rw e q)

-- LIVE CHOICES: their parents are expanded and they are not finished. At any position no two have the same last summed axis, so they stand in different regions.
pub live_apart : (g : Grid) (at j : ℕ) (W U : List ℕ) → Down (j ∷ W) g.axes → Down (j ∷ U) g.axes
    → not (eqb (expansions W (take at (steps g))) 0) ≡ true → eqb (finishes (j ∷ W) (take at (steps g))) 0 ≡ true
    → not (eqb (expansions U (take at (steps g))) 0) ≡ true → eqb (finishes (j ∷ U) (take at (steps g))) 0 ≡ true
    → W ≡ U
live_apart g at j W U h k begun unfinished begun' unfinished' =
    first_difference W U j (down_alike W U j h.1 k.1)
    (λ e l x p q. late W U h unfinished begun' (kept_first g j e W U l k.1 x p q))
    (λ e l x p q. late U W k unfinished' begun (kept_first g j e U W l h.1 x p q))
  where
    late : {C : Type 0} (W U : List ℕ) → Down (j ∷ W) g.axes → eqb (finishes (j ∷ W) (take at (steps g))) 0 ≡ true → not (eqb (expansions U (take at (steps g))) 0) ≡ true → Ordered (finishes_it (j ∷ W)) (expands_it U) (steps g) → C
    late W U h u b o =
        let all : fits (finishes_it (j ∷ W)) (steps g) ≡ true = not_false _ (sym (none_finishes (j ∷ W) (steps g)) ∙ ap (λ n. eqb n 0) (finished_down g j W h)) in
        clash (sym (ordered_take _ _ at (steps g) o (sym (some_expands U (take at (steps g))) ∙ b) all) ∙ not_true _ (sym (none_finishes (j ∷ W) (take at (steps g))) ∙ u))
