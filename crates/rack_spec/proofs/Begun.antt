-- Which choices the first steps of a walk expand and finish.
use Prim.Native.Nat.{ℕ, zero, suc, ◌+◌, ◌-◌, ◌≤◌, ◌<◌}
use mathlib.Core.Path.{◌≡◌, ◌∙◌, refl, ap}
use mathlib.Core.Bool.{Bool, true, false, ◌||◌, not}
use mathlib.Core.List.{List, [], ◌∷◌, ◌++◌}
use native.Mathlib.Nat.{zero-add}
use native.Mathlib.Omega.{arith}
use borrow.Author.Tests.{ne_eqb}
use lib.Dec.{eqb}
use lib.ListN.{length, take}
use Rattle.cube_spec.specs.Boxes.{pick}
use Rattle.cube_spec.specs.Tree.{has, last_of, over_sets_from}
use Rattle.cube_spec.proofs.Sums.{by}
use Rattle.cube_spec.proofs.Naturals.{clash}
use Rattle.cube_spec.proofs.Sets.{has_other}
use Rattle.rack_spec.specs.Grids.{Grid, boards, lead}
use Rattle.rack_spec.specs.Steps.{TreeStep, expand, transfer, finish, each, sends, transfers, around, walk}
use Rattle.rack_spec.specs.Held.{same, expands_it, finishes_it, expansions, finishes}
use Rattle.rack_spec.proofs.Finishing.{same_true}

-- the first steps of two lists joined
pub take_joined : (n : ℕ) (l k : List TreeStep) → take n (l ++ k) ≡ take n l ++ take (n - length l) k
take_joined zero l k = let e : 0 - length l ≡ 0 = omega arith in rw e refl
take_joined (suc n) [] k = let e : suc n - 0 ≡ suc n = omega arith in rw e refl
take_joined (suc n) (x ∷ l) k =
    let e : suc n - suc (length l) ≡ n - length l = omega arith in
    rw e (ap (λ (r : List TreeStep). x ∷ r) (take_joined n l k))

-- ---- has a list a step that fits?

unfoldable pub fits : (TreeStep → Bool) → List TreeStep → Bool
fits t [] = false
fits t (s ∷ l) = t s || fits t l

pub some_expands : (Y : List ℕ) (l : List TreeStep) → not (eqb (expansions Y l) 0) ≡ fits (expands_it Y) l
unfolding expansions fits
some_expands Y [] = refl
some_expands Y (s ∷ l) = one (expands_it Y s) (some_expands Y l)
  where
    one : (t : Bool) → not (eqb (expansions Y l) 0) ≡ fits (expands_it Y) l → not (eqb (pick t 1 0 + expansions Y l) 0) ≡ (t || fits (expands_it Y) l)
    one true e = ap not (ne_eqb (1 + expansions Y l) 0 (λ z. omega arith))
    one false e = rw zero-add e

pub none_finishes : (Y : List ℕ) (l : List TreeStep) → eqb (finishes Y l) 0 ≡ not (fits (finishes_it Y) l)
unfolding finishes fits
none_finishes Y [] = refl
none_finishes Y (s ∷ l) = one (finishes_it Y s) (none_finishes Y l)
  where
    one : (t : Bool) → eqb (finishes Y l) 0 ≡ not (fits (finishes_it Y) l) → eqb (pick t 1 0 + finishes Y l) 0 ≡ not (t || fits (finishes_it Y) l)
    one true e = ne_eqb (1 + finishes Y l) 0 (λ z. omega arith)
    one false e = rw zero-add e

module _ (t : TreeStep → Bool) where
  pub fits_joined : (l k : List TreeStep) → fits t (l ++ k) ≡ (fits t l || fits t k)
  unfolding fits
  fits_joined [] k = refl
  fits_joined (x ∷ l) k = by (t x) (λ e. simp e refl) (λ e. simp e (fits_joined l k))

  pub joined_none : (l k : List TreeStep) → fits t l ≡ false → fits t k ≡ false → fits t (l ++ k) ≡ false
  joined_none l k e q = fits_joined l k ∙ simp (e, q) refl

  -- and so of the first steps
  pub fits_first : (n : ℕ) (l : List TreeStep) → fits t l ≡ false → fits t (take n l) ≡ false
  unfolding fits
  fits_first zero l e = refl
  fits_first (suc n) [] e = refl
  fits_first (suc n) (x ∷ l) e = by (t x) (λ q. clash (simp q at e)) (λ q. simp q (fits_first n l (simp q at e)))

  pub each_none : (n : ℕ) (f : ℕ → List TreeStep) → ((i : ℕ) → fits t (f i) ≡ false) → fits t (each n f) ≡ false
  unfolding fits each
  each_none zero f h = refl
  each_none (suc n) f h = joined_none (each n f) (f n) (each_none n f h) (h n)

-- ---- a test that looks for one choice, be it expanded or finished

pub record Seeks (t : TreeStep → Bool) (Z : List ℕ) : Type 0 where
  pub no_transfer : (Y : List ℕ) (s r n : ℕ) → t (transfer Y s r n) ≡ false
  pub other_expand : (W : List ℕ) → (Z ≡ W → ⊥) → t (expand W) ≡ false
  pub other_finish : (W : List ℕ) → (Z ≡ W → ⊥) → t (finish W) ≡ false

pub not_same : (Y Z : List ℕ) → (Y ≡ Z → ⊥) → same Y Z ≡ false
not_same Y Z h = by (same Y Z) (λ t. absurd (h (same_true Y Z t))) (λ t. t)

pub seeks_expand : (Z : List ℕ) → Seeks (expands_it Z) Z
seeks_expand Z = record { no_transfer = λ Y s r n. refl; other_expand = not_same Z; other_finish = λ W h. refl }

pub seeks_finish : (Z : List ℕ) → Seeks (finishes_it Z) Z
seeks_finish Z = record { no_transfer = λ Y s r n. refl; other_expand = λ W h. refl; other_finish = not_same Z }

-- W has just the places of Y before d
abbrev pub Alike : ℕ → List ℕ → List ℕ → Type 0
Alike d Y W = (e : ℕ) → e < d → has W e ≡ has Y e

pub alike_more : (d j : ℕ) (Y W : List ℕ) → d ≤ j → Alike d Y W → Alike d Y (j ∷ W)
alike_more d j Y W l x e r = has_other j e W (λ z. omega arith) ∙ x e r

-- the sets that a sum takes are Y with a place from d on as the last
pub over_alike : (F G : List ℕ → ℕ) (m d : ℕ) (Y : List ℕ) → ((j : ℕ) (W : List ℕ) → d ≤ j → Alike d Y W → F (j ∷ W) ≡ G (j ∷ W)) → over_sets_from F m d Y ≡ over_sets_from G m d Y
unfolding over_sets_from
over_alike F G zero d Y q = refl
over_alike F G (suc m) d Y q =
    let a = over_alike F G m (d + 1) Y (λ j W l x. q j W (omega arith) (λ e r. x e (omega arith))) in
    let b = over_alike F G m (d + 1) (d ∷ Y) (λ j W l x. q j W (omega arith) (λ e r. x e (omega arith) ∙ has_other d e Y (λ z. omega arith))) in
    let c = q d Y (omega arith) (λ e r. refl) in
    rw (a, b, c)

module _ {t : TreeStep → Bool} {Z : List ℕ} (s : Seeks t Z) (g : Grid) where
  pub transfers_none : (Y : List ℕ) (n : ℕ) → fits t (transfers g Y n) ≡ false
  unfolding transfers sends fits
  transfers_none Y n =
      each_none t n _ (λ b. by (lead g Y b) (λ e. rw e (each_none t (g.parts (last_of Y) - 1) _ (λ l. rw (s.no_transfer Y _ b _)))) (λ e. rw e))

  -- a visit of a choice that is not Z, whose walk has no Z
  pub visit_none : (m : ℕ) (Y : List ℕ) (inner : List TreeStep) → (Z ≡ Y → ⊥) → fits t inner ≡ false → fits t (around Y m inner) ≡ false
  unfolding fits
  visit_none zero Y inner n e = joined_none t inner (finish Y ∷ []) e (rw (s.other_finish Y n))
  visit_none (suc m) Y inner n e = rw (s.other_expand Y n) (joined_none t inner (finish Y ∷ []) e (rw (s.other_finish Y n)))

  -- and so are the sets of a walk
  pub walk_none : (m d : ℕ) (Y : List ℕ) → ((j : ℕ) (W : List ℕ) → d ≤ j → Alike d Y W → Z ≡ j ∷ W → ⊥) → fits t (walk g m d Y) ≡ false
  unfolding walk
  walk_none zero d Y q = unfold fits in refl
  walk_none (suc m) d Y q =
      joined_none t (walk g m (d + 1) Y) _ (walk_none m (d + 1) Y (λ j W l x. q j W (omega arith) (λ e r. x e (omega arith)))) (joined_none t (transfers g (d ∷ Y) (boards g)) _ (transfers_none (d ∷ Y) (boards g)) (visit_none m (d ∷ Y) _ (q d Y (omega arith) (λ e r. refl)) (walk_none m (d + 1) (d ∷ Y) (λ j W l x. q j W (omega arith) (λ e r. x e (omega arith) ∙ has_other d e Y (λ z. omega arith))))))
