-- Lists of checks, one after the other: the first that is due decides, and a list of which none is due is passed over.
use Prim.Native.Nat.{ℕ, ◌<◌}
use mathlib.Core.Path.{◌≡◌, refl, sym}
use mathlib.Core.Bool.{Bool, true, false}
use mathlib.Core.List.{List, [], ◌∷◌, ◌++◌}
use native.Mathlib.Omega.{arith}
use borrow.Author.Tests.{eqb-false}
use lib.Dec.{eqb}
use Rattle.cube_spec.specs.Boxes.{pick}
use Rattle.cube_spec.specs.Checks.{Check, first}
use Rattle.cube_spec.proofs.Sums.{by}
use Rattle.cube_spec.proofs.Naturals.{clash}

-- no check has the number 0
abbrev pub Numbered : List Check → Type 0
Numbered [] = Unit {0}
Numbered (c ∷ l) = (0 < c.number) × Numbered l

pub first_due : (l r : List Check) → (first l ≡ 0 → ⊥) → first (l ++ r) ≡ first l
unfolding first
first_due [] r h = absurd (h refl)
first_due (c ∷ l) r h = by c.due (λ t. rw t refl) (λ t. rw t (first_due l r (rw t at h)))

-- a list of which none is due: then its first check is not, nor any after it
pub none_first : (c : Check) (l : List Check) → 0 < c.number → first (c ∷ l) ≡ 0 → (c.due ≡ false) × (first l ≡ 0)
unfolding first
none_first c l n h = by c.due (λ t. let z : c.number ≡ 0 = rw t at h in absurd (omega arith)) (λ t. (t, rw t at h))

pub numbered_both : (l r : List Check) → Numbered l → Numbered r → Numbered (l ++ r)
numbered_both [] r n m = m
numbered_both (c ∷ l) r n m = (n.0, numbered_both l r n.1 m)

pub first_passed : (l r : List Check) → Numbered l → first l ≡ 0 → first (l ++ r) ≡ first r
unfolding first
first_passed [] r n h = refl
first_passed (c ∷ l) r n h = let d = none_first c l n.0 h in rw d.0 (first_passed l r n.1 d.1)

-- of two lists none is due: then none of either is
pub none_both : (l r : List Check) → Numbered l → first (l ++ r) ≡ 0 → (first l ≡ 0) × (first r ≡ 0)
unfolding first
none_both [] r n h = (refl, h)
none_both (c ∷ l) r n h =
    let d = none_first c (l ++ r) n.0 h in
    let i = none_both l r n.1 d.1 in
    (rw d.0 i.0, i.1)

-- a number that no check of a list has is never given
unfoldable pub lacks : ℕ → List Check → Bool
lacks n [] = true
lacks n (c ∷ l) = pick (eqb c.number n) false (lacks n l)

pub never : (n : ℕ) (l : List Check) → 0 < n → lacks n l ≡ true → first l ≡ n → ⊥
unfolding lacks first
never n [] h f e = omega arith
never n (c ∷ l) h f e =
    by (eqb c.number n)
    (λ s. clash (sym (rw s at f)))
    (λ s. by c.due (λ t. eqb-false c.number n s (rw t at e)) (λ t. never n l h (rw s at f) (rw t at e)))

pub lacks_both : (n : ℕ) (l r : List Check) → lacks n l ≡ true → lacks n r ≡ true → lacks n (l ++ r) ≡ true
unfolding lacks
lacks_both n [] r f h = h
lacks_both n (c ∷ l) r f h = by (eqb c.number n) (λ s. clash (sym (rw s at f))) (λ s. rw s (lacks_both n l r (rw s at f) h))
