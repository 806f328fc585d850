-- The planner's order: the same axes, longest first, equal lengths by lower axis number.
use Prim.Native.Nat.{ℕ}
use mathlib.Core.Path.{◌≡◌, sym, refl}
use mathlib.Core.Bool.{Bool, true, false, ◌&&◌, ◌||◌}
use mathlib.Core.List.{List, [], ◌∷◌}
use native.Mathlib.Omega.{arith}
use lib.Dec.{ltb, eqb}
use borrow.Author.Tests.{ltb-false, lt-ltb, le-ltb, eq-eqb, eqb-true, eqb-false}
use Rattle.cube_spec.specs.Boxes.{pick}
use Rattle.plan_spec.specs.Rule.{Typed, numbered, precedes, insert, sort}
use Rattle.plan_spec.proofs.Shuffled.{Shuffled, sort_shuffled, All, all_shuffled, Distinct, numbered_distinct, back}

-- each axis precedes the next
unfoldable pub Before : Typed → List Typed → Type 0
Before a [] = Unit {0}
Before a (b ∷ r) = (precedes a b ≡ true) × Before b r

unfoldable pub InOrder : List Typed → Type 0
InOrder [] = Unit {0}
InOrder (a ∷ r) = Before a r

-- of two axes with different numbers, one precedes the other
precedes_other : (a b : Typed) → (a.num ≡ b.num → ⊥) → precedes a b ≡ false → precedes b a ≡ true
unfolding precedes
precedes_other a b n h = go (ltb b.len a.len) (eqb a.len b.len) (ltb a.num b.num) refl refl refl h
  where
    go : (x y z : Bool) → ltb b.len a.len ≡ x → eqb a.len b.len ≡ y → ltb a.num b.num ≡ z → x || (y && z) ≡ false → precedes b a ≡ true
    go true y z p q r h = cc
    go false true true p q r h = cc
    go false true false p q r h =
        let e = eqb-true a.len b.len q in
        let l = ltb-false a.num b.num r in
        rw (le-ltb a.len b.len (omega arith), eq-eqb b.len a.len (sym e), lt-ltb b.num a.num (omega arith))
    go false false z p q r h =
        let u = ltb-false b.len a.len p in
        let v = eqb-false a.len b.len q in
        rw (lt-ltb a.len b.len (omega arith))

before_insert : (b a : Typed) (r : List Typed) → All (λ u. a.num ≡ u.num → ⊥) r → precedes b a ≡ true → Before b r → Before b (insert a r)
unfolding Before insert All
before_insert b a [] n p h = (p, tt)
before_insert b a (c ∷ r) n p h = go (precedes a c) refl (λ q. before_insert c a r n.1 q h.1)
  where
    go : (x : Bool) → precedes a c ≡ x → (precedes c a ≡ true → Before c (insert a r)) → Before b (pick x (a ∷ c ∷ r) (c ∷ insert a r))
    go true q i = (p, (q, h.1))
    go false q i = (h.0, i (precedes_other a c n.0 q))

insert_order : (a : Typed) (l : List Typed) → All (λ u. a.num ≡ u.num → ⊥) l → InOrder l → InOrder (insert a l)
unfolding InOrder Before insert All
insert_order a [] n h = tt
insert_order a (b ∷ r) n h = go (precedes a b) refl
  where
    go : (x : Bool) → precedes a b ≡ x → InOrder (pick x (a ∷ b ∷ r) (b ∷ insert a r))
    go true q = (q, h)
    go false q = before_insert b a r n.1 (precedes_other a b n.0 q) h

sort_order : (l : List Typed) → Distinct l → InOrder (sort l)
unfolding InOrder sort Distinct
sort_order [] d = tt
sort_order (a ∷ r) d = insert_order a (sort r) (all_shuffled _ (back (sort_shuffled r)) d.0) (sort_order r d.1)

-- The law: the planner's order is that of the paper.
pub plan_order : (ds : List ℕ) → InOrder (sort (numbered 0 ds)) × Shuffled (sort (numbered 0 ds)) (numbered 0 ds)
plan_order ds = (sort_order (numbered 0 ds) (numbered_distinct 0 ds), sort_shuffled (numbered 0 ds))
