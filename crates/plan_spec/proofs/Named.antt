-- Axes in the order in which a list names them: an order that names each axis once is a shuffle of the axes.
use Prim.Native.Nat.{ℕ, suc, ◌+◌, ◌≤◌, ◌<◌}
use mathlib.Core.Path.{◌≡◌, ◌∙◌, ap, ap₂, sym, refl}
use mathlib.Core.List.{List, [], ◌∷◌}
use native.Mathlib.Omega.{arith}
use native.Mathlib.Decide.{dec_le}
use borrow.Author.Tests.{eqb-true, eq-eqb}
use lib.Dec.{eqb}
use lib.ListN.{length}
use Rattle.cube_spec.specs.Boxes.{pick}
use Rattle.cube_spec.specs.Choices.{length_of}
use Rattle.cube_spec.proofs.Sums.{by}
use Rattle.plan_spec.specs.Plans.{count, find}
use Rattle.plan_spec.specs.Rule.{Typed, numbered, sort, numbers, order}
use Rattle.plan_spec.proofs.Orders.{find_lt, get_find, once_below}
use Rattle.plan_spec.proofs.Shuffled.{Shuffled, same, under, swap, then, sort_shuffled, All}
use Rattle.plan_spec.proofs.Places.{order_length, order_once, all_sorted}

-- the axes that a list names, each with its length
unfoldable pub named : (ℕ → ℕ) → List ℕ → List Typed
named len [] = []
named len (a ∷ o) = record { num = a; len = len a } ∷ named len o

pub named_numbers : (len : ℕ → ℕ) (o : List ℕ) → numbers (named len o) ≡ o
unfolding numbers named
named_numbers len [] = refl
named_numbers len (a ∷ o) = ap (λ (x : List ℕ). a ∷ x) (named_numbers len o)

pub named_length : (len : ℕ → ℕ) (o : List ℕ) → length (named len o) ≡ length o
unfolding named
named_length len [] = refl
named_length len (a ∷ o) = ap suc (named_length len o)

-- axes that have their lengths are those that their numbers name
numbers_named : (len : ℕ → ℕ) (l : List Typed) → All (λ t. len t.num ≡ t.len) l → named len (numbers l) ≡ l
unfolding numbers named All
numbers_named len [] h = refl
numbers_named len (t ∷ r) h =
    let e = h.0 in
    ap₂ (λ (x : Typed) (y : List Typed). x ∷ y) (λ i. record { num = t.num; len = e i }) (numbers_named len r h.1)

-- ---- two lists that name the same

without : ℕ → List ℕ → List ℕ
without a [] = []
without a (x ∷ l) = pick (eqb x a) l (x ∷ without a l)

count_without : (a b : ℕ) (l : List ℕ) → 0 < count a l → count b l ≡ pick (eqb a b) 1 0 + count b (without a l)
unfolding count without
count_without a b [] h = absurd (omega arith)
count_without a b (x ∷ l) h =
    by (eqb x a)
    (λ t. rw (t, eqb-true x a t))
    (λ t. let z : 0 < 0 + count a l = (rw t at h) in let i = count_without a b l (omega arith) in rw t (omega arith))

module _ (len : ℕ → ℕ) where
  named_first : (a : ℕ) (l : List ℕ) → 0 < count a l → Shuffled (record { num = a; len = len a } ∷ named len (without a l)) (named len l)
  unfolding count without named
  named_first a [] h = absurd (omega arith)
  named_first a (x ∷ l) h =
      by (eqb x a)
      (λ t. rw (t, eqb-true x a t) (same _))
      (λ t. let z : 0 < 0 + count a l = (rw t at h) in let i = named_first a l (omega arith) in rw t (then (swap _ _ _) (under _ i)))

  named_same : (l s : List ℕ) → ((b : ℕ) → count b l ≡ count b s) → Shuffled (named len l) (named len s)
  unfolding count named
  named_same [] [] h = same _
  named_same [] (x ∷ s) h = absurd (let e = rw (eq-eqb x x refl) at (h x) in omega arith)
  named_same (a ∷ l) s h =
      let e = rw (eq-eqb a a refl) at (h a) in
      let p : 0 < count a s = omega arith in
      let g : (b : ℕ) → count b l ≡ count b (without a s) = λ b. (let u = h b in let v = count_without a b s p in omega arith) in
      then (under _ (named_same l (without a s) g)) (named_first a s p)

-- ---- an order that names each axis once

-- it names no other
once_other : (n : ℕ) (o : List ℕ) → length o ≡ n → ((d : ℕ) → d < n → count d o ≡ 1) → (b : ℕ) → n ≤ b → count b o ≡ 0
once_other n o places once b l = go (dec_le 1 (count b o))
  where
    go : Dec (1 ≤ count b o) → count b o ≡ 0
    go (yes r) = absurd (let f = find_lt b o r in let g = get_find b o r in let q = once_below n o places once (find b o) (omega arith) in omega arith)
    go (no r) = omega (arith, r)

module _ (ds : List ℕ) where
  -- the planner's order names the axes as it sorts them
  planner_named : named (length_of ds) (order ds) ≡ sort (numbered 0 ds)
  unfolding order
  planner_named = numbers_named (length_of ds) (sort (numbered 0 ds)) (all_sorted (λ d x. length_of ds d ≡ x) ds (λ d l. refl))

  pub planner_shuffled : Shuffled (named (length_of ds) (order ds)) (numbered 0 ds)
  planner_shuffled = rw planner_named (sort_shuffled (numbered 0 ds))

  pub once_shuffled : (o : List ℕ) → length o ≡ length ds → ((d : ℕ) → d < length ds → count d o ≡ 1) → Shuffled (named (length_of ds) o) (numbered 0 ds)
  once_shuffled o places once = then (named_same (length_of ds) o (order ds) counts) planner_shuffled
    where
      counts : (b : ℕ) → count b o ≡ count b (order ds)
      counts b = go (dec_le (length ds) b)
        where
          go : Dec (length ds ≤ b) → count b o ≡ count b (order ds)
          go (yes h) = once_other (length ds) o places once b h ∙ sym (once_other (length ds) (order ds) (order_length ds) (order_once ds) b h)
          go (no h) = once b (omega (arith, h)) ∙ sym (order_once ds b (omega (arith, h)))
