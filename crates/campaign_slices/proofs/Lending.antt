-- Laws of a lent slice: what an entry's own checks and the slice's length make of it.
use Prim.Native.Nat.{ℕ, zero, suc, ◌+◌, ◌≤◌}
use mathlib.Core.Path.{◌≡◌, refl, sym, ap, ◌∙◌}
use mathlib.Core.List.{List, [], ◌++◌}
use native.Mathlib.Nat.{le_refl}
use native.Mathlib.Omega.{arith}
use borrow.Author.Tests.{eq-eqb, ne_eqb}
use borrow.Rule.Slice.PartMut.{put_mid}
use lib.ListN.{length, take, drop}
use lib.Seq.{sets, sets-eq, take_all}
use Rattle.std.proofs.lemmas.Slice.{put_mid-paste}
use Rattle.cube_spec.specs.Checks.{Check, first, gives, refuses, answered}
use Rattle.cube_spec.proofs.Answered.{gives_is, refuses_is, refuses_some}
use Rattle.cube_spec.specs.Refusals.{number_of}
use Rattle.cube_spec.specs.declared.refusals.Refusal.{Refusal}
use Rattle.cube_spec.proofs.Numbers.{number_positive}
use Rattle.cube_spec.proofs.Dues.{Numbered, first_due, first_passed}
use Rattle.campaign_slices.specs.Lent.{lent_refusal, written_or}

-- what a copy into a part of a slice leaves
pub copied : (l ys vs : List ℕ) (at k : ℕ) → at + k ≤ length l → ys ≡ vs → length vs ≡ k → put_mid at k l ys ≡ sets l at vs
copied l ys vs at k h e f =
    put_mid-paste at k l ys vs (length vs) e f refl
    ∙ ap (λ w. take at l ++ w ++ drop (at + length vs) l) (take_all (length vs) vs (le_refl _))
    ∙ sym (sets-eq vs l at (omega arith))

-- a refusal is some number
pub some : (x : Refusal) → number_of x ≡ 0 → ⊥
some x z = let p = number_positive x in omega arith

left_alone : {A : Type 0} (n : ℕ) (new old : List A) → (n ≡ 0 → ⊥) → written_or n new old ≡ old
unfolding written_or
left_alone zero new old h = absurd (h refl)
left_alone (suc n) new old h = refl

-- a slice of the wrong length, and of the right one
module _ {A : Type 0} (n : ℕ) (s new : List A) where
  pub wrong : (length s ≡ n → ⊥) → (13 ≡ lent_refusal [] n (length s)) × (s ≡ written_or 13 new s)
  unfolding lent_refusal first written_or
  wrong h = rw (ne_eqb (length s) n h) (refl, refl)

  pub right : length s ≡ n → (w : List A) → w ≡ new → (0 ≡ lent_refusal [] n (length s)) × (w ≡ written_or 0 new s)
  unfolding lent_refusal first written_or
  right h w e = rw (eq-eqb (length s) n h) (refl, e)

-- the cells that are put, by another name
pub put_as : (a b s w : List ℕ) (r n : ℕ) → a ≡ b → length b ≡ n → (r ≡ lent_refusal [] (length a) (length s)) × (w ≡ written_or r a s)
    → (r ≡ lent_refusal [] n (length s)) × (w ≡ written_or r b s)
put_as a b s w r n e f h = rw (e, f) at h

-- the refusal of some checks and of a slice, and the slice afterwards
module _ {A : Type 0} (checks : List Check) (n : ℕ) (s : List A) where
  abbrev lent : ℕ
  lent = lent_refusal checks n (length s)

  pub refused : (k : ℕ) → k ≡ first checks → (k ≡ 0 → ⊥) → (new : List A) → (k ≡ lent) × (s ≡ written_or lent new s)
  unfolding lent_refusal
  refused k e h new =
      let q : k ≡ lent = e ∙ sym (first_due checks _ (λ z. h (e ∙ z))) in
      (q, sym (left_alone lent new s (λ z. h (q ∙ z))))

  pub passed : Numbered checks → first checks ≡ 0 → (r : ℕ) (new w : List A) → r ≡ lent_refusal [] n (length s) → w ≡ written_or r new s
      → (r ≡ lent) × (w ≡ written_or lent new s)
  unfolding lent_refusal
  passed p e r new w er ew =
      let q : r ≡ lent = er ∙ sym (first_passed checks _ p e) in
      (q, ew ∙ ap (λ k. written_or k new s) q)

  -- the checks being passed, by the slice's length
  module _ (p : Numbered checks) (e : first checks ≡ 0) (new : List A) where
    pub wrong_after : (length s ≡ n → ⊥) → (13 ≡ lent) × (s ≡ written_or lent new s)
    wrong_after h = let w = wrong n s new h in passed p e 13 new s w.0 w.1

    pub right_after : length s ≡ n → (w : List A) → w ≡ new → (0 ≡ lent) × (w ≡ written_or lent new s)
    right_after h w q = let r = right n s new h w q in passed p e 0 new w r.0 r.1

-- what an entry answers by its checks, told in cells: the refusal, and the answer
module _ {A : Type 0} (checks : List Check) (n : ℕ) (s : List ℕ) (v : A) (cells : A → List ℕ) where
  pub not_told : (k : ℕ) → refuses k ≡ answered (first checks) v
      → (k ≡ lent_refusal checks n (length s)) × (s ≡ written_or (lent_refusal checks n (length s)) (cells v) s)
  not_told k h = refused checks n s k (refuses_is (first checks) k v h) (refuses_some (first checks) k v h) (cells v)

  pub told : Numbered checks → (a : A) → gives a ≡ answered (first checks) v → (r : ℕ) (w : List ℕ)
      → (r ≡ lent_refusal [] n (length s)) × (w ≡ written_or r (cells a) s)
      → (r ≡ lent_refusal checks n (length s)) × (w ≡ written_or (lent_refusal checks n (length s)) (cells v) s)
  told p a h r w e =
      let g = gives_is (first checks) v a h in
      passed checks n s p g.0 r (cells v) w e.0 (e.1 ∙ ap (λ x. written_or r (cells x) s) g.1)
