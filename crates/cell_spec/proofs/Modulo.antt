-- Sums modulo 2^64: wrapping on the way changes nothing in the end.
use Prim.Native.Nat.{ℕ, zero, suc, ◌≤◌, ◌<◌, ◌-◌, ◌+◌, ◌*◌, ◌%◌, ◌^◌}
use native.Mathlib.Nat.{suc-mul, mul-le-mul, le_refl}
use mathlib.Core.Path.{◌≡◌, sym, ◌∙◌, refl, ap, ap₂}
use mathlib.Core.Bool.{Bool, true, false, cond}
use native.Mathlib.Omega.{arith}
use borrow.Author.Tests.{ltb-true, ltb-false}
use lib.Dec.{ltb}
use lib.IntN.{ℤ, pos, negsuc, ◌+ℤ◌, sub_ℕ, +ℤ_idr, +ℤ_comm, nat_abs}
use mir.Syntax.{w64}
use mir.Val.{of_z, SFits}
use Rattle.std.specs.Int.{int_wrap}
use Rattle.std.proofs.lemmas.Int.{int_wrap_fits, int_wrap-add_left}
use Rattle.cube_spec.specs.Limits.{point_limit}
use Rattle.cube_spec.specs.Boxes.{pick, sum_z}
use Rattle.cell_spec.specs.Wrapped.{residue, wrapped}

neg_mod : (a b : ℕ) → residue (sub_ℕ a (suc b)) ≡ (a % 2 ^ 64 + (2 ^ 64 - 1 - b % 2 ^ 64)) % 2 ^ 64
unfolding residue
neg_mod a b = go (ltb a (suc b)) refl
  where
    go : (t : Bool) → ltb a (suc b) ≡ t → residue (cond t (negsuc (suc b - suc a)) (pos (a - suc b))) ≡ (a % 2 ^ 64 + (2 ^ 64 - 1 - b % 2 ^ 64)) % 2 ^ 64
    go true e = let h = ltb-true a (suc b) e in omega arith
    go false e = let h = ltb-false a (suc b) e in omega arith

pub residue_add : (a b : ℤ) → residue (a +ℤ b) ≡ (residue a + residue b) % 2 ^ 64
unfolding residue
residue_add (pos m) (pos n) = omega arith
residue_add (pos m) (negsuc n) = neg_mod m n
residue_add (negsuc m) (pos n) =
    let e : (2 ^ 64 - 1 - m % 2 ^ 64 + n % 2 ^ 64) ≡ n % 2 ^ 64 + (2 ^ 64 - 1 - m % 2 ^ 64) = omega arith in
    rw e (neg_mod n m)
residue_add (negsuc m) (negsuc n) = omega arith

-- what the library's wrapping sum leaves
pub as_wrapped : (z : ℤ) → int_wrap w64 z ≡ wrapped z
unfolding wrapped residue int_wrap
as_wrapped (pos n) = refl
as_wrapped (negsuc n) = refl

pub wrapped_add : (a b : ℤ) → wrapped (wrapped a +ℤ b) ≡ wrapped (a +ℤ b)
wrapped_add a b = rw (← as_wrapped a, ← as_wrapped (int_wrap w64 a +ℤ b), ← as_wrapped (a +ℤ b)) (int_wrap-add_left w64 a b)

pub wrapped_add_right : (a b : ℤ) → wrapped (a +ℤ wrapped b) ≡ wrapped (a +ℤ b)
wrapped_add_right a b = ap wrapped (+ℤ_comm a (wrapped b)) ∙ wrapped_add b a ∙ ap wrapped (+ℤ_comm b a)

pub wrapped_both : (a b : ℤ) → wrapped (wrapped a +ℤ wrapped b) ≡ wrapped (a +ℤ b)
wrapped_both a b = wrapped_add a (wrapped b) ∙ wrapped_add_right a b

pub wrapped_twice : (a : ℤ) → wrapped (wrapped a) ≡ wrapped a
wrapped_twice a = ap wrapped (sym (+ℤ_idr (wrapped a))) ∙ wrapped_add a (pos 0) ∙ ap wrapped (+ℤ_idr a)

-- terms equal modulo 2^64 have sums equal modulo 2^64
pub wrapped_sum : (n : ℕ) (f h : ℕ → ℤ) → ((m : ℕ) → m < n → wrapped (f m) ≡ wrapped (h m)) → wrapped (sum_z n f) ≡ wrapped (sum_z n h)
unfolding sum_z
wrapped_sum zero f h e = refl
wrapped_sum (suc n) f h e =
    sym (wrapped_both (sum_z n f) (f n)) ∙ ap₂ (λ a b. wrapped (a +ℤ b)) (wrapped_sum n f h (λ m l. e m (omega arith))) (e n (omega arith)) ∙ wrapped_both (sum_z n h) (h n)

-- ---- what 64 bits hold does not wrap

pub residue_bits : (z : ℤ) → SFits w64 z → residue z ≡ of_z w64 z
unfolding residue
residue_bits (pos n) f = let h : n < 2 ^ 63 = f.sfits in omega arith
residue_bits (negsuc n) f = let h : n < 2 ^ 63 = f.sfits in omega arith

small_fits : (z : ℤ) → nat_abs z < 2 ^ 63 → SFits w64 z
small_fits (pos n) h = record { sfits = h }
small_fits (negsuc n) h = record { sfits = omega arith }

pub wrapped_fits : (z : ℤ) → SFits w64 z → wrapped z ≡ z
wrapped_fits z f = sym (as_wrapped z) ∙ int_wrap_fits w64 z f

abs_add : (a b : ℤ) → nat_abs (a +ℤ b) ≤ nat_abs a + nat_abs b
abs_add (pos m) (pos n) = omega arith
abs_add (pos m) (negsuc n) = go (ltb m (suc n)) refl
  where
    go : (t : Bool) → ltb m (suc n) ≡ t → nat_abs (cond t (negsuc (suc n - suc m)) (pos (m - suc n))) ≤ m + suc n
    go true e = let h = ltb-true m (suc n) e in omega arith
    go false e = omega arith
abs_add (negsuc m) (pos n) = go (ltb n (suc m)) refl
  where
    go : (t : Bool) → ltb n (suc m) ≡ t → nat_abs (cond t (negsuc (suc m - suc n)) (pos (n - suc m))) ≤ suc m + n
    go true e = let h = ltb-true n (suc m) e in omega arith
    go false e = omega arith
abs_add (negsuc m) (negsuc n) = omega arith

abs_sum : (n B : ℕ) (f : ℕ → ℤ) → ((i : ℕ) → nat_abs (f i) ≤ B) → nat_abs (sum_z n f) ≤ n * B
unfolding sum_z
abs_sum zero B f h = omega arith
abs_sum (suc n) B f h =
    let p = abs_add (sum_z n f) (f n) in
    let q = abs_sum n B f h in
    let r = h n in
    let s = suc-mul n B in
    omega arith

-- at most 2^24 points of at most 2^31
pub sum_fits : (n : ℕ) (f : ℕ → ℤ) → n ≤ point_limit → ((i : ℕ) → nat_abs (f i) ≤ 2 ^ 31) → SFits w64 (sum_z n f)
sum_fits n f k h =
    let p = abs_sum n (2 ^ 31) f h in
    let q : n * 2 ^ 31 ≤ 2 ^ 24 * 2 ^ 31 = mul-le-mul k (le_refl (2 ^ 31)) in
    small_fits (sum_z n f) (omega arith)

pub pick_small : (t : Bool) (v : ℤ) → nat_abs v ≤ 2 ^ 31 → nat_abs (pick t v (pos 0)) ≤ 2 ^ 31
pick_small true v h = h
pick_small false v h = omega arith
