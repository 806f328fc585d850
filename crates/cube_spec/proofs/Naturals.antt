-- Laws of sums of natural numbers, and of tests.
use Prim.Native.Nat.{ℕ, zero, suc, ◌+◌, ◌*◌, ◌≤◌, ◌<◌}
use mathlib.Core.Path.{◌≡◌, sym, ◌∙◌, refl, ap, ap₂}
use mathlib.Core.Bool.{Bool, true, false, ◌&&◌, not}
use native.Mathlib.Nat.{zero-add, add-zero, add-suc, add_assoc, zero-mul, mul-zero, suc-mul, mul-add, add-mul, add-le-add}
use native.Mathlib.Numerals.{add-one}
use native.Mathlib.Omega.{arith}
use borrow.Author.Tests.{eqb-true, eqb-false, ne_eqb}
use lib.Dec.{eqb}
use Rattle.cube_spec.specs.Boxes.{pick, sum_n}
use Rattle.cube_spec.proofs.Sums.{by}

-- ---- tests

-- a case that cannot be: `impossible (cc)` where two hypotheses make two constructors equal
pub impossible : {X : Type 0} → ◌≡◌ {A = ℕ} 0 1 → X
impossible z = absurd (omega arith)

pub clash : {X : Type 0} → true ≡ false → X
clash z = impossible (cc)

pub both : (a b : Bool) → (a && b) ≡ true → (a ≡ true) × (b ≡ true)
both true b e = (refl, e)
both false b e = clash (sym e)

pub not_true : (a : Bool) → not a ≡ true → a ≡ false
not_true true e = sym e
not_true false e = refl

pub not_false : (a : Bool) → not a ≡ false → a ≡ true
not_false true e = refl
not_false false e = sym e

-- ---- sums

pub sum_n_cong : (n : ℕ) {f h : ℕ → ℕ} → ((i : ℕ) → i < n → f i ≡ h i) → sum_n n f ≡ sum_n n h
unfolding sum_n
sum_n_cong zero e = refl
sum_n_cong (suc n) e = ap₂ ◌+◌ (sum_n_cong n (λ i l. e i (omega arith))) (e n (omega arith))

pub sum_n_le : (n : ℕ) (f h : ℕ → ℕ) → ((i : ℕ) → i < n → f i ≤ h i) → sum_n n f ≤ sum_n n h
unfolding sum_n
sum_n_le zero f h e = omega arith
sum_n_le (suc n) f h e = add-le-add (sum_n_le n f h (λ i l. e i (omega arith))) (e n (omega arith))

pub sum_n_zero : (n : ℕ) → sum_n n (λ i. 0) ≡ 0
unfolding sum_n
sum_n_zero zero = refl
sum_n_zero (suc n) = let q = sum_n_zero n in omega arith

pub sum_n_same : (k n : ℕ) → sum_n n (λ i. k) ≡ n * k
unfolding sum_n
sum_n_same k zero = sym (zero-mul k)
sum_n_same k (suc n) = ap (λ s. s + k) (sum_n_same k n) ∙ sym (suc-mul n k)

pub sum_n_add : (n : ℕ) (f h : ℕ → ℕ) → sum_n n (λ i. f i + h i) ≡ sum_n n f + sum_n n h
unfolding sum_n
sum_n_add zero f h = refl
sum_n_add (suc n) f h = let q = sum_n_add n f h in omega arith

pub sum_n_swap : (m n : ℕ) (f : ℕ → ℕ → ℕ) → sum_n m (λ i. sum_n n (f i)) ≡ sum_n n (λ j. sum_n m (λ i. f i j))
unfolding sum_n
sum_n_swap zero n f = sym (sum_n_zero n)
sum_n_swap (suc m) n f = ap (λ z. z + sum_n n (f m)) (sum_n_swap m n f) ∙ sym (sum_n_add n (λ j. sum_n m (λ i. f i j)) (f m))

pub sum_n_append : (a b : ℕ) (f : ℕ → ℕ) → sum_n (a + b) f ≡ sum_n a f + sum_n b (λ i. f (a + i))
unfolding sum_n
sum_n_append a zero f = rw (add-zero a) (sym (add-zero (sum_n a f)))
sum_n_append a (suc b) f = rw add-suc (ap (λ s. s + f (a + b)) (sum_n_append a b f) ∙ add_assoc (sum_n a f) (sum_n b (λ i. f (a + i))) (f (a + b)))

-- the last term apart
pub sum_n_last : (n : ℕ) (f : ℕ → ℕ) → sum_n (n + 1) f ≡ sum_n n f + f n
sum_n_last n f = ap (λ m. sum_n m f) (add-one n) ∙ (unfold sum_n in refl)

-- the first term apart
pub sum_n_first : (n : ℕ) (f : ℕ → ℕ) → sum_n (suc n) f ≡ f 0 + sum_n n (λ i. f (suc i))
unfolding sum_n
sum_n_first zero f = zero-add (f 0) ∙ sym (add-zero (f 0))
sum_n_first (suc n) f = let q = sum_n_first n f in ap (λ s. s + f (suc n)) q ∙ add_assoc (f 0) (sum_n n (λ i. f (suc i))) (f (suc n))

pub sum_n_times : (k n : ℕ) (f : ℕ → ℕ) → sum_n n (λ i. k * f i) ≡ k * sum_n n f
unfolding sum_n
sum_n_times k zero f = sym (mul-zero k)
sum_n_times k (suc n) f = ap (λ s. s + k * f n) (sum_n_times k n f) ∙ sym (mul-add k (sum_n n f) (f n))

pub sum_n_times_right : (k n : ℕ) (f : ℕ → ℕ) → sum_n n (λ i. f i * k) ≡ sum_n n f * k
unfolding sum_n
sum_n_times_right k zero f = sym (zero-mul k)
sum_n_times_right k (suc n) f = ap (λ s. s + f n * k) (sum_n_times_right k n f) ∙ sym (add-mul (sum_n n f) (f n) k)

-- a rows of R terms
pub sum_n_rows : (a R : ℕ) (f : ℕ → ℕ) → sum_n (a * R) f ≡ sum_n a (λ v. sum_n R (λ r. f (v * R + r)))
unfolding sum_n
sum_n_rows zero R f = rw zero-mul
sum_n_rows (suc a) R f = rw suc-mul (sum_n_append (a * R) R f ∙ ap (λ s. s + sum_n R (λ r. f (a * R + r))) (sum_n_rows a R f))

-- of the terms at 0, 1, .. only the one at k counts
pub sum_n_miss : (n k : ℕ) (f : ℕ → ℕ) → n ≤ k → sum_n n (λ i. pick (eqb k i) (f i) 0) ≡ 0
sum_n_miss n k f h = sum_n_cong n (λ i l. ap (λ t. pick t (f i) 0) (ne_eqb k i (λ e. omega arith))) ∙ sum_n_zero n

pub sum_n_only : (n k : ℕ) (f : ℕ → ℕ) → k < n → sum_n n (λ i. pick (eqb k i) (f i) 0) ≡ f k
unfolding sum_n
sum_n_only zero k f h = absurd (omega arith)
sum_n_only (suc n) k f h =
    by (eqb k n)
    (λ t. let q = eqb-true k n t in rw (t, sum_n_miss n k f (omega arith)) (zero-add (f n) ∙ ap f (sym q)))
    (λ t. let ne = eqb-false k n t in rw (t, sum_n_only n k f (omega (arith, ne))) (add-zero (f k)))

pub sum_n_first_only : (n : ℕ) → 0 < n → sum_n n (λ l. pick (eqb l 0) 1 0) ≡ 1
unfolding sum_n
sum_n_first_only zero h = absurd (omega arith)
sum_n_first_only (suc zero) h = refl
sum_n_first_only (suc (suc n)) h =
    let q : sum_n (suc n) (λ l. pick (eqb l 0) 1 0) ≡ 1 = sum_n_first_only (suc n) (omega arith) in
    rw (ne_eqb (suc n) 0 (λ e. omega arith)) (unfold sum_n in (let z = add-zero (sum_n (suc n) (λ l. pick (eqb l 0) 1 0)) in z ∙ q))

-- two sums that differ in one term
pub sum_n_but_one : (n k v : ℕ) (f h : ℕ → ℕ) → k < n → f k ≡ h k + v → ((i : ℕ) → i < n → (i ≡ k → ⊥) → f i ≡ h i) → sum_n n f ≡ sum_n n h + v
unfolding sum_n
sum_n_but_one zero k v f h l e same = absurd (omega arith)
sum_n_but_one (suc n) k v f h l e same =
    by (eqb n k)
    (λ t.
    let q = eqb-true n k t in
    let a = sum_n_cong n (λ i r. same i (omega arith) (λ z. omega arith)) in
    let b : f n ≡ h n + v = (rw q e) in
    omega arith)
    (λ t.
    let ne = eqb-false n k t in
    let a = sum_n_but_one n k v f h (omega (arith, ne)) e (λ i r. same i (omega arith)) in
    let b = same n (omega arith) ne in
    omega arith)
