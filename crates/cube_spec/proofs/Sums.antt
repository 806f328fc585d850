-- Laws of finite sums of whole numbers, and of one changed position.
use Prim.Native.Nat.{ℕ, zero, suc, ◌+◌, ◌<◌}
use mathlib.Core.Path.{◌≡◌, sym, ◌∙◌, refl, ap, ap₂}
use mathlib.Core.Bool.{Bool, true, false}
use native.Mathlib.Nat.{add-zero, add-suc}
use native.Mathlib.Omega.{arith}
use borrow.Author.Tests.{eqb-true, eqb-false, eq-eqb, ne_eqb}
use lib.Dec.{eqb}
use lib.IntN.{ℤ, pos, ◌+ℤ◌, +ℤ_idl, +ℤ_idr, +ℤ_assoc, +ℤ_comm}
use Rattle.cube_spec.specs.Boxes.{pick, put, sum_z}

-- by cases on a test
pub by : {C : Type 0} (t : Bool) → (t ≡ true → C) → (t ≡ false → C) → C
by true f g = f refl
by false f g = g refl

-- ---- put

pub put_same : (x : ℕ → ℕ) (j v : ℕ) → put x j v j ≡ v
unfolding put
put_same x j v = rw (eq-eqb j j refl)

pub put_other : (x : ℕ → ℕ) (j v d : ℕ) → (d ≡ j → ⊥) → put x j v d ≡ x d
unfolding put
put_other x j v d h = rw (ne_eqb d j h)

-- ---- sums

-- the terms below n alone matter
pub sum_cong : (n : ℕ) {f g : ℕ → ℤ} → ((i : ℕ) → i < n → f i ≡ g i) → sum_z n f ≡ sum_z n g
unfolding sum_z
sum_cong zero h = refl
sum_cong (suc n) h = ap₂ ◌+ℤ◌ (sum_cong n (λ i l. h i (omega arith))) (h n (omega arith))

pub sum_zero : (n : ℕ) → sum_z n (λ i. pos 0) ≡ pos 0
unfolding sum_z
sum_zero zero = refl
sum_zero (suc n) = ap (λ z. z +ℤ pos 0) (sum_zero n)

-- a sum in two pieces
pub sum_append : (a b : ℕ) (f : ℕ → ℤ) → sum_z (a + b) f ≡ sum_z a f +ℤ sum_z b (λ m. f (a + m))
unfolding sum_z
sum_append a zero f = rw add-zero (sym (+ℤ_idr (sum_z a f)))
sum_append a (suc b) f = rw add-suc (ap (λ z. z +ℤ f (a + b)) (sum_append a b f) ∙ +ℤ_assoc (sum_z a f) (sum_z b (λ m. f (a + m))) (f (a + b)))

-- (a + b) + (c + d) ≡ (a + c) + (b + d)
pub exchange : (a b c d : ℤ) → (a +ℤ b) +ℤ (c +ℤ d) ≡ (a +ℤ c) +ℤ (b +ℤ d)
exchange a b c d =
    +ℤ_assoc a b (c +ℤ d) ∙ ap (λ z. a +ℤ z) (sym (+ℤ_assoc b c d) ∙ ap (λ z. z +ℤ d) (+ℤ_comm b c) ∙ +ℤ_assoc c b d) ∙ sym (+ℤ_assoc a c (b +ℤ d))

pub sum_add : (n : ℕ) (f g : ℕ → ℤ) → sum_z n (λ i. f i +ℤ g i) ≡ sum_z n f +ℤ sum_z n g
unfolding sum_z
sum_add zero f g = refl
sum_add (suc n) f g = ap (λ z. z +ℤ (f n +ℤ g n)) (sum_add n f g) ∙ exchange (sum_z n f) (sum_z n g) (f n) (g n)

-- Fubini
pub sum_swap : (m n : ℕ) (f : ℕ → ℕ → ℤ) → sum_z m (λ i. sum_z n (f i)) ≡ sum_z n (λ j. sum_z m (λ i. f i j))
unfolding sum_z
sum_swap zero n f = sym (sum_zero n)
sum_swap (suc m) n f = ap (λ z. z +ℤ sum_z n (f m)) (sum_swap m n f) ∙ sym (sum_add n (λ j. sum_z m (λ i. f i j)) (f m))

-- a sum of nothing
pub sum_none : (n : ℕ) {f : ℕ → ℤ} → ((i : ℕ) → i < n → f i ≡ pos 0) → sum_z n f ≡ pos 0
sum_none n h = sum_cong n h ∙ sum_zero n

-- of the terms at 0, 1, .. only the one at k counts
pub sum_only : (n k : ℕ) (f : ℕ → ℤ) → k < n → sum_z n (λ i. pick (eqb k i) (f i) (pos 0)) ≡ f k
unfolding sum_z
sum_only zero k f h = absurd (omega arith)
sum_only (suc n) k f h = by (eqb k n) here (before (sum_only n k f))
  where
    terms : ℕ → ℤ
    terms i = pick (eqb k i) (f i) (pos 0)

    here : eqb k n ≡ true → sum_z n terms +ℤ terms n ≡ f k
    here t =
        let e = eqb-true k n t in
        let q : sum_z n terms ≡ pos 0 = sum_none n (λ i l. rw (ne_eqb k i (λ q. omega arith))) in
        let r : terms n ≡ f k = rw t (ap f (sym e)) in
        ap₂ ◌+ℤ◌ q r ∙ +ℤ_idl (f k)

    before : (k < n → sum_z n terms ≡ f k) → eqb k n ≡ false → sum_z n terms +ℤ terms n ≡ f k
    before ih t =
        let ne = eqb-false k n t in
        let r : terms n ≡ pos 0 = rw t in
        ap₂ ◌+ℤ◌ (ih (omega (arith, ne))) r ∙ +ℤ_idr (f k)
