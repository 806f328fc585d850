-- Laws of a slice in which values were placed.
use Prim.Native.Nat.{ℕ, zero, suc, ◌+◌, ◌<◌}
use mathlib.Core.Path.{◌≡◌, ◌∙◌, refl, ap}
use mathlib.Core.List.{List}
use native.Mathlib.Omega.{arith}
use native.Mathlib.Numerals.{add-one}
use native.Mathlib.Nat.{add-zero}
use borrow.Author.Tests.{eqb-true, eqb-false}
use lib.Dec.{eqb}
use lib.ListN.{length, get_or, set, length-set}
use lib.Seq.{get_or-set_same, get_or-set_other}
use lib.IntN.{ℤ, pos}
use Rattle.cube_spec.proofs.Sums.{by}
use Rattle.cell_spec.specs.Rows.{placed}

pub length_placed : (w : List ℤ) (n : ℕ) (g : ℕ → ℕ) (f : ℕ → ℤ) → length (placed w n g f) ≡ length w
unfolding placed
length_placed w zero g f = refl
length_placed w (suc n) g f = length-set (placed w n g f) (g n) (f n) ∙ length_placed w n g f

-- a cell at none of the places
pub unplaced : (w : List ℤ) (n : ℕ) (g : ℕ → ℕ) (f : ℕ → ℤ) (j : ℕ) → ((i : ℕ) → i < n → j ≡ g i → ⊥) → get_or (placed w n g f) j (pos 0) ≡ get_or w j (pos 0)
unfolding placed
unplaced w zero g f j h = refl
unplaced w (suc n) g f j h =
    get_or-set_other (placed w n g f) (g n) j (f n) (pos 0) (λ e. h n (omega arith) e) ∙ unplaced w n g f j (λ i k. h i (omega arith))

-- a cell at one of the places, where no two of them are the same
pub at_place : (w : List ℤ) (n : ℕ) (g : ℕ → ℕ) (f : ℕ → ℤ) → ((i k : ℕ) → i < n → k < n → g i ≡ g k → i ≡ k) → (i : ℕ) → i < n → g i < length w → get_or (placed w n g f) (g i) (pos 0) ≡ f i
unfolding placed
at_place w zero g f one i h b = absurd (omega arith)
at_place w (suc n) g f one i h b =
    by (eqb i n)
    (λ t.
    let q = eqb-true i n t in
    rw q (get_or-set_same (placed w n g f) (g n) (f n) (pos 0) (rw (length_placed w n g f, ← q) b)))
    (λ t.
    let ne = eqb-false i n t in
    get_or-set_other (placed w n g f) (g n) (g i) (f n) (pos 0) (λ e. ne (one i n h (omega arith) e))
    ∙ at_place w n g f (λ i k l r. one i k (omega arith) (omega arith)) i (omega (arith, ne)) b)

-- values and places that are equal
pub placed_cong : (w : List ℤ) (n : ℕ) {g g' : ℕ → ℕ} {f f' : ℕ → ℤ} → ((i : ℕ) → i < n → g i ≡ g' i) → ((i : ℕ) → i < n → f i ≡ f' i) → placed w n g f ≡ placed w n g' f'
unfolding placed
placed_cong w zero h k = refl
placed_cong w (suc n) {g} {g'} {f} {f'} h k =
    rw (h n (omega arith), k n (omega arith)) (ap (λ (l : List ℤ). set l (g' n) (f' n)) (placed_cong w n (λ i q. h i (omega arith)) (λ i q. k i (omega arith))))

-- one value more
pub placed_more : (w : List ℤ) (n : ℕ) (g : ℕ → ℕ) (f : ℕ → ℤ) (x : ℤ) → x ≡ f n → set (placed w n g f) (g n) x ≡ placed w (n + 1) g f
unfolding placed
placed_more w n g f x e = rw (add-one, e)

-- k values more
pub placed_joined : (w : List ℤ) (n k : ℕ) (g g' : ℕ → ℕ) (f f' : ℕ → ℤ) → ((i : ℕ) → i < k → g' i ≡ g (n + i)) → ((i : ℕ) → i < k → f' i ≡ f (n + i))
    → placed (placed w n g f) k g' f' ≡ placed w (n + k) g f
unfolding placed
placed_joined w n zero g g' f f' h l = rw add-zero
placed_joined w n (suc k) g g' f f' h l =
    let s : n + suc k ≡ suc (n + k) = omega arith in
    rw (s, h k (omega arith), l k (omega arith)) (ap (λ (v : List ℤ). set v (g (n + k)) (f (n + k))) (placed_joined w n k g g' f f' (λ i q. h i (omega arith)) (λ i q. l i (omega arith))))
