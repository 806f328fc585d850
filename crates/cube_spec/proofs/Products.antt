-- Laws of products over the axes of a box.
use Prim.Native.Nat.{ℕ, zero, suc, ◌+◌, ◌-◌, ◌*◌, ◌≤◌, ◌<◌}
use mathlib.Core.Path.{◌≡◌, sym, ◌∙◌, refl, ap, ap₂}
use native.Mathlib.Nat.{mul-pos, mul-le-mul, mul_assoc, mul-one, one-mul, zero-mul, mul-zero, le_refl, mul-le-mul_left}
use native.Mathlib.Numerals.{add-one}
use native.Mathlib.Omega.{arith}
use borrow.Author.Tests.{eqb-true, eqb-false, eq-eqb, ne_eqb}
use lib.Dec.{eqb}
use Rattle.cube_spec.specs.Boxes.{sum_n, product, position}
use Rattle.cube_spec.proofs.Sums.{by}
use Rattle.cube_spec.proofs.Naturals.{sum_n_cong, sum_n_times, sum_n_times_right, sum_n_rows}
use Rattle.cube_spec.proofs.Boxing.{row_of, rest_of, product_cong}

pub product_pos : (e : ℕ → ℕ) (m d : ℕ) → ((i : ℕ) → d ≤ i → i < d + m → 0 < e i) → 0 < product e m d
unfolding product
product_pos e zero d h = omega arith
product_pos e (suc m) d h = mul-pos (h d (omega arith) (omega arith)) (product_pos e m (d + 1) (λ i l r. h i (omega arith) (omega arith)))

pub product_le : (e e' : ℕ → ℕ) (m d : ℕ) → ((i : ℕ) → d ≤ i → i < d + m → e i ≤ e' i) → product e m d ≤ product e' m d
unfolding product
product_le e e' zero d h = omega arith
product_le e e' (suc m) d h = mul-le-mul (h d (omega arith) (omega arith)) (product_le e e' m (d + 1) (λ i l r. h i (omega arith) (omega arith)))

pub product_ones : (e : ℕ → ℕ) (m d : ℕ) → ((i : ℕ) → d ≤ i → i < d + m → e i ≡ 1) → product e m d ≡ 1
unfolding product
product_ones e zero d h = refl
product_ones e (suc m) d h = ap₂ ◌*◌ (h d (omega arith) (omega arith)) (product_ones e m (d + 1) (λ i l r. h i (omega arith) (omega arith)))

pub product_zero : (e : ℕ → ℕ) (m d i : ℕ) → d ≤ i → i < d + m → e i ≡ 0 → product e m d ≡ 0
unfolding product
product_zero e zero d i l r h = absurd (omega arith)
product_zero e (suc m) d i l r h =
    by (eqb i d)
    (λ t. rw (← eqb-true i d t, h) (zero-mul _))
    (λ t. let ne = eqb-false i d t in rw (product_zero e m (d + 1) i (omega (arith, ne)) (omega arith) h) (mul-zero (e d)))

-- a factor is at most the product
pub factor_le : (e : ℕ → ℕ) (m d i : ℕ) → ((i : ℕ) → d ≤ i → i < d + m → 0 < e i) → d ≤ i → i < d + m → e i ≤ product e m d
unfolding product
factor_le e zero d i h l r = absurd (omega arith)
factor_le e (suc m) d i h l r =
    let rest : 0 < product e m (d + 1) = product_pos e m (d + 1) (λ i l r. h i (omega arith) (omega arith)) in
    let here : 0 < e d = h d (omega arith) (omega arith) in
    by (eqb i d)
    (λ t. let p = mul-le-mul_left (e d) rest in let q = mul-one (e d) in rw (eqb-true i d t) (omega arith))
    (λ t.
    let ne = eqb-false i d t in
    let ih = factor_le e m (d + 1) i (λ i l r. h i (omega arith) (omega arith)) (omega (arith, ne)) (omega arith) in
    let p = mul-le-mul here (le_refl (product e m (d + 1))) in
    let q = one-mul (product e m (d + 1)) in
    omega arith)

-- one factor c times as large
pub product_scale : (e e' : ℕ → ℕ) (c j m d : ℕ) → d ≤ j → j < d + m → e' j ≡ c * e j → ((i : ℕ) → (i ≡ j → ⊥) → e' i ≡ e i) → product e' m d ≡ c * product e m d
unfolding product
product_scale e e' c j zero d l r h same = absurd (omega arith)
product_scale e e' c j (suc m) d l r h same =
    by (eqb j d)
    (λ t.
    let q = eqb-true j d t in
    let rest : product e' m (d + 1) ≡ product e m (d + 1) = product_cong m (d + 1) (λ i l r. same i (λ z. omega arith)) in
    rw (← q, h, q, rest) (mul_assoc c (e d) (product e m (d + 1))))
    (λ t.
    let ne = eqb-false j d t in
    let ih = product_scale e e' c j m (d + 1) (omega (arith, ne)) (omega arith) h same in
    let here = same d (λ z. ne (sym z)) in
    rw (here, ih) (omega arith))

-- the same factors, numbered from one later
pub product_shift : (e : ℕ → ℕ) (m d : ℕ) → product (λ i. e (suc i)) m d ≡ product e m (d + 1)
unfolding product
product_shift e zero d = refl
product_shift e (suc m) d = ap₂ ◌*◌ (ap e (sym (add-one d))) (product_shift e m (d + 1))

-- a box in two pieces
pub product_append : (e : ℕ → ℕ) (a b d : ℕ) → product e (a + b) d ≡ product e a d * product e b (d + a)
unfolding product
product_append e zero b d =
    let z : 0 + b ≡ b = omega arith in
    let y : d + 0 ≡ d = omega arith in
    rw (z, y) (sym (one-mul (product e b d)))
product_append e (suc a) b d =
    let z : suc a + b ≡ suc (a + b) = omega arith in
    let y : d + suc a ≡ d + 1 + a = omega arith in
    rw (z, y) (ap (λ x. e d * x) (product_append e a b (d + 1)) ∙ sym (mul_assoc (e d) (product e a (d + 1)) (product e b (d + 1 + a))))

-- one factor more at the end
pub product_last : (e : ℕ → ℕ) (m d : ℕ) → product e (m + 1) d ≡ product e m d * e (d + m)
product_last e m d = product_append e m 1 d ∙ ap (λ x. product e m d * x) (unfold product in mul-one (e (d + m)))

-- what is left to multiply, where axis d comes next
pub product_next : (e : ℕ → ℕ) (n d : ℕ) → d < n → product e (n - d) d ≡ e d * product e (n - (d + 1)) (d + 1)
unfolding product
product_next e n d h = let q : n - d ≡ suc (n - (d + 1)) = omega arith in rw q

pub product_none : (e : ℕ → ℕ) (n d : ℕ) → n ≤ d → product e (n - d) d ≡ 1
unfolding product
product_none e n d h = let q : n - d ≡ 0 = omega arith in rw q

-- a product of sums is the sum, over the cells of a box, of products
pub product_sum : (e : ℕ → ℕ) (f : ℕ → ℕ → ℕ) (m d : ℕ) → sum_n (product e m d) (λ c. product (λ i. f i (position e m d c i)) m d) ≡ product (λ i. sum_n (e i) (f i)) m d
unfolding product sum_n
product_sum e f zero d = refl
product_sum e f (suc m) d =
    let R = product e m (d + 1) in
    let S = product (λ i. sum_n (e i) (f i)) m (d + 1) in
    let one : (v : ℕ) → v < e d → sum_n R (λ r. product (λ i. f i (position e (suc m) d (v * R + r) i)) (suc m) d) ≡ f d v * S =
    λ v h. sum_n_cong R (λ r k. cell v r k) ∙ sum_n_times (f d v) R (λ r. product (λ i. f i (position e m (d + 1) r i)) m (d + 1)) ∙ ap (λ s. f d v * s) (product_sum e f m (d + 1)) in
    sum_n_rows (e d) R _ ∙ sum_n_cong (e d) one ∙ sum_n_times_right S (e d) (f d)
  where
    cell : (v r : ℕ) → r < product e m (d + 1) → product (λ i. f i (position e (suc m) d (v * product e m (d + 1) + r) i)) (suc m) d ≡ f d v * product (λ i. f i (position e m (d + 1) r i)) m (d + 1)
    cell v r k =
        let R = product e m (d + 1) in
        let p : position e (suc m) d (v * R + r) d ≡ v = (unfold position in rw (eq-eqb d d refl) (row_of v k)) in
        ap₂ ◌*◌ (ap (f d) p) (product_cong m (d + 1) (λ i l u. ap (f i) (tail i l)))
      where
        tail : (i : ℕ) → d + 1 ≤ i → position e (suc m) d (v * product e m (d + 1) + r) i ≡ position e m (d + 1) r i
        tail i l = unfold position in rw (ne_eqb i d (λ q. omega arith), rest_of v k)
