-- Laws of row-major boxes: places and positions are each other's inverse.
use Prim.Native.Nat.{ℕ, zero, suc, ◌+◌, ◌*◌, ◌/◌, ◌%◌, ◌≤◌, ◌<◌}
use mathlib.Core.Path.{◌≡◌, sym, ◌∙◌, refl, ap, ap₂}
use native.Mathlib.Nat.{add-zero, suc-mul, mul-le-mul, le_refl, mul-add-div_right, div-eq_of_lt, mul-add-mod_self_right, mod-eq_of_lt, mod-lt, div-add-mod', div-lt_iff_lt-mul, mul-zero}
use native.Mathlib.Omega.{arith}
use borrow.Author.Tests.{eqb-true, eqb-false, eq-eqb, ne_eqb}
use lib.Dec.{eqb}
use Rattle.cube_spec.specs.Boxes.{place, position, product}
use Rattle.cube_spec.proofs.Sums.{by}

-- ---- one axis: c is x rows of R cells and r cells more

pub row_of : (x : ℕ) {R r : ℕ} → r < R → (x * R + r) / R ≡ x
row_of x {R} {r} h = mul-add-div_right (omega arith) x r ∙ ap (λ q. x + q) (div-eq_of_lt h) ∙ add-zero x

pub rest_of : (x : ℕ) {R r : ℕ} → r < R → (x * R + r) % R ≡ r
rest_of x {R} {r} h = mul-add-mod_self_right x R r ∙ mod-eq_of_lt h

pub row_lt : {x e R r : ℕ} → x < e → r < R → x * R + r < e * R
row_lt {x} {e} {R} {r} h k =
    let q : suc x * R ≤ e * R = mul-le-mul h (le_refl R) in
    let s = suc-mul x R in
    omega arith

pub right_pos : (e R : ℕ) {c : ℕ} → c < e * R → 0 < R
right_pos e zero h = let z = mul-zero e in absurd (omega arith)
right_pos e (suc R) h = omega arith

-- ---- boxes of m axes from d on

pub product_cong : {e e' : ℕ → ℕ} (m d : ℕ) → ((i : ℕ) → d ≤ i → i < d + m → e i ≡ e' i) → product e m d ≡ product e' m d
unfolding product
product_cong zero d h = refl
product_cong (suc m) d h = ap₂ ◌*◌ (h d (omega arith) (omega arith)) (product_cong m (d + 1) (λ i l r. h i (omega arith) (omega arith)))

pub place_cong : {e e' x x' : ℕ → ℕ} (m d : ℕ) → ((i : ℕ) → d ≤ i → i < d + m → e i ≡ e' i) → ((i : ℕ) → d ≤ i → i < d + m → x i ≡ x' i) → place e x m d ≡ place e' x' m d
unfolding place
place_cong zero d h k = refl
place_cong (suc m) d h k =
    ap₂ ◌+◌ (ap₂ ◌*◌ (k d (omega arith) (omega arith)) (product_cong m (d + 1) (λ i l r. h i (omega arith) (omega arith)))) (place_cong m (d + 1) (λ i l r. h i (omega arith) (omega arith)) (λ i l r. k i (omega arith) (omega arith)))

pub place_lt : {e x : ℕ → ℕ} (m d : ℕ) → ((i : ℕ) → d ≤ i → i < d + m → x i < e i) → place e x m d < product e m d
unfolding place product
place_lt zero d h = omega arith
place_lt (suc m) d h = row_lt (h d (omega arith) (omega arith)) (place_lt m (d + 1) (λ i l r. h i (omega arith) (omega arith)))

pub position_place : {e x : ℕ → ℕ} (m d i : ℕ) → ((i : ℕ) → d ≤ i → i < d + m → x i < e i) → d ≤ i → i < d + m → position e m d (place e x m d) i ≡ x i
unfolding place position
position_place zero d i h l r = absurd (omega arith)
position_place {e} {x} (suc m) d i h l r =
    let k = place_lt {e = e} {x = x} m (d + 1) (λ i l r. h i (omega arith) (omega arith)) in
    by (eqb i d)
    (λ t. rw t (row_of (x d) k ∙ ap x (sym (eqb-true i d t))))
    (λ t.
    let ne = eqb-false i d t in
    rw (t, rest_of (x d) k) (position_place m (d + 1) i (λ i l r. h i (omega arith) (omega arith)) (omega (arith, ne)) (omega arith)))

pub position_lt : (e : ℕ → ℕ) (m d c i : ℕ) → c < product e m d → d ≤ i → i < d + m → position e m d c i < e i
unfolding product position
position_lt e zero d c i h l r = absurd (omega arith)
position_lt e (suc m) d c i h l r =
    let k : 0 < product e m (d + 1) = right_pos (e d) (product e m (d + 1)) h in
    by (eqb i d)
    (λ t. rw (t, eqb-true i d t) ((div-lt_iff_lt-mul k).1 h))
    (λ t.
    let ne = eqb-false i d t in
    rw t (position_lt e m (d + 1) (c % product e m (d + 1)) i (mod-lt c k) (omega (arith, ne)) (omega arith)))

pub place_position : (e : ℕ → ℕ) (m d c : ℕ) → c < product e m d → place e (position e m d c) m d ≡ c
unfolding product position place
place_position e zero d c h = omega arith
place_position e (suc m) d c h =
    let k : 0 < product e m (d + 1) = right_pos (e d) (product e m (d + 1)) h in
    let R : ℕ = product e m (d + 1) in
    let q : place e (position e (suc m) d c) m (d + 1) ≡ place e (position e m (d + 1) (c % R)) m (d + 1) =
    place_cong m (d + 1) (λ i l r. refl) (λ i l r. rw (ne_eqb i d (λ z. omega arith)) refl) in
    rw (q, eq-eqb d d refl, place_position e m (d + 1) (c % product e m (d + 1)) (mod-lt c k)) (div-add-mod' c (product e m (d + 1)))
