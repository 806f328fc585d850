-- An order that names each axis once is a permutation.
use Prim.Native.Nat.{ℕ, zero, suc, ◌+◌, ◌*◌, ◌^◌, ◌≤◌, ◌<◌}
use mathlib.Core.Path.{◌≡◌, sym, ◌∙◌, refl, ap, ap₂}
use mathlib.Core.List.{List, [], ◌∷◌}
use native.Mathlib.Nat.{mul-one, zero-add, pow-zero, pow-succ'}
use native.Mathlib.Omega.{arith}
use borrow.Author.Tests.{eqb-true, eqb-false, eq-eqb, ne_eqb, ltb-true, ltb-false}
use lib.Dec.{eqb, ltb}
use lib.ListN.{length, get_or}
use Rattle.cube_spec.specs.Boxes.{pick, sum_n, product}
use Rattle.cube_spec.specs.Ways.{sum_list}
use Rattle.cube_spec.proofs.Sums.{by}
use Rattle.cube_spec.proofs.Boxing.{product_cong}
use Rattle.cube_spec.proofs.Products.{product_ones, product_scale, product_shift}
use Rattle.cube_spec.proofs.Naturals.{sum_n_cong, sum_n_zero, sum_n_add, sum_n_swap, sum_n_only, sum_n_miss, sum_n_same, sum_n_first}
use Rattle.plan_spec.specs.Plans.{PlanLists, Sound, count, find, exponent_at}

-- how many of l are below n
below : ℕ → List ℕ → ℕ
below n [] = 0
below n (x ∷ l) = pick (ltb x n) 1 0 + below n l

counts : (n : ℕ) (l : List ℕ) → sum_n n (λ a. count a l) ≡ below n l
unfolding count below
counts n [] = sum_n_zero n
counts n (x ∷ l) =
    sum_n_add n (λ a. pick (eqb x a) 1 0) (λ a. count a l) ∙ ap₂ ◌+◌ (by (ltb x n) (λ t. sum_n_only n x (λ a. 1) (ltb-true x n t) ∙ sym (ap (λ t. pick t 1 0) t)) (λ t. sum_n_miss n x (λ a. 1) (ltb-false x n t) ∙ sym (ap (λ t. pick t 1 0) t))) (counts n l)

below_le : (n : ℕ) (l : List ℕ) → below n l ≤ length l
unfolding below
below_le n [] = omega arith
below_le n (x ∷ l) = let q = below_le n l in by (ltb x n) (λ t. rw t (omega arith)) (λ t. rw t (omega arith))

-- if all are, each is
below_all : (n : ℕ) (l : List ℕ) → below n l ≡ length l → (d : ℕ) → d < length l → get_or l d 0 < n
unfolding below
below_all n [] e d h = absurd (omega arith)
below_all n (x ∷ l) e zero h =
    let q = below_le n l in
    by (ltb x n) (λ t. ltb-true x n t) (λ t. absurd (let z : 0 + below n l ≡ suc (length l) = (rw t at e) in omega arith))
below_all n (x ∷ l) e (suc d) h =
    let q = below_le n l in
    below_all n l (by (ltb x n) (λ t. let z : 1 + below n l ≡ suc (length l) = (rw t at e) in omega arith) (λ t. let z : 0 + below n l ≡ suc (length l) = (rw t at e) in omega arith)) d (omega arith)

pub find_lt : (a : ℕ) (l : List ℕ) → 0 < count a l → find a l < length l
unfolding count find
find_lt a [] h = absurd (omega arith)
find_lt a (x ∷ l) h =
    by (eqb x a) (λ t. rw t (omega arith)) (λ t. let z : 0 < 0 + count a l = (rw t at h) in let q = find_lt a l (omega arith) in rw t (omega arith))

pub get_find : (a : ℕ) (l : List ℕ) → 0 < count a l → get_or l (find a l) 0 ≡ a
unfolding count find
get_find a [] h = absurd (omega arith)
get_find a (x ∷ l) h =
    by (eqb x a) (λ t. rw t (eqb-true x a t)) (λ t. let z : 0 < 0 + count a l = (rw t at h) in rw t (get_find a l (omega arith)))

pub count_get : (l : List ℕ) (d : ℕ) → d < length l → 0 < count (get_or l d 0) l
unfolding count
count_get [] d h = absurd (omega arith)
count_get (x ∷ l) zero h = rw (eq-eqb x x refl) (omega arith)
count_get (x ∷ l) (suc d) h = let q = count_get l d (omega arith) in omega arith

pub find_get : (l : List ℕ) (d : ℕ) → d < length l → count (get_or l d 0) l ≡ 1 → find (get_or l d 0) l ≡ d
unfolding count find
find_get [] d h e = absurd (omega arith)
find_get (x ∷ l) zero h e = rw (eq-eqb x x refl)
find_get (x ∷ l) (suc d) h e =
    let q = count_get l d (omega arith) in
    by (eqb x (get_or l d 0))
    (λ t. absurd (let z : 1 + count (get_or l d 0) l ≡ 1 = (rw t at e) in omega arith))
    (λ t. let z : 0 + count (get_or l d 0) l ≡ 1 = (rw t at e) in rw t (ap suc (find_get l d (omega arith) (omega arith))))

power_one : (x : ℕ) → x ^ 1 ≡ x
power_one x = pow-succ' x 0 ∙ ap (λ y. x * y) (pow-zero x) ∙ mul-one x

pub sum_list_lem : (l : List ℕ) → sum_list l ≡ sum_n (length l) (λ i. get_or l i 0)
unfolding sum_list sum_n
sum_list_lem [] = refl
sum_list_lem (x ∷ l) = ap (λ s. x + s) (sum_list_lem l) ∙ sym (sum_n_first (length l) (λ i. get_or (x ∷ l) i 0))

-- ---- products over the elements of a list

products : List ℕ → (ℕ → ℕ) → ℕ
products [] f = 1
products (x ∷ l) f = f x * products l f

products_places : (l : List ℕ) (f : ℕ → ℕ) → products l f ≡ product (λ d. f (get_or l d 0)) (length l) 0
unfolding products product
products_places [] f = refl
products_places (x ∷ l) f = ap (λ y. f x * y) (products_places l f ∙ product_shift (λ d. f (get_or (x ∷ l) d 0)) (length l) 0)

-- each number below n counts as often as it stands in the list
products_count : (l : List ℕ) (f : ℕ → ℕ) (n : ℕ) → ((d : ℕ) → d < length l → get_or l d 0 < n) → product (λ a. f a ^ count a l) n 0 ≡ products l f
unfolding products count
products_count [] f n h = product_ones (λ a. f a ^ 0) n 0 (λ a l r. pow-zero (f a))
products_count (x ∷ l) f n h =
    let ih = products_count l f n (λ d r. h (suc d) (omega arith)) in
    let x< = h 0 (omega arith) in
    product_scale (λ a. f a ^ count a l) (λ a. f a ^ (pick (eqb x a) 1 0 + count a l)) (f x) x n 0 (omega arith) (omega arith) here other ∙ ap (λ y. f x * y) ih
  where
    here : f x ^ (pick (eqb x x) 1 0 + count x l) ≡ f x * f x ^ count x l
    here = rw (eq-eqb x x refl) (let q : 1 + count x l ≡ suc (count x l) = omega arith in rw q (pow-succ' (f x) (count x l)))

    other : (i : ℕ) → (i ≡ x → ⊥) → f i ^ (pick (eqb x i) 1 0 + count i l) ≡ f i ^ count i l
    other i ne = rw (ne_eqb x i (λ z. ne (sym z)), zero-add)

-- n places that name each of n numbers once name no other
pub once_below : (n : ℕ) (l : List ℕ) → length l ≡ n → ((a : ℕ) → a < n → count a l ≡ 1) → (d : ℕ) → d < n → get_or l d 0 < n
once_below n l places once d h =
    let e : below n l ≡ n = sym (counts n l) ∙ sum_n_cong n once ∙ sum_n_same 1 n ∙ mul-one n in
    below_all n l (e ∙ sym places) d (omega arith)

module _ (a : PlanLists) (ok : Sound a) where
  pub order_below : (d : ℕ) → d < length a.lengths → get_or a.order d 0 < length a.lengths
  order_below = once_below (length a.lengths) a.order ok.places ok.once

  pub rank_below : (d : ℕ) → d < length a.lengths → find d a.order < length a.lengths
  rank_below d r = let e = ok.once d r in let q = ok.places in let s = find_lt d a.order (omega arith) in omega arith

  pub rank_order : (d : ℕ) → d < length a.lengths → find (get_or a.order d 0) a.order ≡ d
  rank_order d r = find_get a.order d (let q = ok.places in omega arith) (ok.once _ (order_below d r))

  pub order_rank : (d : ℕ) → d < length a.lengths → get_or a.order (find d a.order) 0 ≡ d
  order_rank d r = let e = ok.once d r in get_find d a.order (omega arith)

  -- a sum over the places of the plan is the sum over the axes
  pub sum_order : (f : ℕ → ℕ) → sum_n (length a.lengths) (λ d. f (get_or a.order d 0)) ≡ sum_n (length a.lengths) f
  sum_order f =
      let n = length a.lengths in
      sum_n_cong n (λ d h. sym (sum_n_only n (get_or a.order d 0) f (order_below d h))) ∙ sum_n_swap n n (λ d x. pick (eqb (get_or a.order d 0) x) (f x) 0) ∙ sum_n_cong n (λ x h. sum_n_cong n (λ d r. ap (λ t. pick t (f x) 0) (turned d x r h)) ∙ sum_n_only n (find x a.order) (λ d. f x) (rank_below x h))
    where
      turned : (d x : ℕ) → d < length a.lengths → x < length a.lengths → eqb (get_or a.order d 0) x ≡ eqb (find x a.order) d
      turned d x r h =
          by (eqb (get_or a.order d 0) x)
          (λ t. t ∙ sym (eq-eqb (find x a.order) d (ap (λ y. find y a.order) (sym (eqb-true _ x t)) ∙ rank_order d r)))
          (λ t. t ∙ sym (ne_eqb (find x a.order) d (λ e. eqb-false _ x t (ap (λ y. get_or a.order y 0) (sym e) ∙ order_rank x h))))

  -- and so is a product
  pub product_order : (f : ℕ → ℕ) → product (λ d. f (get_or a.order d 0)) (length a.lengths) 0 ≡ product f (length a.lengths) 0
  product_order f =
      let n = length a.lengths in
      (rw (← ok.places) (sym (products_places a.order f))) ∙ sym (products_count a.order f n (λ d h. order_below d (let q = ok.places in omega arith))) ∙ product_cong n 0 (λ x l r. ap (λ k. f x ^ k) (ok.once x (omega arith)) ∙ power_one (f x))

  -- so the exponents along the plan sum to p
  pub exponents_sum : sum_n (length a.lengths) (exponent_at a) ≡ a.p
  exponents_sum = sum_order (λ d. get_or a.exponents d 0) ∙ (rw (← ok.each) (sym (sum_list_lem a.exponents))) ∙ ok.sums
