-- Bounds that keep the planner's numbers within 64 bits.
use Prim.Native.Nat.{ℕ, zero, suc, ◌+◌, ◌-◌, ◌*◌, ◌^◌, ◌≤◌, ◌<◌}
use mathlib.Core.Path.{◌≡◌, sym, ◌∙◌, ap}
use native.Mathlib.Nat.{zero-add, mul-le-mul, mul-le-mul_left, mul-le-mul_right, mul-one, one-mul, mul_assoc, le_trans, le_of_eq, pow-succ'}
use native.Mathlib.Omega.{arith}
use lib.Pow.{pow_mono}
use Rattle.cube_spec.specs.Limits.{point_limit}
use Rattle.cube_spec.specs.Boxes.{product}
use Rattle.cube_spec.specs.Tree.{weight}
use Rattle.cube_spec.proofs.Products.{product_pos, product_append, product_next, product_none}
use Rattle.plan_spec.specs.Choosing.{Bounded}

-- each length one more at most doubles it
product_double : (len : ℕ → ℕ) (m d : ℕ) → ((i : ℕ) → d ≤ i → i < d + m → 0 < len i) → product (λ j. len j + 1) m d ≤ 2 ^ m * product len m d
unfolding product
product_double len zero d h = omega arith
product_double len (suc m) d h =
    let ih = product_double len m (d + 1) (λ i l r. h i (omega arith) (omega arith)) in
    let one : len d + 1 ≤ 2 * len d = (let q = h d (omega arith) (omega arith) in omega arith) in
    let q = mul-le-mul one ih in
    let e = pow-succ' 2 m in
    rw e (le_trans q (le_of_eq (omega arith)))

module _ (len : ℕ → ℕ) (n : ℕ) (ok : Bounded len n) where
  some_from : (m d : ℕ) → d + m ≤ n → 0 < product len m d
  some_from m d h = product_pos len m d (λ i l r. ok.some i (omega arith))

  cut : (i : ℕ) → i ≤ n → product len n 0 ≡ product len i 0 * product len (n - i) i
  cut i h =
      let z : n ≡ i + (n - i) = omega arith in
      ap (λ k. product len k 0) z ∙ product_append len i (n - i) 0 ∙ ap (λ k. product len i 0 * product len (n - i) k) (zero-add i)

  -- the product of the lengths from i on
  pub rest_small : (i : ℕ) → i ≤ n → product len (n - i) i ≤ point_limit
  rest_small i h =
      let e = cut i h in
      let q = mul-le-mul_right (product len (n - i) i) (some_from i 0 (omega arith)) in
      let o = one-mul (product len (n - i) i) in
      let s = ok.small in
      omega arith

  -- and of those before i
  pub front_small : (i : ℕ) → i ≤ n → product len i 0 ≤ point_limit
  front_small i h =
      let e = cut i h in
      let q = mul-le-mul_left (product len i 0) (some_from (n - i) i (omega arith)) in
      let o = mul-one (product len i 0) in
      let s = ok.small in
      omega arith

  more_front : (i : ℕ) → i ≤ n → product (λ j. len j + 1) i 0 ≤ 256 * product len i 0
  more_front i h =
      let d = product_double len i 0 (λ k l r. ok.some k (omega arith)) in
      let f = ok.few in
      let p : 2 ^ i ≤ 2 ^ 8 = pow_mono {i = i} {j = 8} (omega arith) in
      le_trans d (mul-le-mul_right (product len i 0) p)

  pub more_small : (i : ℕ) → i ≤ n → product (λ j. len j + 1) i 0 ≤ 2 ^ 32
  more_small i h = let a = more_front i h in let b = front_small i h in omega arith

  -- the weight of an axis
  pub weight_parts : (i : ℕ) → weight n len i ≡ product (λ j. len j + 1) i 0 * product len (n - (i + 1)) (i + 1)
  unfolding weight
  weight_parts i = let z : suc i ≡ i + 1 = omega arith in rw z

  pub weight_small : (i : ℕ) → i < n → weight n len i ≤ 2 ^ 32
  weight_small i h =
      let a = mul-le-mul_right (product len (n - (i + 1)) (i + 1)) (more_front i (omega arith)) in
      let e = cut i (omega arith) in
      let x = product_next len n i h in
      let o : product len (n - (i + 1)) (i + 1) ≤ len i * product len (n - (i + 1)) (i + 1) = (let q = mul-le-mul_right (product len (n - (i + 1)) (i + 1)) (ok.some i h) in let z = one-mul (product len (n - (i + 1)) (i + 1)) in omega arith) in
      let b = mul-le-mul_left (256 * product len i 0) o in
      let w = weight_parts i in
      let s = ok.small in
      let t : 256 * product len i 0 * (len i * product len (n - (i + 1)) (i + 1)) ≡ 256 * product len n 0 = (rw (e, x) (mul_assoc 256 (product len i 0) (len i * product len (n - (i + 1)) (i + 1)))) in
      omega arith

  module _ (i j r : ℕ) (hi : i ≤ j) (h : j < n) (e : r * product len (n - j) j ≡ product len (n - i) i) where
    pub from_next : r * len j * product len (n - (j + 1)) (j + 1) ≡ product len (n - i) i
    from_next = (rw (product_next len n j h, ← mul_assoc) at e)

    pub from_small : r * len j ≤ point_limit
    from_small =
        let q = from_next in
        let s = rest_small i (omega arith) in
        let p = mul-le-mul_left (r * len j) (some_from (n - (j + 1)) (j + 1) (omega arith)) in
        let o = mul-one (r * len j) in
        omega arith

  pub from_end : (i j r : ℕ) → n ≤ j → r * product len (n - j) j ≡ product len (n - i) i → r ≡ product len (n - i) i
  from_end i j r h e = sym (mul-one r) ∙ ap (λ x. r * x) (sym (product_none len n j h)) ∙ e
