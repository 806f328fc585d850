-- Products of powers of two: the labels of boards, all of them and those of a choice's leads.
use Prim.Native.Nat.{ℕ, zero, suc, ◌+◌, ◌-◌, ◌*◌, ◌/◌, ◌^◌, ◌≤◌, ◌<◌}
use mathlib.Core.Path.{◌≡◌, sym, ◌∙◌, refl, ap}
use mathlib.Core.Bool.{false}
use mathlib.Core.List.{List, [], ◌∷◌}
use native.Mathlib.Nat.{zero-add, mul-one, one-mul, mul_assoc, mul-le-mul, le_refl, mul-div_cancel}
use native.Mathlib.Numerals.{add-one}
use native.Mathlib.Decide.{dec_le}
use native.Mathlib.Omega.{arith}
use borrow.Author.Tests.{eqb-true, eqb-false}
use lib.Dec.{eqb}
use lib.Pow.{pow_pos, pow-lt, pow-add}
use Rattle.cube_spec.specs.Boxes.{sum_n, product}
use Rattle.cube_spec.specs.Tree.{has, kept, sum_over}
use Rattle.cube_spec.proofs.Sums.{by}
use Rattle.cube_spec.proofs.Boxing.{product_cong}
use Rattle.cube_spec.proofs.Products.{product_last, product_pos}
use Rattle.cube_spec.proofs.Sets.{Down, down_up, down_out, has_head, kept_has, kept_out, kept_other}

-- one axis more summed out takes its factor away
pub product_drop : (e : ℕ → ℕ) (j : ℕ) (Y : List ℕ) (m d : ℕ) → d ≤ j → j < d + m → has Y j ≡ false → product (kept (j ∷ Y) e) m d * e j ≡ product (kept Y e) m d
unfolding product
product_drop e j Y zero d l r t = absurd (omega arith)
product_drop e j Y (suc m) d l r t =
    by (eqb j d)
    (λ s.
    let q = eqb-true j d s in
    let a : kept (j ∷ Y) e d ≡ 1 = rw (← q) (kept_has e (j ∷ Y) j (has_head j Y)) in
    let b : kept Y e d ≡ e j = rw (← q) (kept_out e Y j t) in
    let c : product (kept (j ∷ Y) e) m (d + 1) ≡ product (kept Y e) m (d + 1) = product_cong m (d + 1) (λ i l r. kept_other e j i Y (λ z. omega arith)) in
    rw (a, b, c) (omega arith))
    (λ s.
    let ne = eqb-false j d s in
    let ih = product_drop e j Y m (d + 1) (omega (arith, ne)) (omega arith) t in
    let a = kept_other e j d Y (λ z. ne (sym z)) in
    rw (a, ← ih) (mul_assoc (kept Y e d) (product (kept (j ∷ Y) e) m (d + 1)) (e j)))

module _ (exp : ℕ → ℕ) where
  pub product_powers : (n : ℕ) → product (λ d. 2 ^ exp d) n 0 ≡ 2 ^ sum_n n exp
  product_powers zero = unfold product sum_n in refl
  product_powers (suc n) = next (product_powers n)
    where
      next : product (λ d. 2 ^ exp d) n 0 ≡ 2 ^ sum_n n exp → product (λ d. 2 ^ exp d) (suc n) 0 ≡ 2 ^ sum_n (suc n) exp
      next ih =
          let q : suc n ≡ n + 1 = omega arith in
          let z = zero-add n in
          rw q (product_last (λ d. 2 ^ exp d) n 0 ∙ (rw (z, ih) (sym (rw add-one (unfold sum_n in pow-add 2 (sum_n n exp) (exp n))))))

  kept_powers : (n : ℕ) (Z : List ℕ) → Down Z n → product (kept Z (λ d. 2 ^ exp d)) n 0 * 2 ^ sum_over Z exp ≡ 2 ^ sum_n n exp
  unfolding sum_over
  kept_powers n [] h = mul-one _ ∙ product_cong n 0 (λ i l r. kept_out (λ d. 2 ^ exp d) [] i (unfold has in refl)) ∙ product_powers n
  kept_powers n (j ∷ Z) h =
      let q = h.0 in
      let a = pow-add 2 (exp j) (sum_over Z exp) in
      let b = product_drop (λ d. 2 ^ exp d) j Z n 0 (omega arith) (omega arith) (down_out Z j j h.1 (omega arith)) in
      let ih = kept_powers n Z (down_up Z j n (omega arith) h.1) in
      rw (a, ← mul_assoc, b) ih

  -- a choice has 2^(p − s) leads, s the sum of the exponents over its summed axes
  pub kept_power : (n : ℕ) (Z : List ℕ) → Down Z n → product (kept Z (λ d. 2 ^ exp d)) n 0 ≡ 2 ^ (sum_n n exp - sum_over Z exp)
  kept_power n Z h = go (dec_le (sum_over Z exp) (sum_n n exp))
    where
      go : Dec (sum_over Z exp ≤ sum_n n exp) → product (kept Z (λ d. 2 ^ exp d)) n 0 ≡ 2 ^ (sum_n n exp - sum_over Z exp)
      go (yes l) =
          let e = kept_powers n Z h in
          let q : sum_n n exp - sum_over Z exp + sum_over Z exp ≡ sum_n n exp = omega arith in
          let a : 2 ^ sum_n n exp ≡ 2 ^ (sum_n n exp - sum_over Z exp) * 2 ^ sum_over Z exp = ap (λ k. 2 ^ k) (sym q) ∙ pow-add 2 (sum_n n exp - sum_over Z exp) (sum_over Z exp) in
          sym (mul-div_cancel (product (kept Z (λ d. 2 ^ exp d)) n 0) (pow_pos (sum_over Z exp))) ∙ ap (λ x. x / 2 ^ sum_over Z exp) (e ∙ a) ∙ mul-div_cancel (2 ^ (sum_n n exp - sum_over Z exp)) (pow_pos (sum_over Z exp))
      go (no f) =
          let e = kept_powers n Z h in
          let x : 0 < product (kept Z (λ d. 2 ^ exp d)) n 0 = product_pos (kept Z (λ d. 2 ^ exp d)) n 0 (λ i l r. some i) in
          let y = mul-le-mul x (le_refl (2 ^ sum_over Z exp)) in
          let o = one-mul (2 ^ sum_over Z exp) in
          let l : 2 ^ sum_n n exp < 2 ^ sum_over Z exp = pow-lt (omega (arith, f)) in
          absurd (omega arith)
        where
          some : (i : ℕ) → 0 < kept Z (λ d. 2 ^ exp d) i
          some i =
              by (has Z i)
              (λ t. let k = kept_has (λ d. 2 ^ exp d) Z i t in omega arith)
              (λ t. let k = kept_out (λ d. 2 ^ exp d) Z i t in rw k (pow_pos (exp i)))
