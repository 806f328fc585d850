-- The regions of a share, with one axis more at a time.
use Prim.Native.Nat.{ℕ, zero, suc, ◌+◌, ◌-◌, ◌*◌, ◌^◌, ◌≤◌, ◌<◌}
use mathlib.Core.Path.{◌≡◌, sym, ◌∙◌, refl, ap, ap₂}
use mathlib.Core.List.{List, [], ◌∷◌}
use native.Mathlib.Nat.{zero-add, le_trans, mul-le-mul, mul-le-mul_left}
use native.Mathlib.Omega.{arith}
use borrow.Author.Tests.{ltb-true, ltb-false}
use lib.Dec.{ltb}
use lib.ListN.{get_or}
use Rattle.cube_spec.specs.Portions.{ceiling}
use Rattle.cube_spec.specs.Boxes.{pick, product}
use Rattle.cube_spec.specs.Choices.{length_of}
use Rattle.cube_spec.specs.Limits.{point_limit}
use Rattle.cube_spec.specs.Tree.{has, kept, choice_cells, region_size, region_start}
use Rattle.cube_spec.proofs.Boxing.{product_cong}
use Rattle.cube_spec.proofs.Products.{product_last, product_append, product_pos}
use Rattle.cube_spec.proofs.Sums.{by}
use Rattle.cube_spec.proofs.Sets.{kept_out, kept_other}
use Rattle.cube_spec.proofs.Weights.{front_summed}
use Rattle.plan_spec.specs.Pricing.{Priceable, most_of}
use Rattle.plan_spec.proofs.PricingLaws.{region_small, share_next, share_none}

module _ (m : ℕ → ℕ) where
  none : (d : ℕ) → kept [] m d ≡ m d
  unfolding has
  none d = kept_out m [] d refl

  -- region r with the axis d more
  size_turn : (d r : ℕ) → r < d → region_size (d + 1) m r ≡ region_size d m r * m d
  unfolding region_size choice_cells
  size_turn d r h = product_last (kept (r ∷ []) m) d 0 ∙ ap (λ x. product (kept (r ∷ []) m) d 0 * x) (ap (kept (r ∷ []) m) (zero-add d) ∙ kept_other m r d [] (λ e. omega arith) ∙ none d)

  size_last : (d : ℕ) → region_size (d + 1) m d ≡ product m d 0
  unfolding region_size choice_cells
  size_last d = front_summed m d [] ∙ product_cong d 0 (λ i l r. none i)

  pub start_turn : (d j : ℕ) → j ≤ d → region_start (d + 1) m j ≡ region_start d m j * m d
  start_turn d zero h = share_none (d + 1) m ∙ (let z = share_none d m in rw z (omega arith))
  start_turn d (suc j) h =
      let n : suc j ≡ j + 1 = omega arith in
      let i = start_turn d j (omega arith) in
      let s = size_turn d j (omega arith) in
      let a = share_next (d + 1) j m in
      let b = share_next d j m in
      rw (n, a, b, i, s) (omega arith)

  pub start_last : (d : ℕ) → region_start (d + 1) m (d + 1) ≡ region_start d m d * m d + product m d 0
  start_last d = share_next (d + 1) d m ∙ ap₂ ◌+◌ (start_turn d d (omega arith)) (size_last d)

  pub all_none : 1 ≡ product m 0 0
  unfolding product
  all_none = refl

  pub all_turn : (d : ℕ) → product m d 0 * m d ≡ product m (d + 1) 0
  all_turn d = sym (product_last m d 0 ∙ ap (λ x. product m d 0 * m x) (zero-add d))

-- the sum of the regions before region i, after d axes
abbrev pub Started : (ℕ → ℕ) → ℕ → ℕ → ℕ → Type 0
Started m i d start = (d ≤ i → start ≡ region_start d m d) × (i ≤ d → start ≡ region_start d m i)

module _ (L E : List ℕ) (n : ℕ) (ok : Priceable L E n) where
  fewer : (d : ℕ) → d ≤ n → Priceable L E d
  fewer d h = record {
    few = (let f = ok.few in omega arith);
    some = λ i l. ok.some i (omega arith);
    cut = λ i l. ok.cut i (omega arith);
    small = le_trans (front_le d h) ok.small;
  }
    where
      front_le : (d : ℕ) → d ≤ n → product (length_of L) d 0 ≤ product (length_of L) n 0
      front_le d h =
          let z : n ≡ d + (n - d) = omega arith in
          let s = ap (λ x. product (length_of L) x 0) z ∙ product_append (length_of L) d (n - d) 0 in
          let p = product_pos (length_of L) (n - d) (0 + d) (λ i l r. ok.some i (omega arith)) in
          let q = mul-le-mul_left (product (length_of L) d 0) p in
          omega arith

  pub starts_small : (d j : ℕ) → d ≤ n → region_start d (most_of L E) j ≤ point_limit * j
  starts_small d zero h = let z = share_none d (most_of L E) in omega arith
  starts_small d (suc j) h =
      let k : suc j ≡ j + 1 = omega arith in
      let i = starts_small d j h in
      let s = region_small L E d (fewer d h) j in
      let a = share_next d j (most_of L E) in
      rw k (omega arith)

  abbrev m' : ℕ → ℕ
  m' = most_of L E

  -- the product of all axes before d
  pub all_small : (d : ℕ) → d < n → product m' d 0 ≤ point_limit * 8
  all_small d h =
      let a = start_last m' d in
      let b = starts_small (d + 1) (d + 1) (omega arith) in
      let f = ok.few in
      omega arith

  pub started : (i : ℕ) → Started m' i 0 0
  started i = (λ h. sym (share_none 0 m'), λ h. (let z : i ≡ 0 = omega arith in rw z (sym (share_none 0 m'))))

  pub start_next : (i d start : ℕ) → Started m' i d start → Started m' i (d + 1) (pick (ltb d i) (start * m' d + product m' d 0) (start * m' d))
  start_next i d start s =
      by (ltb d i)
      (λ t.
      let l = ltb-true d i t in
      let e = s.0 (omega arith) in
      let f = start_last m' d in
      (λ h. rw (t, e) (sym f), λ h. (let z : i ≡ d + 1 = omega arith in rw (t, e, z) (sym f))))
      (λ t.
      let l = ltb-false d i t in
      let e = s.1 l in
      let f = start_turn m' d i l in
      (λ h. absurd (omega arith), λ h. rw (t, e) (sym f)))

  pub start_small : (i d start : ℕ) → i ≤ n → d ≤ n → Started m' i d start → start ≤ point_limit * 8
  start_small i d start h k s =
      let f = ok.few in
      by (ltb d i)
      (λ t. let e = s.0 (let l = ltb-true d i t in omega arith) in let b = starts_small d d k in omega arith)
      (λ t. let e = s.1 (ltb-false d i t) in let b = starts_small d i k in omega arith)

  pub start_end : (i d start : ℕ) → i ≤ n → d ≡ n → Started m' i d start → (start ≡ region_start n m' i) × (start ≤ point_limit * i)
  start_end i d start h e s =
      let a : start ≡ region_start n m' i = (s.1 (omega arith) ∙ ap (λ d. region_start d m' i) e) in
      let b = starts_small n i (omega arith) in
      (a, omega arith)

-- no sum leaves 64 bits
pub sum_fits : (sum most all : ℕ) → sum ≤ point_limit * 8 → most < 2 ^ 33 → all ≤ point_limit * 8 → sum * most + all < 2 ^ 64
sum_fits sum most all a b c = let p = mul-le-mul {n₁ = sum} {m₁ = most} {n₂ = 134217728} {m₂ = 8589934592} a (omega arith) in omega arith

pub all_fits : (most all : ℕ) → most < 2 ^ 33 → all ≤ point_limit * 8 → all * most < 2 ^ 64
all_fits most all b c = let p = mul-le-mul {n₁ = all} {m₁ = most} {n₂ = 134217728} {m₂ = 8589934592} c (omega arith) in omega arith

pub most_same : (L E : List ℕ) (d r : ℕ) → r ≡ ceiling (get_or L d 0) (2 ^ get_or E d 0) → r ≡ most_of L E d
unfolding most_of
most_same L E d r e = e
