-- Every way costs at least the cheapest parents, choice by choice.
use Prim.Native.Nat.{ℕ, zero, suc, ◌+◌, ◌*◌, ◌^◌, ◌≤◌, ◌<◌, min}
use mathlib.Core.Path.{◌≡◌, ◌∙◌, ap, sym, refl}
use mathlib.Core.Bool.{Bool, true, false}
use mathlib.Core.List.{List, [], ◌∷◌}
use mathlib.Core.Option.{Option, none, some}
use native.Mathlib.Omega.{arith}
use native.Mathlib.Nat.{mul_assoc, one-mul, mul-one, mul-zero, zero-add, add-zero, mul-le-mul_left, le_trans, le_refl}
use lib.ListN.{length, get_or}
use Rattle.cube_spec.specs.Boxes.{pick, sum_n, product}
use Rattle.cube_spec.specs.Choices.{keeps, full_mask, cells}
use Rattle.cube_spec.specs.Ways.{Way}
use Rattle.cube_spec.proofs.Sums.{by}
use Rattle.cube_spec.proofs.Naturals.{sum_n_cong, sum_n_le}
use Rattle.cube_spec.proofs.Digits.{keeps_full}
use Rattle.cube_spec.proofs.Masks.{sum_masks, sum_full, keeps_odd, keeps_even, later_odd, later_even, cells_odd, cells_even}
use Rattle.cube_spec.proofs.Axes.{Axis, lens, keys}
use Rattle.plan_spec.proofs.Cost.{lower, rate, cost}
use Rattle.plan_spec.proofs.Tools.{add_same}

-- the least key of the axes that are not kept, and of `m`
unfoldable pub least_key : Option ℕ → (ℕ → Bool) → List Axis → Option ℕ
least_key m kept [] = m
least_key m kept (a ∷ r) = least_key (pick (kept 0) m (lower m a.key)) (λ d. kept (suc d)) r

-- what a choice costs with the cheapest parent, where `c` cells are kept already
unfoldable pub cheapest : (ℕ → ℕ) → Option ℕ → ℕ → List Axis → ℕ → ℕ
cheapest price m c r mask = c * cells (lens r) mask * rate price (least_key m (keeps mask) r)

module _ (price : ℕ → ℕ) (m : Option ℕ) (c : ℕ) (a : Axis) (r : List Axis) where
  cheapest_odd : (mask : ℕ) → cheapest price m c (a ∷ r) (mask * 2 + 1) ≡ cheapest price m (c * a.len) r mask
  unfolding cheapest least_key lens
  cheapest_odd mask =
      rw (cells_odd a.len (lens r) mask, keeps_odd mask, later_odd mask, mul_assoc c a.len (cells (lens r) mask)) refl

  cheapest_even : (mask : ℕ) → cheapest price m c (a ∷ r) (mask * 2) ≡ cheapest price (lower m a.key) c r mask
  unfolding cheapest least_key lens
  cheapest_even mask = rw (cells_even a.len (lens r) mask, keeps_even mask, later_even mask) refl

cheapest_one : (price : ℕ → ℕ) (m : Option ℕ) (c : ℕ) → sum_n 1 (cheapest price m c []) ≡ c * rate price m
unfolding sum_n cheapest least_key cells lens product
cheapest_one price m c = zero-add (c * 1 * rate price m) ∙ ap (λ x. x * rate price m) (mul-one c)

-- the cheapest parents, choice by choice
cost_choices : (price : ℕ → ℕ) (m : Option ℕ) (c : ℕ) (r : List Axis) → cost price m c r ≡ sum_n (2 ^ length r) (cheapest price m c r)
unfolding cost
cost_choices price m c [] = sym (cheapest_one price m c)
cost_choices price m c (a ∷ r) =
    add_same (cost_choices price m (c * a.len) r ∙ sum_n_cong (2 ^ length r) (λ i l. sym (cheapest_odd price m c a r i))) (cost_choices price (lower m a.key) c r ∙ sum_n_cong (2 ^ length r) (λ i l. sym (cheapest_even price m c a r i)))
    ∙ sym (sum_masks (length r) (cheapest price m c (a ∷ r)))

-- nothing is summed where every axis is kept
kept_none : (kept : ℕ → Bool) (r : List Axis) → ((d : ℕ) → d < length r → kept d ≡ true) → least_key none kept r ≡ none
unfolding least_key
kept_none kept [] h = refl
kept_none kept (a ∷ r) h = rw (h 0 (omega arith)) (kept_none (λ d. kept (suc d)) r (λ d l. h (suc d) (omega arith)))

-- so the full choice costs nothing
pub cost_below : (price : ℕ → ℕ) (r : List Axis) → cost price none 1 r ≡ sum_n (full_mask (length r)) (cheapest price none 1 r)
cost_below price r =
    cost_choices price none 1 r ∙ sum_full (length r) (cheapest price none 1 r) ∙ ap (λ x. sum_n (full_mask (length r)) (cheapest price none 1 r) + x) full ∙ add-zero _
  where
    full : cheapest price none 1 r (full_mask (length r)) ≡ 0
    full = unfold cheapest rate in (rw (kept_none (keeps (full_mask (length r))) r (keeps_full (length r))) (mul-zero _))

module _ (price : ℕ → ℕ) (up : (j k : ℕ) → j ≤ k → price j ≤ price k) where
  least_le : (j k : ℕ) (kept : ℕ → Bool) (r : List Axis) → j ≤ k → rate price (least_key (some j) kept r) ≤ price k
  unfolding least_key lower rate
  least_le j k kept [] l = up j k l
  least_le j k kept (a ∷ r) l =
      by (kept 0)
      (λ t. rw t (least_le j k (λ d. kept (suc d)) r l))
      (λ t. rw t (least_le (min j a.key) k (λ d. kept (suc d)) r (omega arith)))

  lower_le : (m : Option ℕ) (k : ℕ) (kept : ℕ → Bool) (r : List Axis) → rate price (least_key (lower m k) kept r) ≤ price k
  unfolding lower
  lower_le none k kept r = least_le k k kept r (le_refl k)
  lower_le (some j) k kept r = least_le (min j k) k kept r (omega arith)

  -- the least key is at most that of any axis summed
  summed_le : (m : Option ℕ) (kept : ℕ → Bool) (r : List Axis) (i : ℕ) → i < length r → kept i ≡ false → rate price (least_key m kept r) ≤ price (get_or (keys r) i 0)
  unfolding least_key keys
  summed_le m kept [] i l s = absurd (omega arith)
  summed_le m kept (a ∷ r) zero l s = rw s (lower_le m a.key (λ d. kept (suc d)) r)
  summed_le m kept (a ∷ r) (suc i) l s = summed_le (pick (kept 0) m (lower m a.key)) (λ d. kept (suc d)) r i (omega arith) s

  -- any axis that each choice sums out, in place of the cheapest. `f` is what a choice costs by that way.
  pub ways_cost : {n : ℕ} (r : List Axis) → length r ≡ n → (w : Way n) (f : ℕ → ℕ)
      → ((mask : ℕ) → mask < full_mask n → cells (lens r) mask * price (get_or (keys r) (w.axis mask) 0) ≤ f mask)
      → cost price none 1 r ≤ sum_n (full_mask n) f
  unfolding cheapest
  ways_cost {n} r e w f g =
      rw (cost_below price r, e)
      (sum_n_le (full_mask n) (cheapest price none 1 r) f
      (λ mask l.
      let s = summed_le none (keeps mask) r (w.axis mask) (rw e (w.within mask l)) (w.summed mask l) in
      rw one-mul (le_trans (mul-le-mul_left (cells (lens r) mask) s) (g mask l))))
