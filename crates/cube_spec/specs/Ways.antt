-- Ways and divisions, over axes by number. `ds` are the lengths; every choice but the full one is a mask below the full one.
use Rattle.std.specs.Prelude.{ℕ, zero, suc, ◌+◌, ◌*◌, ◌/◌, ◌^◌, ◌≤◌, ◌<◌, ◌≡◌, false, List, [], ◌∷◌, leb, length, get_or}
use Rattle.cube_spec.specs.Boxes.{pick, sum_n}
use Rattle.cube_spec.specs.Choices.{keeps, full_mask, with_mask, length_of, cells}
use Rattle.cube_spec.specs.Tree.{sent}

-- "a way gives every choice but the full one a parent, any choice that keeps the same axes and exactly one more": that axis is any of n that the choice sums out
pub record Way (n : ℕ) : Type 0 where
  pub axis : ℕ → ℕ
  pub within : (mask : ℕ) → mask < full_mask n → axis mask < n
  pub summed : (mask : ℕ) → mask < full_mask n → keeps mask (axis mask) ≡ false

unfoldable pub sum_list : List ℕ → ℕ
sum_list [] = 0
sum_list (k ∷ r) = k + sum_list r

-- "A grid division gives every axis an exponent k with 2^k at most its length, the exponents summing to p"
pub record Division (ds : List ℕ) (p : ℕ) : Type 0 where
  pub exponents : List ℕ
  pub each : length exponents ≡ length ds
  pub fits : (d : ℕ) → d < length ds → 2 ^ get_or exponents d 0 ≤ length_of ds d
  pub sums : sum_list exponents ≡ p

-- The cost of a way with exponents: over every choice but the full one, its cells × (2^k − 1), each moved value at a price for the axis that is summed.
unfoldable pub cost_by : (price : ℕ → ℕ) (ds ks : List ℕ) → Way (length ds) → ℕ
cost_by price ds ks w = sum_n (full_mask (length ds)) (λ mask. cells ds mask * sent (get_or ks (w.axis mask) 0) * price (w.axis mask))

-- "A way with a division moves, summed over every choice but the full one, its cells × (2^k − 1), with k that of the one axis its parent has more": a value costs 1
unfoldable pub moved_by : (ds : List ℕ) {p : ℕ} → Division ds p → Way (length ds) → ℕ
moved_by ds e w = cost_by (λ d. 1) ds e.exponents w

-- "it adds up the sum of the parents' cells"
unfoldable pub added_by : (ds : List ℕ) → Way (length ds) → ℕ
added_by ds w = sum_n (full_mask (length ds)) (λ mask. cells ds (with_mask mask (w.axis mask)))

-- floor(log2 d): how often d can be halved down to 1 (`f` is at least that)
unfoldable pub halvings : ℕ → ℕ → ℕ
halvings zero d = 0
halvings (suc f) d =
    let more = suc (halvings f (d / 2)) in
    pick (leb 2 d) more 0

unfoldable pub log2 : ℕ → ℕ
log2 d = halvings d d

-- F, "the sum of floor(log2 length)"
unfoldable pub room : List ℕ → ℕ
room [] = 0
room (d ∷ ds) = log2 d + room ds
