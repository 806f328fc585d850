-- The cheapest parent of a choice: the first axis that costs least among those summed out. From it, a division's cost is the least over all ways, and a way attains it.
use Prim.Native.Nat.{ℕ, zero, suc, ◌*◌, ◌≤◌, ◌<◌}
use mathlib.Core.Path.{◌≡◌, ◌∙◌, ap, sym, refl}
use mathlib.Core.Bool.{Bool, true, false}
use mathlib.Core.List.{List}
use mathlib.Core.Option.{Option, none, some}
use mathlib.Core.Logic.{◌⊎◌, inl, inr}
use native.Mathlib.Omega.{arith}
use native.Mathlib.Decide.{dec_le}
use native.Mathlib.Nat.{mul_assoc, mul-le-mul_left, le_of_eq}
use lib.ListN.{length, get_or}
use Rattle.cube_spec.specs.Boxes.{sum_n}
use Rattle.cube_spec.specs.Choices.{keeps, full_mask, cells}
use Rattle.cube_spec.specs.Tree.{sent}
use Rattle.cube_spec.specs.Ways.{Way, Division, cost_by}
use Rattle.cube_spec.proofs.Sums.{by}
use Rattle.cube_spec.proofs.Naturals.{clash, sum_n_cong, sum_n_le}
use Rattle.cube_spec.proofs.Masks.{all_kept}
use Rattle.plan_spec.specs.Rule.{up_to}
use Rattle.link_spec.specs.Costs.{link_of, weighted_cost, fare, least_fare, paid, cheapest_cost}

-- axis a goes before axis b: it costs less, or the same with a lower number
abbrev pub Beats : (ℕ → ℕ) → ℕ → ℕ → Type 0
Beats price a b = (price a < price b) ⊎ ((price a ≡ price b) × (a < b))

-- of the axes below n that are not kept, the one that goes before all others
pub record Winner (kept : ℕ → Bool) (price : ℕ → ℕ) (n : ℕ) : Type 0 where
  pub axis : ℕ
  pub within : axis < n
  pub summed : kept axis ≡ false
  pub first : (j : ℕ) → j < n → kept j ≡ false → (j ≡ axis → ⊥) → Beats price axis j
  pub least : least_fare kept price n ≡ some (price axis)

-- or none is summed out
pub record Nothing (kept : ℕ → Bool) (price : ℕ → ℕ) (n : ℕ) : Type 0 where
  pub all : (j : ℕ) → j < n → kept j ≡ true
  pub least : least_fare kept price n ≡ none

module _ (kept : ℕ → Bool) (price : ℕ → ℕ) where
  kept_fare : (n : ℕ) → kept n ≡ true → least_fare kept price (suc n) ≡ least_fare kept price n
  unfolding least_fare
  kept_fare n k = rw k

  summed_fare : (n : ℕ) → kept n ≡ false → least_fare kept price (suc n) ≡ some (up_to (price n) (least_fare kept price n))
  unfolding least_fare
  summed_fare n k = rw k

  -- an index below n + 1 is n or below n
  upto : {X : Type 0} (n j : ℕ) → j < suc n → (j < n → X) → (j ≡ n → X) → X
  upto {X = X} n j l f g = go (dec_le (suc j) n)
    where
      go : Dec (suc j ≤ n) → X
      go (yes h) = f (omega arith)
      go (no h) = g (omega arith)

  beats_through : {a b c : ℕ} → price a < price b → Beats price b c → price a < price c
  beats_through l (inl h) = omega arith
  beats_through l (inr h) = let e = h.0 in omega arith

  win_kept : (n : ℕ) → kept n ≡ true → Winner kept price n → Winner kept price (suc n)
  win_kept n k w =
      record {
        axis = w.axis;
        within = let l = w.within in omega arith;
        summed = w.summed;
        first = λ j l s o. upto n j l (λ h. w.first j h s o) (λ e. clash (sym k ∙ ap kept (sym e) ∙ s));
        least = kept_fare n k ∙ w.least;
      }

  win_first : (n : ℕ) → kept n ≡ false → Nothing kept price n → Winner kept price (suc n)
  win_first n k w =
      record {
        axis = n;
        within = omega arith;
        summed = k;
        first = λ j l s o. upto n j l (λ h. clash (sym (w.all j h) ∙ s)) (λ e. absurd (o e));
        least = summed_fare n k ∙ ap (λ (o : Option ℕ). some (up_to (price n) o)) w.least;
      }

  -- the next axis wins, or the one so far stays
  win_next : (n : ℕ) → kept n ≡ false → (w : Winner kept price n) → price n < price w.axis → Winner kept price (suc n)
  win_next n k w c =
      record {
        axis = n;
        within = omega arith;
        summed = k;
        first = λ j l s o. upto n j l (λ h. inl (dearer j h s)) (λ e. absurd (o e));
        least = summed_fare n k ∙ ap (λ (o : Option ℕ). some (up_to (price n) o)) w.least ∙ ap {B = Option ℕ} some (omega arith);
      }
    where
      dearer : (j : ℕ) → j < n → kept j ≡ false → price n < price j
      dearer j h s = go (dec_le j w.axis) (dec_le w.axis j)
        where
          go : Dec (j ≤ w.axis) → Dec (w.axis ≤ j) → price n < price j
          go (yes u) (yes v) = let e : w.axis ≡ j = omega arith in rw e at c
          go (no u) v = beats_through c (w.first j h s (λ e. u (omega arith)))
          go (yes u) (no v) = beats_through c (w.first j h s (λ e. v (omega arith)))

  win_stays : (n : ℕ) → kept n ≡ false → (w : Winner kept price n) → price w.axis ≤ price n → Winner kept price (suc n)
  win_stays n k w c =
      record {
        axis = w.axis;
        within = let l = w.within in omega arith;
        summed = w.summed;
        first = λ j l s o. upto n j l (λ h. w.first j h s o) (λ e. rw e (after (dec_le (price n) (price w.axis))));
        least = summed_fare n k ∙ ap (λ (o : Option ℕ). some (up_to (price n) o)) w.least ∙ ap {B = Option ℕ} some (omega arith);
      }
    where
      after : Dec (price n ≤ price w.axis) → Beats price w.axis n
      after (yes h) = inr (omega arith, w.within)
      after (no h) = inl (omega arith)

  -- there is one, unless all are kept
  pub win : (n : ℕ) → Nothing kept price n ⊎ Winner kept price n
  win zero = inl (record { all = λ j l. absurd (omega arith); least = unfold least_fare in refl })
  win (suc n) = by (kept n) (λ k. over k (win n)) (λ k. more k (win n))
    where
      over : kept n ≡ true → Nothing kept price n ⊎ Winner kept price n → Nothing kept price (suc n) ⊎ Winner kept price (suc n)
      over k (inl w) = inl (record { all = λ j l. upto n j l (w.all j) (λ e. ap kept e ∙ k); least = kept_fare n k ∙ w.least })
      over k (inr w) = inr (win_kept n k w)

      more : kept n ≡ false → Nothing kept price n ⊎ Winner kept price n → Nothing kept price (suc n) ⊎ Winner kept price (suc n)
      more k (inl w) = inr (win_first n k w)
      more k (inr w) = inr (go (dec_le (price w.axis) (price n)))
        where
          go : Dec (price w.axis ≤ price n) → Winner kept price (suc n)
          go (yes h) = win_stays n k w h
          go (no h) = win_next n k w (omega arith)

  -- the least price is at most that of any axis summed out
  pub least_le : (n j : ℕ) → j < n → kept j ≡ false → paid (least_fare kept price n) ≤ price j
  least_le n j l s = go (win n)
    where
      go : Nothing kept price n ⊎ Winner kept price n → paid (least_fare kept price n) ≤ price j
      go (inl w) = clash (sym (w.all j l) ∙ s)
      go (inr w) = rw w.least (same (dec_le j w.axis) (dec_le w.axis j))
        where
          beaten : Beats price w.axis j → price w.axis ≤ price j
          beaten (inl h) = omega arith
          beaten (inr h) = le_of_eq h.0

          same : Dec (j ≤ w.axis) → Dec (w.axis ≤ j) → price w.axis ≤ price j
          same (yes u) (yes v) = let e : w.axis ≡ j = omega arith in rw e (le_of_eq refl)
          same (no u) v = beaten (w.first j l s (λ e. u (omega arith)))
          same (yes u) (no v) = beaten (w.first j l s (λ e. v (omega arith)))

-- ---- a choice below the full one sums some axis out

module _ (price : ℕ → ℕ) (n mask : ℕ) (l : mask < full_mask n) where
  pub below_wins : Winner (keeps mask) price n
  below_wins = go (win (keeps mask) price n)
    where
      go : Nothing (keeps mask) price n ⊎ Winner (keeps mask) price n → Winner (keeps mask) price n
      go (inr w) = w
      go (inl w) = absurd (unfold full_mask in (let e = all_kept n mask (omega arith) w.all in omega arith))

-- the axis that wins, for every mask
chosen : (price : ℕ → ℕ) (n mask : ℕ) → Nothing (keeps mask) price n ⊎ Winner (keeps mask) price n → ℕ
chosen price n mask (inl w) = 0
chosen price n mask (inr w) = w.axis

-- EACH CHOICE TAKES ITS CHEAPEST PARENT: a way
pub cheapest_way : (price : ℕ → ℕ) (n : ℕ) → Way n
cheapest_way price n =
    record {
      axis = λ mask. chosen price n mask (win (keeps mask) price n);
      within = λ mask l. inside mask l (win (keeps mask) price n);
      summed = λ mask l. out mask l (win (keeps mask) price n);
    }
  where
    inside : (mask : ℕ) → mask < full_mask n → (w : Nothing (keeps mask) price n ⊎ Winner (keeps mask) price n) → chosen price n mask w < n
    inside mask l (inl w) = unfold chosen in (let v = below_wins price n mask l in let h = v.within in omega arith)
    inside mask l (inr w) = unfold chosen in w.within

    out : (mask : ℕ) → mask < full_mask n → (w : Nothing (keeps mask) price n ⊎ Winner (keeps mask) price n) → keeps mask (chosen price n mask w) ≡ false
    out mask l (inl w) = let v = below_wins price n mask l in clash (sym (w.all v.axis v.within) ∙ v.summed)
    out mask l (inr w) = unfold chosen in w.summed

cheapest_axis : (price : ℕ → ℕ) (n mask : ℕ) → mask < full_mask n → price ((cheapest_way price n).axis mask) ≡ paid (least_fare (keeps mask) price n)
unfolding cheapest_way
cheapest_axis price n mask l = go (win (keeps mask) price n)
  where
    go : (w : Nothing (keeps mask) price n ⊎ Winner (keeps mask) price n) → price (chosen price n mask w) ≡ paid (least_fare (keeps mask) price n)
    go (inl w) = let v = below_wins price n mask l in clash (sym (w.all v.axis v.within) ∙ v.summed)
    go (inr w) = unfold chosen in (rw w.least)

module _ (ds links : List ℕ) {p : ℕ} (e : Division ds p) where
  -- the terms of a way's cost
  pub cost_terms : (w : Way (length ds)) → weighted_cost ds links e w ≡ sum_n (full_mask (length ds)) (λ mask. cells ds mask * fare links e.exponents (w.axis mask))
  unfolding weighted_cost cost_by fare
  cost_terms w = sum_n_cong (full_mask (length ds)) (λ mask l. mul_assoc (cells ds mask) (sent (get_or e.exponents (w.axis mask) 0)) (link_of links (w.axis mask)))

  -- NO WAY COSTS LESS THAN THE CHEAPEST PARENTS
  pub cheapest_least : (w : Way (length ds)) → cheapest_cost ds links e.exponents ≤ weighted_cost ds links e w
  unfolding cheapest_cost
  cheapest_least w =
      rw (cost_terms w)
      (sum_n_le (full_mask (length ds)) _ _
      (λ mask l.
      mul-le-mul_left (cells ds mask) (least_le (keeps mask) (fare links e.exponents) (length ds) (w.axis mask) (w.within mask l) (w.summed mask l))))

  -- AND A WAY COSTS JUST THAT
  pub cheapest_attained : weighted_cost ds links e (cheapest_way (fare links e.exponents) (length ds)) ≡ cheapest_cost ds links e.exponents
  unfolding cheapest_cost
  cheapest_attained =
      cost_terms (cheapest_way (fare links e.exponents) (length ds))
      ∙ sum_n_cong (full_mask (length ds)) (λ mask l. ap (λ (x : ℕ). cells ds mask * x) (cheapest_axis (fare links e.exponents) (length ds) mask l))
