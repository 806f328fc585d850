-- How an answer is run: in an order along which the fares never rise, the tree of a plan has the cheapest parent for every choice.
use Prim.Native.Nat.{ℕ, suc, ◌*◌, ◌≤◌, ◌<◌}
use mathlib.Core.Path.{◌≡◌, ◌∙◌, ap, sym, refl}
use mathlib.Core.Bool.{Bool, false}
use mathlib.Core.Logic.{◌⊎◌, inl, inr}
use mathlib.Core.List.Memᴰ
use mathlib.Core.List.{List, [], ◌∷◌}
use native.Mathlib.Omega.{arith}
use native.Mathlib.Nat.{le_antisymm, le_trans, le_refl}
use lib.ListN.{length, get_or}
use Rattle.cube_spec.specs.Choices.{keeps, full_mask, cells}
use Rattle.cube_spec.specs.Ways.{Way, Division}
use Rattle.cube_spec.proofs.Sums.{by}
use Rattle.cube_spec.proofs.Naturals.{sum_n_cong}
use Rattle.plan_spec.specs.Plans.{count, find}
use Rattle.plan_spec.specs.Trees.{last_summed}
use Rattle.plan_spec.proofs.Orders.{find_lt, get_find}
use Rattle.plan_spec.proofs.Attained.{order_way, order_way_axis}
use Rattle.link_spec.specs.Costs.{weighted_cost, fare, least_fare, paid, cheapest_cost}
use Rattle.link_spec.proofs.Listing.{In, at_in}
use Rattle.link_spec.proofs.Winners.{least_le, below_wins, cost_terms}

-- the numbers of axes, each no more than any before it
module _ (fares : ℕ → ℕ) where
  Falling : List ℕ → Type 0
  Falling [] = Unit {0}
  Falling (a ∷ o) = ((j : ℕ) → In j o → fares j ≤ fares a) × Falling o

  -- it is enough that neighbours never rise
  falling : (o : List ℕ) → ((i : ℕ) → suc i < length o → fares (get_or o (suc i) 0) ≤ fares (get_or o i 0)) → Falling o
  unfolding Falling
  falling [] h = tt
  falling (a ∷ []) h = (λ j m. absurd (Memᴰ.not-nil m), tt)
  falling (a ∷ b ∷ o) h =
      let later = falling (b ∷ o) (λ i l. h (suc i) (omega arith)) in
      (λ j m. go later.0 j (Memᴰ.cases_cons m), later)
    where
      go : ((j : ℕ) → In j o → fares j ≤ fares b) → (j : ℕ) → (j ≡ b) ⊎ In j o → fares j ≤ fares a
      go f j (inl e) = rw e (h 0 (omega arith))
      go f j (inr m) = le_trans (f j m) (h 0 (omega arith))

  -- so of the axes that are not kept the last one has the least
  module _ (kept : ℕ → Bool) where
    last_under : (i : ℕ) (o : List ℕ) → Falling o → ((j : ℕ) → In j o → fares j ≤ fares i) → fares (last_summed kept i o) ≤ fares i
    unfolding Falling last_summed
    last_under i [] f h = le_refl (fares i)
    last_under i (a ∷ o) f h =
        by (kept a)
        (λ t. rw t (last_under i o f.1 (λ j m. h j (Memᴰ.tail m))))
        (λ t. rw t (le_trans (last_under a o f.1 f.0) (h a (Memᴰ.head refl))))

    last_least : (i : ℕ) (o : List ℕ) → Falling o → (j : ℕ) → In j o → kept j ≡ false → fares (last_summed kept i o) ≤ fares j
    unfolding Falling last_summed
    last_least i [] f j m s = absurd (Memᴰ.not-nil m)
    last_least i (a ∷ o) f j m s =
        go (Memᴰ.cases_cons m) (last_under a o f.1 f.0) (λ k r. last_least k o f.1 j r s)
      where
        go : (j ≡ a) ⊎ In j o → fares (last_summed kept a o) ≤ fares a → ((k : ℕ) → In j o → fares (last_summed kept k o) ≤ fares j)
            → fares (last_summed kept i (a ∷ o)) ≤ fares j
        go (inl e) h g = unfold last_summed in (let q : kept a ≡ false = ap kept (sym e) ∙ s in rw (q, e) h)
        go (inr r) h g = unfold last_summed in (by (kept a) (λ t. rw t (g i r)) (λ t. rw t (g a r)))

-- THE TREE OF AN ORDER ALONG WHICH FARES NEVER RISE COSTS WHAT THE CHEAPEST PARENTS COST
module _ (ds links : List ℕ) {p : ℕ} (e : Division ds p) (o : List ℕ) (places : length o ≡ length ds) (once : (d : ℕ) → d < length ds → count d o ≡ 1)
    (never-rise : (i : ℕ) → suc i < length o → fare links e.exponents (get_or o (suc i) 0) ≤ fare links e.exponents (get_or o i 0)) where
  abbrev fares : ℕ → ℕ
  fares = fare links e.exponents

  abbrev own : Way (length ds)
  own = order_way ds o places once

  named : (d : ℕ) → d < length ds → In d o
  named d h =
      let c : 0 < count d o = (let q = once d h in omega arith) in
      rw (get_find d o c) at (at_in o (find d o) 0 (find_lt d o c))

  own_least : (mask : ℕ) → mask < full_mask (length ds) → fares (own.axis mask) ≡ paid (least_fare (keeps mask) fares (length ds))
  own_least mask h =
      let w = below_wins fares (length ds) mask h in
      let low = last_least fares (keeps mask) 0 o (falling fares o never-rise) w.axis (named w.axis w.within) w.summed in
      let up = least_le (keeps mask) fares (length ds) (own.axis mask) (own.within mask h) (own.summed mask h) in
      le_antisymm (rw (w.least, order_way_axis ds o places once mask) low) up

  pub order_cheapest : weighted_cost ds links e own ≡ cheapest_cost ds links e.exponents
  unfolding cheapest_cost
  order_cheapest =
      cost_terms ds links e own
      ∙ sum_n_cong (full_mask (length ds)) (λ mask h. ap (λ (x : ℕ). cells ds mask * x) (own_least mask h))
