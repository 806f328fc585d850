-- What the code that prices a division asks, in plain variables.
use Prim.Native.Nat.{ℕ, suc, ◌+◌, ◌*◌, ◌^◌, ◌≤◌, ◌<◌}
use mathlib.Core.Path.{◌≡◌, ◌∙◌, ap, ap₂, sym, refl}
use mathlib.Core.Bool.{Bool, true, false, ◌&&◌, ◌||◌}
use mathlib.Core.List.{List}
use native.Mathlib.Omega.{arith}
use native.Mathlib.Decide.{dec_le}
use native.Mathlib.Nat.{zero-mul, mul-one, mul-le-mul, zero-add, le_trans}
use lib.Dec.{eqb, ltb, leb}
use lib.ListN.{get_or}
use borrow.Author.Tests.{eq-eqb, ne_eqb, lt-ltb, le-ltb, le-leb, lt-leb}
use Rattle.cube_spec.specs.Limits.{axis_limit, power_limit, padded}
use Rattle.cube_spec.specs.Boxes.{pick, sum_n, table, product}
use Rattle.cube_spec.specs.Tree.{sent}
use Rattle.cube_spec.proofs.Naturals.{sum_n_cong, sum_n_last}
use Rattle.cube_spec.proofs.Boxing.{product_cong}
use Rattle.cube_spec.proofs.Products.{product_le, product_last}
use Rattle.cube_spec.proofs.Slots.{padded_at, table_here}
use Rattle.plan_spec.specs.Choosing.{Bounded}
use Rattle.plan_spec.proofs.PricingLaws.{sent_small}
use Rattle.plan_spec.proofs.Bounding.{front_small, more_small}
use Rattle.link_spec.specs.Costs.{fare}
use Rattle.link_spec.specs.Search.{link_limit}
use Rattle.link_spec.specs.Shares.{goes_before, factor_of, factor, share, shares_cost, fare_limit, Priceable, Rated}

-- ---- prices

pub fare_small : (k link : ℕ) → k ≤ power_limit → link ≤ link_limit → sent k * link ≤ fare_limit
fare_small k link h l =
    let s = sent_small k h in
    let t : sent k ≤ 1023 = omega arith in
    let q = mul-le-mul t l in
    omega arith

pub fares_low : (exponents links : List ℕ) (n : ℕ) → Rated exponents links n → (d : ℕ) → d < n → fare links exponents d ≤ fare_limit
unfolding fare
fares_low exponents links n ok d h = fare_small (get_or exponents d 0) (get_or links d 0) (ok.cut d h) (ok.low d h)

pub fares_at : (f : ℕ → ℕ) (n d : ℕ) → n ≤ axis_limit → d < n → get_or (padded (table n f)) d 0 ≡ f d
fares_at f n d h l = padded_at (table n f) d (omega arith) ∙ table_here n f d l

-- ---- factors

module _ (len a b j i : ℕ) where
  pub factor_self : j ≡ i → 1 ≡ factor_of len a b j i
  unfolding factor_of
  factor_self e = rw (eq-eqb j i e)

  -- an axis before i is kept at a fare no higher, one after i at a lower one, and else kept or summed
  pub factor_before : j < i → pick (leb a b) len (len + 1) ≡ factor_of len a b j i
  unfolding factor_of goes_before
  factor_before l = rw (ne_eqb j i (λ e. omega arith), lt-ltb j i l) (go (dec_le (suc a) b) (dec_le a b))
    where
      go : Dec (a < b) → Dec (a ≤ b) → pick (leb a b) len (len + 1) ≡ pick (ltb a b || (eqb a b && true)) len (len + 1)
      go (yes h) e = rw (lt-ltb a b h, le-leb a b (omega arith)) refl
      go (no h) (yes e) = rw (le-ltb a b (omega arith), le-leb a b e, eq-eqb a b (omega arith)) refl
      go (no h) (no e) = rw (le-ltb a b (omega arith), lt-leb a b (omega arith), ne_eqb a b (λ q. omega arith)) refl

  pub factor_after : i < j → pick (ltb a b) len (len + 1) ≡ factor_of len a b j i
  unfolding factor_of goes_before
  factor_after l = rw (ne_eqb j i (λ e. omega arith), le-ltb j i (omega arith)) (go (eqb a b) (ltb a b))
    where
      go : (e t : Bool) → pick t len (len + 1) ≡ pick (t || (e && false)) len (len + 1)
      go true true = refl
      go true false = refl
      go false true = refl
      go false false = refl

  factor_le : 0 < len → factor_of len a b j i ≤ len + 1
  unfolding factor_of
  factor_le p = go (eqb j i) (goes_before a b j i)
    where
      go : (s t : Bool) → pick s 1 (pick t len (len + 1)) ≤ len + 1
      go true t = omega arith
      go false true = omega arith
      go false false = omega arith

-- ---- the cells of an axis's choices

module _ (lens fares : List ℕ) (n i : ℕ) (ok : Bounded (λ d. get_or lens d 0) n) where
  share_small : (m : ℕ) → m ≤ n → product (factor (λ d. get_or lens d 0) (λ d. get_or fares d 0) i) m 0 ≤ 2 ^ 32
  share_small m h =
      le_trans (product_le _ (λ j. get_or lens j 0 + 1) m 0 (λ j l r. factor_le (get_or lens j 0) (get_or fares j 0) (get_or fares i 0) j i (ok.some j (omega arith))))
      (more_small (λ d. get_or lens d 0) n ok m h)

  pub share_whole : share (λ d. get_or lens d 0) (λ d. get_or fares d 0) n i ≤ 2 ^ 32
  unfolding share
  share_whole = share_small n (omega arith)

  module _ (j r f : ℕ) (h : j < n) (e : r ≡ product (factor (λ d. get_or lens d 0) (λ d. get_or fares d 0) i) j 0)
      (g : f ≡ factor_of (get_or lens j 0) (get_or fares j 0) (get_or fares i 0) j i) where
    pub share_next : r * f ≡ product (factor (λ d. get_or lens d 0) (λ d. get_or fares d 0) i) (j + 1) 0
    share_next = let z = zero-add j in sym (product_last (factor (λ d. get_or lens d 0) (λ d. get_or fares d 0) i) j 0 ∙ (rw (z, ← e, ← g)))

    pub share_fits : r * f < 18446744073709551616
    share_fits =
        let q = share_next in
        let s = share_small (j + 1) (omega arith) in
        omega arith

-- axis i itself does not multiply its own cells
pub share_self : (lens fares : List ℕ) (i r : ℕ) → r ≡ product (factor (λ d. get_or lens d 0) (λ d. get_or fares d 0) i) i 0
    → r ≡ product (factor (λ d. get_or lens d 0) (λ d. get_or fares d 0) i) (i + 1) 0
share_self lens fares i r e =
    let z = zero-add i in
    let f = factor_self (get_or lens i 0) (get_or fares i 0) (get_or fares i 0) i i refl in
    sym (product_last (factor (λ d. get_or lens d 0) (λ d. get_or fares d 0) i) i 0 ∙ (rw (z, ← e, ← f) (mul-one r)))

-- the first axes of bounded ones
pub bounded_front : (len : ℕ → ℕ) (n i : ℕ) → Bounded len n → i < n → Bounded len i
bounded_front len n i ok h =
    let f = ok.few in
    record { few = omega arith; some = λ d l. ok.some d (omega arith); short = λ d l. ok.short d (omega arith); small = front_small len n ok i (omega arith) }

-- ---- the sum over the axes

pub cost_term : (x s : ℕ) → x ≤ fare_limit → s ≤ 2 ^ 32 → x * s ≤ fare_limit * 2 ^ 32
cost_term x s h l = mul-le-mul h l

-- ---- only the first n count

module _ (len len' price price' : ℕ → ℕ) (n : ℕ) (l : (d : ℕ) → d < n → len d ≡ len' d) (e : (d : ℕ) → d < n → price d ≡ price' d) where
  pub shares_cong : shares_cost len price n ≡ shares_cost len' price' n
  unfolding shares_cost share
  shares_cong =
      sum_n_cong n
      (λ i h.
      ap₂ ◌*◌ (e i h)
      (product_cong n 0
      (λ j u v.
      let w : j < n = omega arith in
      ap₂ (λ (x y : ℕ). factor_of (len j) x y j i) (e j w) (e i h) ∙ ap (λ (x : ℕ). factor_of x (price' j) (price' i) j i) (l j w))))

-- ---- the sum, axis by axis

-- the terms of the first i axes, which leave room for the others
unfoldable pub Summed : List ℕ → List ℕ → ℕ → ℕ → ℕ → Type 0
Summed lens fares n i sum = (sum ≤ i * (fare_limit * 2 ^ 32)) × (sum ≡ sum_n i (λ i. get_or fares i 0 * share (λ d. get_or lens d 0) (λ d. get_or fares d 0) n i))

pub sum_starts : (lens fares : List ℕ) (n : ℕ) → Summed lens fares n 0 0
unfolding Summed sum_n
sum_starts lens fares n = (omega arith, refl)

pub sum_ends : (lens fares : List ℕ) (n i sum : ℕ) → i ≡ n → Summed lens fares n i sum → sum ≡ shares_cost (λ d. get_or lens d 0) (λ d. get_or fares d 0) n
unfolding Summed shares_cost
sum_ends lens fares n i sum e v = v.1 ∙ ap (λ (m : ℕ). sum_n m (λ i. get_or fares i 0 * share (λ d. get_or lens d 0) (λ d. get_or fares d 0) n i)) e

module _ (lens fares : List ℕ) (n i sum s : ℕ) (ok : Priceable lens fares n) (h : i < n)
    (e : s ≡ share (λ d. get_or lens d 0) (λ d. get_or fares d 0) n i) where
  pub term_small : get_or fares i 0 * s ≤ fare_limit * 2 ^ 32
  term_small = let q = share_whole lens fares n i ok.axes in cost_term (get_or fares i 0) s (ok.low i h) (omega arith)

  pub term_fits : get_or fares i 0 * s < 18446744073709551616
  term_fits = let q = term_small in omega arith

  pub sum_fits : Summed lens fares n i sum → sum + get_or fares i 0 * s < 18446744073709551616
  unfolding Summed
  sum_fits v =
      let q = term_small in
      let f = ok.axes.few in
      let b = v.0 in
      omega arith

  -- with that axis: the sum fits again, and has its term
  pub sum_next : (now : ℕ) → now ≡ sum + get_or fares i 0 * s → Summed lens fares n i sum → Summed lens fares n (i + 1) now
  unfolding Summed
  sum_next now m v =
      let q = term_small in
      let low : now ≤ (i + 1) * (fare_limit * 2 ^ 32) = (let b = v.0 in omega arith) in
      let term : ℕ → ℕ = λ i. get_or fares i 0 * share (λ d. get_or lens d 0) (λ d. get_or fares d 0) n i in
      (low, m ∙ ap₂ ◌+◌ v.1 (ap (λ (x : ℕ). get_or fares i 0 * x) e) ∙ sym (sum_n_last i term))

-- an axis at the fare 0 adds nothing
pub sum_skips : (lens fares : List ℕ) (n i sum now : ℕ) → get_or fares i 0 ≤ 0 → now ≡ sum → Summed lens fares n i sum → Summed lens fares n (i + 1) now
unfolding Summed
sum_skips lens fares n i sum now h m v =
    let term : ℕ → ℕ = λ i. get_or fares i 0 * share (λ d. get_or lens d 0) (λ d. get_or fares d 0) n i in
    let z : get_or fares i 0 ≡ 0 = omega arith in
    let t : term i ≡ 0 = (rw z (zero-mul (share (λ d. get_or lens d 0) (λ d. get_or fares d 0) n i))) in
    let l = sum_n_last i term in
    let b = v.0 in
    let e = v.1 in
    (omega arith, omega arith)

-- a division's fares are in range
pub rated_priceable : (lens exponents links fares : List ℕ) (n : ℕ) → Rated exponents links n → Bounded (λ d. get_or lens d 0) n → fares ≡ padded (table n (fare links exponents))
    → Priceable lens fares n
rated_priceable lens exponents links fares n ok b e =
    record { axes = b; low = λ d h. rw (e, fares_at (fare links exponents) n d ok.few h) (fares_low exponents links n ok d h) }

pub rated_cost : (lens exponents links fares : List ℕ) (n : ℕ) → Rated exponents links n → fares ≡ padded (table n (fare links exponents))
    → shares_cost (λ d. get_or lens d 0) (λ d. get_or fares d 0) n ≡ shares_cost (λ d. get_or lens d 0) (fare links exponents) n
rated_cost lens exponents links fares n ok e =
    shares_cong (λ d. get_or lens d 0) (λ d. get_or lens d 0) (λ d. get_or fares d 0) (fare links exponents) n (λ d h. refl) (λ d h. rw (e, fares_at (fare links exponents) n d ok.few h))
