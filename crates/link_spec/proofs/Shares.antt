-- A division's cost, the plain sum over all choices, is the sum over its axes of price × share.
use Prim.Native.Nat.{ℕ, zero, suc, ◌+◌, ◌*◌, ◌^◌, ◌<◌}
use mathlib.Core.Path.{◌≡◌, ◌∙◌, ap, ap₂, sym, refl}
use mathlib.Core.Bool.{Bool, true, false, ◌||◌}
use mathlib.Core.Logic.{inl, inr}
use mathlib.Core.List.{List}
use native.Mathlib.Omega.{arith}
use native.Mathlib.Nat.{mul_comm, mul-zero, add-zero, add-mul}
use lib.Dec.{eqb, ltb}
use lib.ListN.{length}
use borrow.Author.Tests.{eqb-true, eqb-false, eq-eqb, ne_eqb, ltb-true, lt-ltb}
use Rattle.cube_spec.specs.Boxes.{pick, sum_n, product}
use Rattle.cube_spec.specs.Choices.{keeps, full_mask, length_of, kept_length, cells}
use Rattle.cube_spec.proofs.Sums.{by}
use Rattle.cube_spec.proofs.Naturals.{sum_n_cong, sum_n_swap, sum_n_times, sum_n_zero, sum_n_only}
use Rattle.cube_spec.proofs.Boxing.{product_cong}
use Rattle.cube_spec.proofs.Products.{product_zero, product_shift}
use Rattle.cube_spec.proofs.Digits.{keeps_full}
use Rattle.cube_spec.proofs.Masks.{sum_masks, sum_full, keeps_odd, keeps_even, later_odd, later_even}
use Rattle.link_spec.specs.Costs.{fare, least_fare, paid, cheapest_cost}
use Rattle.link_spec.specs.Shares.{goes_before, factor_of, factor, share, shares_cost}
use Rattle.link_spec.proofs.Winners.{Beats, Winner, below_wins}

-- ---- the sum over all masks of a product over their bits is the product of the sums over each bit

bits : (ℕ → Bool → ℕ) → (ℕ → Bool) → ℕ → ℕ
bits g b n = product (λ j. g j (b j)) n 0

bits_next : (g : ℕ → Bool → ℕ) (b : ℕ → Bool) (n : ℕ) → bits g b (suc n) ≡ g 0 (b 0) * bits (λ j. g (suc j)) (λ j. b (suc j)) n
unfolding bits product
bits_next g b n = ap (λ (x : ℕ). g 0 (b 0) * x) (sym (product_shift (λ j. g j (b j)) n 0))

bits_odd : (g : ℕ → Bool → ℕ) (n m : ℕ) → bits g (keeps (m * 2 + 1)) (suc n) ≡ g 0 true * bits (λ j. g (suc j)) (keeps m) n
bits_odd g n m = bits_next g (keeps (m * 2 + 1)) n ∙ ap₂ (λ (t : Bool) (b : ℕ → Bool). g 0 t * bits (λ j. g (suc j)) b n) (keeps_odd m) (later_odd m)

bits_even : (g : ℕ → Bool → ℕ) (n m : ℕ) → bits g (keeps (m * 2)) (suc n) ≡ g 0 false * bits (λ j. g (suc j)) (keeps m) n
bits_even g n m = bits_next g (keeps (m * 2)) n ∙ ap₂ (λ (t : Bool) (b : ℕ → Bool). g 0 t * bits (λ j. g (suc j)) b n) (keeps_even m) (later_even m)

bits_sum : (g : ℕ → Bool → ℕ) (n : ℕ) → sum_n (2 ^ n) (λ mask. bits g (keeps mask) n) ≡ product (λ j. g j true + g j false) n 0
bits_sum g zero = unfold sum_n bits product in refl
bits_sum g (suc n) =
    let later : ℕ → Bool → ℕ = λ j. g (suc j) in
    sum_masks n (λ mask. bits g (keeps mask) (suc n))
    ∙ ap₂ ◌+◌
    (sum_n_cong (2 ^ n) (λ m l. bits_odd g n m) ∙ sum_n_times (g 0 true) (2 ^ n) (λ m. bits later (keeps m) n))
    (sum_n_cong (2 ^ n) (λ m l. bits_even g n m) ∙ sum_n_times (g 0 false) (2 ^ n) (λ m. bits later (keeps m) n))
    ∙ sym (add-mul (g 0 true) (g 0 false) (sum_n (2 ^ n) (λ m. bits later (keeps m) n)))
    ∙ ap (λ (x : ℕ). (g 0 true + g 0 false) * x) (bits_sum later n ∙ product_shift (λ j. g j true + g j false) n 0)
    ∙ (unfold product in refl)

-- ---- the choices whose cheapest axis is i, bit by bit

module _ (len price : ℕ → ℕ) where
  bit : ℕ → ℕ → Bool → ℕ
  bit i j true = pick (eqb j i) 0 (len j)
  bit i j false = pick (eqb j i) 1 (pick (goes_before (price j) (price i) j i) 0 1)

  bit_factor : (i j : ℕ) → bit i j true + bit i j false ≡ factor len price i j
  unfolding bit factor_of
  bit_factor i j = go (eqb j i) (goes_before (price j) (price i) j i)
    where
      go : (s t : Bool) → pick s 0 (len j) + pick s 1 (pick t 0 1) ≡ pick s 1 (pick t (len j) (len j + 1))
      go true t = refl
      go false true = add-zero (len j)
      go false false = refl

  beats_before : (a b : ℕ) → Beats price a b → goes_before (price a) (price b) a b ≡ true
  unfolding goes_before
  beats_before a b (inl h) = rw (lt-ltb (price a) (price b) h)
  beats_before a b (inr h) = rw (eq-eqb (price a) (price b) h.0, lt-ltb a b h.1) (go (ltb (price a) (price b)))
    where
      go : (t : Bool) → t || true ≡ true
      go true = refl
      go false = refl

  beaten_after : (a b : ℕ) → Beats price a b → goes_before (price b) (price a) b a ≡ false
  unfolding goes_before
  beaten_after a b (inl h) = by (ltb (price b) (price a)) (λ t. absurd (let k = ltb-true (price b) (price a) t in omega arith)) (λ t. rw (t, ne_eqb (price b) (price a) (λ e. omega arith)))
  beaten_after a b (inr h) =
      let e = h.0 in
      let l = h.1 in
      by (ltb (price b) (price a)) (λ t. absurd (let k = ltb-true (price b) (price a) t in omega arith))
      (λ t. rw (t, eq-eqb (price b) (price a) (sym e)) (by (ltb b a) (λ u. absurd (let k = ltb-true b a u in omega arith)) (λ u. u)))

  self : (i : ℕ) → (bit i i true ≡ 0) × (bit i i false ≡ 1)
  unfolding bit
  self i = let e = eq-eqb i i refl in (rw e, rw e)

  other : (i j : ℕ) → (j ≡ i → ⊥) → (bit i j true ≡ len j) × (bit i j false ≡ pick (goes_before (price j) (price i) j i) 0 1)
  unfolding bit
  other i j h = let e = ne_eqb j i h in (rw e, rw e)

module _ (ds : List ℕ) (price : ℕ → ℕ) where
  term : ℕ → ℕ → ℕ
  term i mask = bits (bit (length_of ds) price i) (keeps mask) (length ds)

  -- an axis that is kept is no choice's cheapest
  term_kept : (i mask : ℕ) → i < length ds → keeps mask i ≡ true → term i mask ≡ 0
  unfolding term bits
  term_kept i mask l k =
      product_zero (λ j. bit (length_of ds) price i j (keeps mask j)) (length ds) 0 i (omega arith) (omega arith) (ap (bit (length_of ds) price i i) k ∙ (self (length_of ds) price i).0)

  module _ (mask : ℕ) (w : Winner (keeps mask) price (length ds)) where
    -- nor is one that another goes before
    term_beaten : (i : ℕ) → i < length ds → (i ≡ w.axis → ⊥) → term i mask ≡ 0
    term_beaten i l o =
        by (keeps mask i) (term_kept i mask l)
        (λ k.
        let a = w.axis in
        let v = w.within in
        let b = beats_before (length_of ds) price a i (w.first i l k o) in
        unfold term bits in
        (product_zero (λ j. bit (length_of ds) price i j (keeps mask j)) (length ds) 0 w.axis (omega arith) (omega arith) (ap (bit (length_of ds) price i w.axis) w.summed ∙ (other (length_of ds) price i w.axis (λ e. o (sym e))).1 ∙ (rw b))))

    winner_bit : (j : ℕ) → j < length ds → bit (length_of ds) price w.axis j (keeps mask j) ≡ kept_length ds mask j
    winner_bit j l =
        by (eqb j w.axis)
        (λ t. let e = eqb-true j w.axis t in rw e (ap (bit (length_of ds) price w.axis w.axis) w.summed ∙ (self (length_of ds) price w.axis).1 ∙ (unfold kept_length in (rw w.summed))))
        (λ t.
        let o = eqb-false j w.axis t in
        let p = other (length_of ds) price w.axis j o in
        by (keeps mask j)
        (λ k. ap (bit (length_of ds) price w.axis j) k ∙ p.0 ∙ (unfold kept_length in (rw k)))
        (λ k. ap (bit (length_of ds) price w.axis j) k ∙ p.1 ∙ ap (λ (t : Bool). pick t 0 1) (beaten_after (length_of ds) price w.axis j (w.first j l k o)) ∙ (unfold kept_length in (rw k))))

    term_winner : term w.axis mask ≡ cells ds mask
    unfolding term bits cells
    term_winner = product_cong (length ds) 0 (λ j a b. winner_bit j (omega arith))

    -- a choice's cells at its least price
    choice_terms : sum_n (length ds) (λ i. price i * term i mask) ≡ cells ds mask * paid (least_fare (keeps mask) price (length ds))
    choice_terms =
        sum_n_cong (length ds) (λ i l. only i l) ∙ sum_n_only (length ds) w.axis (λ i. price i * term i mask) w.within
        ∙ ap (λ (x : ℕ). price w.axis * x) term_winner ∙ mul_comm (price w.axis) (cells ds mask) ∙ (rw w.least)
      where
        only : (i : ℕ) → i < length ds → price i * term i mask ≡ pick (eqb w.axis i) (price i * term i mask) 0
        only i l =
            by (eqb w.axis i) (λ t. rw t)
            (λ t. rw t (ap (λ (x : ℕ). price i * x) (term_beaten i l (λ e. eqb-false w.axis i t (sym e))) ∙ mul-zero (price i)))

  -- the full choice has no part in it
  full_terms : sum_n (length ds) (λ i. price i * term i (full_mask (length ds))) ≡ 0
  full_terms =
      sum_n_cong (length ds) (λ i l. ap (λ (x : ℕ). price i * x) (term_kept i (full_mask (length ds)) l (keeps_full (length ds) i l)) ∙ mul-zero (price i)) ∙ sum_n_zero (length ds)

  terms_share : (i : ℕ) → sum_n (2 ^ length ds) (term i) ≡ share (length_of ds) price (length ds) i
  unfolding term share
  terms_share i = bits_sum (bit (length_of ds) price i) (length ds) ∙ product_cong (length ds) 0 (λ j a b. bit_factor (length_of ds) price i j)

  pub shares_choices : sum_n (full_mask (length ds)) (λ mask. cells ds mask * paid (least_fare (keeps mask) price (length ds))) ≡ shares_cost (length_of ds) price (length ds)
  unfolding shares_cost
  shares_choices =
      sum_n_cong (full_mask (length ds)) (λ mask l. sym (choice_terms mask (below_wins price (length ds) mask l)))
      ∙ sym (sum_full (length ds) all ∙ ap (λ (x : ℕ). sum_n (full_mask (length ds)) all + x) full_terms ∙ add-zero _)
      ∙ sum_n_swap (2 ^ length ds) (length ds) (λ mask i. price i * term i mask)
      ∙ sum_n_cong (length ds) (λ i l. sum_n_times (price i) (2 ^ length ds) (term i) ∙ ap (λ (x : ℕ). price i * x) (terms_share i))
    where
      all : ℕ → ℕ
      all mask = sum_n (length ds) (λ i. price i * term i mask)

-- THE CHEAPEST PARENTS' COST, AXIS BY AXIS
pub cheapest_shares : (ds links exponents : List ℕ) → cheapest_cost ds links exponents ≡ shares_cost (length_of ds) (fare links exponents) (length ds)
unfolding cheapest_cost
cheapest_shares ds links exponents = shares_choices ds (fare links exponents)
