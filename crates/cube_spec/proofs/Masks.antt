-- Laws of masks by their first digit and their half: sums over masks, the cells of a choice, and those of its parent.
use Prim.Native.Nat.{ℕ, zero, suc, ◌+◌, ◌*◌, ◌/◌, ◌%◌, ◌^◌, ◌<◌}
use mathlib.Core.Path.{◌≡◌, sym, ◌∙◌, refl, ap, ap₂, fun_ext}
use mathlib.Core.Bool.{Bool, true, false}
use mathlib.Core.List.{List, [], ◌∷◌}
use native.Mathlib.Nat.{one-mul, mul_comm, mul_assoc, two-pow-succ, mod-eq_of_lt}
use native.Mathlib.Omega.{arith}
use lib.Dec.{eqb}
use lib.ListN.{length}
use lib.Pow.{shr-shr, suc_ones}
use Rattle.cube_spec.specs.Boxes.{pick, sum_n, product}
use Rattle.cube_spec.specs.Choices.{keeps, full_mask, with_mask, length_of, kept_length, cells}
use Rattle.cube_spec.proofs.Naturals.{clash, sum_n_cong, sum_n_add, sum_n_rows}
use Rattle.cube_spec.proofs.Boxing.{product_cong}
use Rattle.cube_spec.proofs.Products.{product_shift}
use Rattle.cube_spec.proofs.Digits.{keeps_yes, keeps_not, powers_cong, powers_mod, powers_all}

-- ---- the first digit, and the others

pub keeps_odd : (m : ℕ) → keeps (m * 2 + 1) 0 ≡ true
keeps_odd m = keeps_yes (m * 2 + 1) 0 (omega arith)

pub keeps_even : (m : ℕ) → keeps (m * 2) 0 ≡ false
keeps_even m = keeps_not (m * 2) 0 (λ e. omega arith)

pub keeps_half : (mask d : ℕ) → keeps mask (suc d) ≡ keeps (mask / 2) d
unfolding keeps
keeps_half mask d =
    let q : suc d ≡ 1 + d = omega arith in
    ap (λ x. eqb (x % 2) 1) (ap (λ x. mask / 2 ^ x) q ∙ sym (shr-shr mask 1 d))

pub later_odd : (m : ℕ) → ◌≡◌ {A = ℕ → Bool} (λ d. keeps (m * 2 + 1) (suc d)) (keeps m)
later_odd m = fun_ext (λ d. keeps_half (m * 2 + 1) d ∙ ap (λ x. keeps x d) (omega arith))

pub later_even : (m : ℕ) → ◌≡◌ {A = ℕ → Bool} (λ d. keeps (m * 2) (suc d)) (keeps m)
later_even m = fun_ext (λ d. keeps_half (m * 2) d ∙ ap (λ x. keeps x d) (omega arith))

-- a sum over masks, cut at the first digit
pub sum_masks : (n : ℕ) (f : ℕ → ℕ) → sum_n (2 ^ suc n) f ≡ sum_n (2 ^ n) (λ m. f (m * 2 + 1)) + sum_n (2 ^ n) (λ m. f (m * 2))
sum_masks n f =
    ap (λ x. sum_n x f) double ∙ sum_n_rows (2 ^ n) 2 f ∙ sum_n_cong (2 ^ n) (λ m l. two m) ∙ sum_n_add (2 ^ n) (λ m. f (m * 2 + 1)) (λ m. f (m * 2))
  where
    double : 2 ^ suc n ≡ 2 ^ n * 2
    double = let q = two-pow-succ n in omega arith

    two : (m : ℕ) → sum_n 2 (λ r. f (m * 2 + r)) ≡ f (m * 2 + 1) + f (m * 2)
    two m = unfold sum_n in (let q : m * 2 + 0 ≡ m * 2 = omega arith in rw q (omega arith))

-- the full mask comes last
pub sum_full : (n : ℕ) (f : ℕ → ℕ) → sum_n (2 ^ n) f ≡ sum_n (full_mask n) f + f (full_mask n)
unfolding sum_n full_mask
sum_full n f = ap (λ x. sum_n x f) (sym (suc_ones n))

-- ---- the cells of a choice

cells_next : (d : ℕ) (ds : List ℕ) (mask : ℕ) → cells (d ∷ ds) mask ≡ pick (keeps mask 0) d 1 * cells ds (mask / 2)
unfolding cells kept_length product
cells_next d ds mask =
    ap (λ x. pick (keeps mask 0) d 1 * x) (sym (product_shift (kept_length (d ∷ ds) mask) (length ds) 0) ∙ product_cong (length ds) 0 (λ i l r. ap (λ t. pick t (length_of ds i) 1) (keeps_half mask i)))

pub cells_odd : (d : ℕ) (ds : List ℕ) (m : ℕ) → cells (d ∷ ds) (m * 2 + 1) ≡ d * cells ds m
cells_odd d ds m = cells_next d ds (m * 2 + 1) ∙ ap₂ (λ t x. pick t d 1 * cells ds x) (keeps_odd m) (omega arith)

pub cells_even : (d : ℕ) (ds : List ℕ) (m : ℕ) → cells (d ∷ ds) (m * 2) ≡ cells ds m
cells_even d ds m = cells_next d ds (m * 2) ∙ ap₂ (λ t x. pick t d 1 * cells ds x) (keeps_even m) (omega arith) ∙ one-mul (cells ds m)

-- ---- the cells of a parent

-- a number is even or odd
by_half : (P : ℕ → Type 0) → ((m : ℕ) → P (m * 2 + 1)) → ((m : ℕ) → P (m * 2)) → (mask : ℕ) → P mask
by_half P odd even mask = go (mask % 2) refl
  where
    go : (r : ℕ) → mask % 2 ≡ r → P mask
    go zero e = let q : mask ≡ mask / 2 * 2 = omega arith in rw q (even (mask / 2))
    go (suc zero) e = let q : mask ≡ mask / 2 * 2 + 1 = omega arith in rw q (odd (mask / 2))
    go (suc (suc r)) e = absurd (omega arith)

more_cells : (ds : List ℕ) (d mask : ℕ) → d < length ds → keeps mask d ≡ false → cells ds (mask + 2 ^ d) ≡ cells ds mask * length_of ds d
more_cells [] d mask l = absurd (omega arith)
more_cells (x ∷ ds) zero mask l =
    by_half (λ mask. keeps mask 0 ≡ false → cells (x ∷ ds) (mask + 1) ≡ cells (x ∷ ds) mask * x)
    (λ m h. clash (sym (keeps_odd m) ∙ h))
    (λ m h. rw (cells_odd x ds m, cells_even x ds m) (mul_comm x (cells ds m))) mask
more_cells (x ∷ ds) (suc d) mask l =
    let e = two-pow-succ d in
    by_half (λ mask. keeps mask (suc d) ≡ false → cells (x ∷ ds) (mask + 2 ^ suc d) ≡ cells (x ∷ ds) mask * length_of ds d)
    (λ m h.
    let q : m * 2 + 1 + 2 ^ suc d ≡ (m + 2 ^ d) * 2 + 1 = omega arith in
    let i = more_cells ds d m (omega arith) (sym (ap (λ f. f d) (later_odd m)) ∙ h) in
    rw (q, cells_odd x ds (m + 2 ^ d), cells_odd x ds m, i) (sym (mul_assoc x (cells ds m) (length_of ds d))))
    (λ m h.
    let q : m * 2 + 2 ^ suc d ≡ (m + 2 ^ d) * 2 = omega arith in
    let i = more_cells ds d m (omega arith) (sym (ap (λ f. f d) (later_even m)) ∙ h) in
    rw (q, cells_even x ds (m + 2 ^ d), cells_even x ds m) i) mask

-- they are the choice's own times the length of the axis that the parent has more
pub parent_cells : (ds : List ℕ) (mask d : ℕ) → d < length ds → keeps mask d ≡ false → cells ds (with_mask mask d) ≡ cells ds mask * length_of ds d
unfolding with_mask
parent_cells ds mask d l h = rw h (more_cells ds d mask l h)

-- ---- a choice that keeps every axis is the full one

pub all_kept : (n mask : ℕ) → mask < 2 ^ n → ((d : ℕ) → d < n → keeps mask d ≡ true) → mask ≡ full_mask n
all_kept n mask l h = sym (mod-eq_of_lt l) ∙ sym (powers_mod mask n) ∙ powers_cong (keeps mask) (λ d. true) n h ∙ powers_all n
