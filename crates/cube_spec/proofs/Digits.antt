-- Laws of a mask's digits.
use Prim.Native.Nat.{ℕ, zero, suc, ◌≤◌, ◌<◌, ◌-◌, ◌+◌, ◌*◌, ◌/◌, ◌%◌, ◌^◌}
use mathlib.Core.Path.{◌≡◌, sym, ◌∙◌, refl, ap}
use mathlib.Core.Bool.{Bool, true, false, ◌&&◌, ◌||◌, not}
use native.Mathlib.Omega.{arith}
use native.Mathlib.Nat.{div-eq_of_lt, mul_assoc, add-mul-div_right, add-mul-mod_self_right, mul-add-mod_self_right, mod-eq_of_lt, two-pow-succ, div-add-mod', mod-lt, zero-add}
use native.Mathlib.Decide.{dec_le}
use borrow.Author.Tests.{eq-eqb, ne_eqb, eqb-true, eqb-false}
use lib.Dec.{eqb}
use lib.Pow.{pow_pos, pow-add}
use Rattle.cube_spec.specs.Boxes.{pick, sum_n}
use Rattle.cube_spec.specs.Choices.{keeps, full_mask, without_mask, with_mask}
use Rattle.cube_spec.proofs.Sums.{by}
use Rattle.cube_spec.proofs.Naturals.{sum_n_cong, sum_n_but_one}

-- a set digit is at most the number
pub digit_le : {m b : ℕ} → m / b % 2 ≡ 1 → b ≤ m
digit_le {m} {b} h = go (dec_le b m)
  where
    go : Dec (b ≤ m) → b ≤ m
    go (yes l) = l
    go (no n) =
        let l : m < b = omega (arith, n) in
        let z : m / b ≡ 0 = div-eq_of_lt l in
        let e : ◌≡◌ {A = ℕ} 0 1 = rw z at h in
        omega arith

-- a digit that is not 1 is not kept
pub keeps_not : (mask d : ℕ) → (mask / 2 ^ d % 2 ≡ 1 → ⊥) → keeps mask d ≡ false
unfolding keeps
keeps_not mask d h = ne_eqb (mask / 2 ^ d % 2) 1 h

pub keeps_yes : (mask d : ℕ) → mask / 2 ^ d % 2 ≡ 1 → keeps mask d ≡ true
unfolding keeps
keeps_yes mask d h = eq-eqb (mask / 2 ^ d % 2) 1 h

-- a mask has no digit from the first power past it on
pub keeps_past : (mask d : ℕ) → mask < 2 ^ d → keeps mask d ≡ false
keeps_past mask d h =
    keeps_not mask d (λ e. let z : mask / 2 ^ d ≡ 0 = div-eq_of_lt h in let q : ◌≡◌ {A = ℕ} 0 1 = (rw z at e) in omega arith)

pub without_kept : (mask d : ℕ) → keeps mask d ≡ true → without_mask mask d ≡ mask - 2 ^ d
unfolding without_mask
without_kept mask d h = rw h

pub without_summed : (mask d : ℕ) → keeps mask d ≡ false → without_mask mask d ≡ mask
unfolding without_mask
without_summed mask d h = rw h

-- ---- a mask is the sum of its digits

-- a multiple of the next power leaves a digit alone
keeps_add : (m c d : ℕ) → keeps (m + c * (2 * 2 ^ d)) d ≡ keeps m d
unfolding keeps
keeps_add m c d =
    let e : c * (2 * 2 ^ d) ≡ c * 2 * 2 ^ d = sym (mul_assoc c 2 (2 ^ d)) in
    rw (e, add-mul-div_right m (c * 2) (pow_pos d), add-mul-mod_self_right (m / 2 ^ d) c 2)

-- the digit at the top
keeps_top : (m n : ℕ) → m < 2 ^ n → keeps (m + 2 ^ n) n ≡ true
keeps_top m n h =
    keeps_yes (m + 2 ^ n) n (let e : m + 2 ^ n ≡ m + 1 * 2 ^ n = omega arith in rw (e, add-mul-div_right m 1 (pow_pos n), div-eq_of_lt h))

-- the sum of the powers that b tells
unfoldable pub powers : (ℕ → Bool) → ℕ → ℕ
powers b n = sum_n n (λ a. pick (b a) (2 ^ a) 0)

pub powers_lt : (b : ℕ → Bool) (n : ℕ) → powers b n < 2 ^ n
unfolding powers sum_n
powers_lt b zero = omega arith
powers_lt b (suc n) =
    let ih = powers_lt b n in
    let e = two-pow-succ n in
    by (b n) (λ t. rw t (omega arith)) (λ t. rw t (omega arith))

pub powers_cong : (b c : ℕ → Bool) (n : ℕ) → ((a : ℕ) → a < n → b a ≡ c a) → powers b n ≡ powers c n
unfolding powers
powers_cong b c n h = sum_n_cong n (λ a l. ap (λ t. pick t (2 ^ a) 0) (h a l))

powers_next : (b : ℕ → Bool) (n : ℕ) → powers b (suc n) ≡ powers b n + pick (b n) (2 ^ n) 0
unfolding powers sum_n
powers_next b n = refl

pow_split : (n d : ℕ) → d < n → 2 ^ n ≡ 2 ^ (n - suc d) * (2 * 2 ^ d)
pow_split n d h =
    let k : n ≡ n - suc d + suc d = omega arith in
    let e : 2 * 2 ^ d ≡ 2 ^ suc d = (let z = two-pow-succ d in omega arith) in
    ap (λ x. 2 ^ x) k ∙ pow-add 2 (n - suc d) (suc d) ∙ ap (λ x. 2 ^ (n - suc d) * x) (sym e)

pub keeps_powers : (b : ℕ → Bool) (n d : ℕ) → d < n → keeps (powers b n) d ≡ b d
keeps_powers b zero d h = absurd (omega arith)
keeps_powers b (suc n) d h =
    by (eqb d n)
    (λ s.
    let q = eqb-true d n s in
    let l = powers_lt b n in
    by (b n)
    (λ t. rw (q, powers_next b n, t) (keeps_top (powers b n) n l))
    (λ t. rw (q, powers_next b n, t) (let z : powers b n + 0 ≡ powers b n = omega arith in rw z (keeps_past (powers b n) n l))))
    (λ s.
    let ne = eqb-false d n s in
    let ih = keeps_powers b n d (omega (arith, ne)) in
    by (b n)
    (λ t.
    let e = pow_split n d (omega (arith, ne)) in
    rw (powers_next b n, t, e) (keeps_add (powers b n) (2 ^ (n - suc d)) d ∙ ih))
    (λ t. rw (powers_next b n, t) (let z : powers b n + 0 ≡ powers b n = omega arith in rw z ih)))

-- the digits of a mask below n spell its remainder
digit_mod : (mask n : ℕ) → mask % 2 ^ suc n ≡ mask % 2 ^ n + pick (keeps mask n) (2 ^ n) 0
digit_mod mask n =
    let a = div-add-mod' mask (2 ^ n) in
    let c = div-add-mod' (mask / 2 ^ n) 2 in
    let l = mod-lt mask (pow_pos n) in
    let u = mod-lt (mask / 2 ^ n) {m = 2} (omega arith) in
    let e = two-pow-succ n in
    let w : mask ≡ mask / 2 ^ n / 2 * 2 ^ suc n + (mask / 2 ^ n % 2 * 2 ^ n + mask % 2 ^ n) = spread (mask / 2 ^ n / 2) (mask / 2 ^ n % 2) (mask / 2 ^ n) (2 ^ n) (2 ^ suc n) (mask % 2 ^ n) c a e in
    let s : mask / 2 ^ n % 2 * 2 ^ n + mask % 2 ^ n < 2 ^ suc n = small (mask / 2 ^ n % 2) u l in
    ap (λ x. x % 2 ^ suc n) w ∙ mul-add-mod_self_right (mask / 2 ^ n / 2) (2 ^ suc n) (mask / 2 ^ n % 2 * 2 ^ n + mask % 2 ^ n) ∙ mod-eq_of_lt s ∙ last
  where
    spread : (h o q P Q r : ℕ) → h * 2 + o ≡ q → q * P + r ≡ mask → Q ≡ P + P → mask ≡ h * Q + (o * P + r)
    spread h o q P Q r c a e = rw (e, ← a, ← c) (omega arith)

    small : (o : ℕ) → o < 2 → mask % 2 ^ n < 2 ^ n → o * 2 ^ n + mask % 2 ^ n < 2 ^ suc n
    small zero u l = let e = two-pow-succ n in omega arith
    small (suc zero) u l = let e = two-pow-succ n in omega arith
    small (suc (suc o)) u l = absurd (omega arith)

    last : mask / 2 ^ n % 2 * 2 ^ n + mask % 2 ^ n ≡ mask % 2 ^ n + pick (keeps mask n) (2 ^ n) 0
    last =
        by (keeps mask n)
        (λ t. let d : mask / 2 ^ n % 2 ≡ 1 = (unfold keeps in eqb-true _ 1 (unfold keeps in t)) in rw (t, d) (omega arith))
        (λ t.
        let f : (mask / 2 ^ n % 2 ≡ 1) → ⊥ = (unfold keeps in eqb-false _ 1 (unfold keeps in t)) in
        let u = mod-lt (mask / 2 ^ n) {m = 2} (omega arith) in
        let d : mask / 2 ^ n % 2 ≡ 0 = omega (arith, f) in
        rw (t, d) (omega arith))

pub powers_mod : (mask n : ℕ) → powers (keeps mask) n ≡ mask % 2 ^ n
powers_mod mask zero = unfold powers sum_n in sym (omega arith)
powers_mod mask (suc n) = powers_next (keeps mask) n ∙ ap (λ x. x + pick (keeps mask n) (2 ^ n) 0) (powers_mod mask n) ∙ sym (digit_mod mask n)

-- the full mask has every digit
pub powers_all : (n : ℕ) → powers (λ a. true) n ≡ full_mask n
powers_all n = let q = one_more n in (unfold full_mask in omega arith)
  where
    one_more : (n : ℕ) → powers (λ a. true) n + 1 ≡ 2 ^ n
    one_more zero = unfold powers sum_n in refl
    one_more (suc n) = next (one_more n)
      where
        next : powers (λ a. true) n + 1 ≡ 2 ^ n → powers (λ a. true) (suc n) + 1 ≡ 2 ^ suc n
        next ih = let e = two-pow-succ n in let p = powers_next (λ a. true) n in omega arith

pub keeps_full : (n d : ℕ) → d < n → keeps (full_mask n) d ≡ true
keeps_full n d h = rw (← powers_all n) (keeps_powers (λ a. true) n d h)

-- ---- which axes a choice keeps that sums out or keeps one axis more

pub with_kept : (mask d : ℕ) → keeps mask d ≡ true → with_mask mask d ≡ mask
unfolding with_mask
with_kept mask d h = rw h

pub with_summed : (mask d : ℕ) → keeps mask d ≡ false → with_mask mask d ≡ mask + 2 ^ d
unfolding with_mask
with_summed mask d h = rw h

below_power : (n : ℕ) → n < 2 ^ n
below_power zero = omega arith
below_power (suc n) = let i = below_power n in let p = two-pow-succ n in omega arith

-- a mask is the sum of its digits up to any place past it
mask_powers : (mask n : ℕ) → mask ≤ n → powers (keeps mask) n ≡ mask
mask_powers mask n h = powers_mod mask n ∙ mod-eq_of_lt (let q = below_power n in omega arith)

-- one digit more
powers_one : (b c : ℕ → Bool) (n d : ℕ) → d < n → b d ≡ true → c d ≡ false → ((a : ℕ) → (a ≡ d → ⊥) → b a ≡ c a) → powers b n ≡ powers c n + 2 ^ d
unfolding powers
powers_one b c n d h t f same =
    sum_n_but_one n d (2 ^ d) (λ a. pick (b a) (2 ^ a) 0) (λ a. pick (c a) (2 ^ a) 0) h (rw (t, f) (sym (zero-add (2 ^ d)))) (λ a l ne. ap (λ t. pick t (2 ^ a) 0) (same a ne))

pub keeps_with : (mask d e : ℕ) → keeps (with_mask mask d) e ≡ (eqb e d || keeps mask e)
keeps_with mask d e =
    by (keeps mask d)
    (λ t. rw (with_kept mask d t) (by (eqb e d) (λ s. rw s (ap (keeps mask) (eqb-true e d s) ∙ t)) (λ s. rw s refl)))
    (λ t.
    let n = suc (mask + d + e) in
    let b : ℕ → Bool = λ a. eqb a d || keeps mask a in
    let one = powers_one b (keeps mask) n d (omega arith) (rw (eq-eqb d d refl) refl) t (λ a ne. rw (ne_eqb a d ne) refl) in
    let m : mask + 2 ^ d ≡ powers b n = sym (one ∙ ap (λ x. x + 2 ^ d) (mask_powers mask n (omega arith))) in
    rw (with_summed mask d t) (ap (λ x. keeps x e) m ∙ keeps_powers b n e (omega arith)))

pub keeps_without : (mask d e : ℕ) → keeps (without_mask mask d) e ≡ (not (eqb e d) && keeps mask e)
keeps_without mask d e =
    by (keeps mask d)
    (λ t.
    let n = suc (mask + d + e) in
    let c : ℕ → Bool = λ a. not (eqb a d) && keeps mask a in
    let one = powers_one (keeps mask) c n d (omega arith) t (rw (eq-eqb d d refl) refl) (λ a ne. rw (ne_eqb a d ne) refl) in
    let whole = mask_powers mask n (omega arith) in
    let m : mask - 2 ^ d ≡ powers c n = omega arith in
    rw (without_kept mask d t) (ap (λ x. keeps x e) m ∙ keeps_powers c n e (omega arith)))
    (λ t. rw (without_summed mask d t) (by (eqb e d) (λ s. rw s (ap (keeps mask) (eqb-true e d s) ∙ t)) (λ s. rw s refl)))
