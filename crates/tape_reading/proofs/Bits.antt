-- What the code's arithmetic on the bits comes to: a shift rounds, a power may be split between the two sides of a fraction, and a size can be small beyond doubt.
use Prim.Native.Nat.{ℕ, zero, suc, ◌+◌, ◌-◌, ◌*◌, ◌/◌, ◌%◌, ◌^◌, ◌≤◌, ◌<◌}
use mathlib.Core.Path.{◌≡◌, sym, ap, ◌∙◌}
use native.Mathlib.Nat.{div-add-mod', mod-lt, mul-le-mul, mul-le-mul_right}
use native.Mathlib.Omega.{arith}
use borrow.Author.Tests.{leb-true, leb-false}
use lib.Dec.{leb}
use lib.Pow.{pow_pos, pow_mono, pow-add, shl_exact}
use Rattle.cube_spec.proofs.Sums.{by}
use Rattle.tape_reading.specs.Nearest.{nearest, Nearest}
use Rattle.tape_reading.specs.Patterns.{field, digits, mantissa_of, power_of, parts}
use Rattle.tape_reading.proofs.Nearest.{step, nearest_only, nearest_same}

-- ---- a shift that rounds: half of d less one is added, and one more where the whole part q is odd. Then the quotient w is q or q + 1.

near_same : (n d h q r s : ℕ) → d ≡ 2 * h → 0 < h → n ≡ q * d + r → n + (h - 1) + q % 2 ≡ q * d + s → s < d → Nearest n d q
near_same n d h q r s e H x y l = record { close = omega arith; even = λ z. omega arith }

near_next : (n d h q r s : ℕ) → d ≡ 2 * h → 0 < h → n ≡ q * d + r → r < d → n + (h - 1) + q % 2 ≡ (q + 1) * d + s → Nearest n d (q + 1)
near_next n d h q r s e H x l y = record { close = omega arith; even = λ z. omega arith }

near : (n d h q r w s : ℕ) → d ≡ 2 * h → 0 < h → n ≡ q * d + r → r < d → n + (h - 1) + q % 2 ≡ w * d + s → s < d → Nearest n d w
near n d h q r w s e H x l y m =
    let low : q ≤ w = by (leb q w) (leb-true q w) (λ t. let z = step d w q (leb-false q w t) in absurd (omega arith)) in
    let high : w ≤ q + 1 = by (leb w (q + 1)) (leb-true w (q + 1)) (λ t. let z = step d (q + 1) w (leb-false w (q + 1) t) in absurd (omega arith)) in
    by (leb w q)
    (λ t.
    let u = leb-true w q t in
    let f : w ≡ q = omega arith in
    rw f (near_same n d h q r s e H x (y ∙ ap (λ v. v * d + s) f) m))
    (λ t.
    let u = leb-false w q t in
    let f : w ≡ q + 1 = omega arith in
    rw f (near_next n d h q r s e H x l (y ∙ ap (λ v. v * d + s) f)))

round_half : (n d h : ℕ) → d ≡ 2 * h → 0 < h → (n + (h - 1) + n / d % 2) / d ≡ nearest n d
round_half n d h e H =
    let D : 0 < d = omega arith in
    let a = n + (h - 1) + n / d % 2 in
    nearest_only n d (a / d) D (near n d h (n / d) (n % d) (a / d) (a % d) e H (sym (div-add-mod' n d)) (mod-lt n D) (sym (div-add-mod' a d)) (mod-lt a D))

-- the half as the machine shifts it, and what is below 2 ^ 62 leaves room for it
half_is : (j : ℕ) → j ≤ 62 → 1 * 2 ^ (j - 1) % 2 ^ 64 ≡ 2 ^ (j - 1)
half_is j l = let e = shl_exact {a = 1} 1 (j - 1) 64 (omega arith) (omega arith) in e ∙ omega arith

pub half_pos : (j : ℕ) → j ≤ 62 → 0 < 1 * 2 ^ (j - 1) % 2 ^ 64
half_pos j l = rw (half_is j l) (pow_pos (j - 1))

pub half_le : (j : ℕ) → j ≤ 62 → 1 * 2 ^ (j - 1) % 2 ^ 64 ≤ 2 ^ 62
half_le j l = rw (half_is j l) (pow_mono {i = j - 1} {j = 62} (omega arith))

pub rounds : (n j : ℕ) → 1 ≤ j → j ≤ 62 → (n + (1 * 2 ^ (j - 1) % 2 ^ 64 - 1) + n / 2 ^ j % 2) / 2 ^ j ≡ nearest n (2 ^ j)
rounds n j o l =
    let k : 2 ^ j ≡ 2 * 2 ^ (j - 1) = let e : j ≡ 1 + (j - 1) = omega arith in ap (λ i. 2 ^ i) e ∙ pow-add 2 1 (j - 1) in
    rw (half_is j l) (round_half n (2 ^ j) (2 ^ (j - 1)) k (pow_pos (j - 1)))

-- ---- the size of m · x / d in parts of which `scale` make one. The powers x = 2^p and d = 2^149 go by name, since `omega` reads no numbers of more than 38 digits.

product_le : (m scale : ℕ) → m < 16777216 → scale ≤ 100000 → m * scale ≤ 1677721600000
product_le m scale a b = mul-le-mul {n₁ = m} {m₁ = scale} {n₂ = 16777216} {m₂ = 100000} (omega arith) b

pub product_fits : (m scale : ℕ) → m < 16777216 → scale ≤ 100000 → 8 * m * scale < 2 ^ 62
product_fits m scale a b = let k = product_le m scale a b in omega arith

-- a power may stand on either side of the fraction
same_fraction : (m scale x y d : ℕ) → x * y ≡ 8 * d → m * x * scale * y ≡ 8 * m * scale * d
same_fraction m scale x y d e = let k = ap (λ z. m * scale * z) e in omega arith

shifted : (m p scale : ℕ) → p ≤ 151 → nearest (8 * m * scale) (2 ^ (152 - p)) ≡ nearest (m * 2 ^ p * scale) (2 ^ 149)
shifted m p scale l =
    let e : p + (152 - p) ≡ 152 = omega arith in
    nearest_same (8 * m * scale) (2 ^ (152 - p)) (m * 2 ^ p * scale) (2 ^ 149) (pow_pos (152 - p)) (pow_pos 149)
    (same_fraction m scale (2 ^ p) (2 ^ (152 - p)) (2 ^ 149) (sym (pow-add 2 p (152 - p)) ∙ ap (λ i. 2 ^ i) e))

-- less than a half
under_half : (m scale x d : ℕ) → m < 16777216 → scale ≤ 100000 → 0 < x → x * 2 ^ 59 ≤ d → Nearest (m * x * scale) d 0
under_half m scale x d a b X h =
    let k = mul-le-mul_right x (product_le m scale a b) in
    record { close = omega arith; even = λ z. omega arith }

small : (m p scale : ℕ) → m < 16777216 → p < 90 → scale ≤ 100000 → 0 ≡ nearest (m * 2 ^ p * scale) (2 ^ 149)
small m p scale a b c =
    let l : p + 59 ≤ 149 = omega arith in
    nearest_only (m * 2 ^ p * scale) (2 ^ 149) 0 (pow_pos 149)
    (under_half m scale (2 ^ p) (2 ^ 149) a c (pow_pos p) (rw (← pow-add 2 p 59) (pow_mono l)))

-- ---- a size, by its field: the bits without their sign, over 2^23

field_is : (size : ℕ) → size < 2147483648 → field size ≡ size / 8388608
unfolding field
field_is size l = let e : size % 2147483648 ≡ size = omega arith in rw e

mantissa_lt : (x t : ℕ) → t < 8388608 → mantissa_of x t < 16777216
unfolding mantissa_of
mantissa_lt zero t l = omega arith
mantissa_lt (suc x) t l = omega arith

power_lt : (x : ℕ) → x < 91 → power_of x < 90
unfolding power_of
power_lt zero l = omega arith
power_lt (suc x) l = omega arith

module _ (size scale : ℕ) (l : size < 2147483648) where
  pub size_small : size / 8388608 < 91 → scale ≤ 100000 → 0 ≡ nearest (parts size * scale) (2 ^ 149)
  unfolding parts digits
  size_small h c =
      let x : field size < 91 = rw (field_is size l) h in
      small (mantissa_of (field size) (size % 8388608)) (power_of (field size)) scale (mantissa_lt (field size) (size % 8388608) (omega arith)) (power_lt (field size) x) c

  -- with its leading one
  pub size_shifted : 91 ≤ size / 8388608 → size / 8388608 ≤ 152 → nearest (8 * (8388608 + size % 8388608) * scale) (2 ^ (153 - size / 8388608)) ≡ nearest (parts size * scale) (2 ^ 149)
  unfolding parts digits
  size_shifted h k = rw (field_is size l) (go (size / 8388608) h k)
    where
      go : (x : ℕ) → 91 ≤ x → x ≤ 152 → nearest (8 * (8388608 + size % 8388608) * scale) (2 ^ (153 - x)) ≡ nearest (mantissa_of x (size % 8388608) * 2 ^ power_of x * scale) (2 ^ 149)
      go zero a b = absurd (omega arith)
      go (suc x) a b =
          unfold mantissa_of in unfold power_of in
          let e : 153 - suc x ≡ 152 - x = omega arith in
          rw e (shifted (8388608 + size % 8388608) x scale (omega arith))
