-- Sizes: bits without their sign. A larger size is a larger number, so where one is too far all larger ones are; and what a size gives on each scale at its border.
use Prim.Native.Nat.{ℕ, zero, suc, ◌+◌, ◌*◌, ◌/◌, ◌%◌, ◌^◌, ◌≤◌, ◌<◌}
use mathlib.Core.Path.{◌≡◌, refl, sym, ap, ◌∙◌}
use mathlib.Core.Logic.{inl, inr}
use native.Mathlib.Nat.{mul-le-mul_left, mul-le-mul_right, mod-lt, le_trans}
use native.Mathlib.Omega.{arith}
use borrow.Author.Tests.{ltb-true, ltb-false, eq-eqb, ne_eqb}
use lib.Dec.{ltb}
use lib.Pow.{pow_pos, pow_mono}
use Rattle.cube_spec.specs.Checks.{gives, refuses}
use Rattle.cube_spec.proofs.Sums.{by}
use Rattle.tape_reading.specs.Nearest.{nearest, signed}
use Rattle.tape_reading.specs.Computing.{computing}
use Rattle.tape_reading.specs.Patterns.{negative, field, digits, not_finite, mantissa_of, power_of, parts}
use Rattle.tape_reading.specs.Readings.{metre, kilometre, largest, in_range, refusal_in, value_in, from_bits}
use Rattle.tape_reading.specs.inner.Taken.{Taken, Scale, Refuses}
use Rattle.tape_reading.proofs.Nearest.{nearest_mono}
use Rattle.tape_reading.proofs.Readings.{in_range_lem, out_of_range, from_bits_lem}

-- ---- the order of sizes

-- the parts of a field x and digits t
abbrev made : ℕ → ℕ → ℕ
made x t = mantissa_of x t * 2 ^ power_of x

-- a field more: the smallest there is past the largest here
past_field : (x t : ℕ) → t < 2 ^ 23 → made x t ≤ 2 ^ 23 * 2 ^ x
unfolding mantissa_of power_of
past_field zero t h = omega arith
past_field (suc x) t h =
    let p = pow_mono {i = x} {j = x} (omega arith) in
    let k = mul-le-mul_right {m = 2 ^ 23 + t} {n = 2 ^ 23 * 2} (2 ^ x) (omega arith) in
    omega arith

from_field : (x y u : ℕ) → x < y → 2 ^ 23 * 2 ^ x ≤ made y u
unfolding mantissa_of power_of
from_field x zero u h = absurd (omega arith)
from_field x (suc y) u h =
    let k = mul-le-mul_left (2 ^ 23) (pow_mono {i = x} {j = y} (omega arith)) in
    let m = mul-le-mul_right {m = 2 ^ 23} {n = 2 ^ 23 + u} (2 ^ y) (omega arith) in
    omega arith

same_field : (x t u : ℕ) → t ≤ u → made x t ≤ made x u
unfolding mantissa_of
same_field zero t u h = mul-le-mul_right {m = t} {n = u} (2 ^ power_of zero) h
same_field (suc x) t u h = mul-le-mul_right {m = 2 ^ 23 + t} {n = 2 ^ 23 + u} (2 ^ power_of (suc x)) (omega arith)

pub parts_mono : (a b : ℕ) → a ≤ b → b < 2 ^ 31 → parts a ≤ parts b
unfolding parts field digits
parts_mono a b h l =
    let i : a % 2 ^ 31 ≡ a = omega arith in
    let j : b % 2 ^ 31 ≡ b = omega arith in
    by (ltb (a / 2 ^ 23) (b / 2 ^ 23))
    (λ t.
    let u : made (a / 2 ^ 23) (a % 2 ^ 23) ≤ 2 ^ 23 * 2 ^ (a / 2 ^ 23) = past_field (a / 2 ^ 23) (a % 2 ^ 23) (mod-lt a (omega arith)) in
    let v : 2 ^ 23 * 2 ^ (a / 2 ^ 23) ≤ made (b / 2 ^ 23) (b % 2 ^ 23) = from_field (a / 2 ^ 23) (b / 2 ^ 23) (b % 2 ^ 23) (ltb-true (a / 2 ^ 23) (b / 2 ^ 23) t) in
    rw (i, j) (le_trans u v))
    (λ t.
    let u : b / 2 ^ 23 ≤ a / 2 ^ 23 = ltb-false (a / 2 ^ 23) (b / 2 ^ 23) t in
    let e : a / 2 ^ 23 ≡ b / 2 ^ 23 = omega arith in
    rw (i, j, e) (same_field (b / 2 ^ 23) (a % 2 ^ 23) (b % 2 ^ 23) (omega arith)))

-- ---- the borders

given_mono : (scale a b : ℕ) → a ≤ b → b < 2 ^ 31 → nearest (parts a * scale) (2 ^ 149) ≤ nearest (parts b * scale) (2 ^ 149)
given_mono scale a b h l = nearest_mono (parts a * scale) (parts b * scale) (2 ^ 149) (pow_pos 149) (mul-le-mul_right scale (parts_mono a b h l))

-- by what the last size that is taken gives, and the next one
bordered : (scale last v w : ℕ) → scale ≤ 100000 → last ≤ 0x4BA3D70A → nearest (parts last * scale) (2 ^ 149) ≡ v → v ≤ largest
    → nearest (parts (last + 1) * scale) (2 ^ 149) ≡ w → largest < w → Taken scale last
bordered scale last v w s f e l g m = record {
  small = s;
  bounded = f;
  taken = λ size h. let k = given_mono scale size last h (omega arith) in omega arith;
  far = λ size h i. let k = given_mono scale (last + 1) size (omega arith) (omega arith) in omega arith;
}

pub metres_taken : Taken metre 0x4BA3D70A
metres_taken = bordered metre 0x4BA3D70A 2147483600 2147483800 (omega arith) (omega arith) at_last (omega arith) at_next (omega arith)
  where
    at_last : nearest (parts 0x4BA3D70A * metre) (2 ^ 149) ≡ 2147483600
    at_last = unfold computing in refl

    at_next : nearest (parts (0x4BA3D70A + 1) * metre) (2 ^ 149) ≡ 2147483800
    at_next = unfold computing in refl

pub kilometres_taken : Taken kilometre 0x46A7C5AC
kilometres_taken = bordered kilometre 0x46A7C5AC 2147483594 2147483789 (omega arith) (omega arith) at_last (omega arith) at_next (omega arith)
  where
    at_last : nearest (parts 0x46A7C5AC * kilometre) (2 ^ 149) ≡ 2147483594
    at_last = unfold computing in refl

    at_next : nearest (parts (0x46A7C5AC + 1) * kilometre) (2 ^ 149) ≡ 2147483789
    at_next = unfold computing in refl

-- what judges a float's command: the last size that is taken on each scale, and a float by its bits
pub ruleset judges = (metres_taken, kilometres_taken, from_bits_lem)

-- ---- what a float's bits give, by their size

parts_size : (b : ℕ) → parts b ≡ parts (b % 2 ^ 31)
unfolding parts field digits
parts_size b =
    let i : b % 2 ^ 31 % 2 ^ 31 ≡ b % 2 ^ 31 = omega arith in
    let j : b % 2 ^ 31 % 2 ^ 23 ≡ b % 2 ^ 23 = omega arith in
    rw (i, j)

module _ (b : ℕ) where
  not_finite_lem : (scale : ℕ) → 0x7F800000 ≤ b % 2 ^ 31 → from_bits scale b ≡ refuses 14
  unfolding from_bits not_finite field
  not_finite_lem scale h = rw (eq-eqb (b % 2 ^ 31 / 2 ^ 23) 255 (omega arith))

  finite : (scale : ℕ) → b % 2 ^ 31 < 0x7F800000 → from_bits scale b ≡ in_range (signed (negative b) (nearest (parts (b % 2 ^ 31) * scale) (2 ^ 149)))
  unfolding from_bits not_finite field
  finite scale h = rw (ne_eqb (b % 2 ^ 31 / 2 ^ 23) 255 (λ e. omega arith), parts_size b)

  -- whole centimetres
  inside : (scale last w : ℕ) → Taken scale last → b % 2 ^ 31 ≤ last → w ≡ nearest (parts (b % 2 ^ 31) * scale) (2 ^ 149) → gives (signed (negative b) w) ≡ from_bits scale b
  inside scale last w t h e =
      let f = t.bounded in
      let l = t.taken (b % 2 ^ 31) h in
      sym (finite scale (omega arith) ∙ ap (λ w. in_range (signed (negative b) w)) (sym e) ∙ in_range_lem (negative b) w (omega arith))

  module _ (last : ℕ) where
    abbrev gets : ℕ → Type 0
    gets r = Refuses r last (λ scale. from_bits scale b)

    pub none_refused : b % 2 ^ 31 ≤ last → gets 0
    none_refused h scale t = ap refusal_in (inside scale last (nearest (parts (b % 2 ^ 31) * scale) (2 ^ 149)) t h refl)

    pub far_refused : last < b % 2 ^ 31 → b % 2 ^ 31 < 0x7F800000 → gets 15
    far_refused h l scale t = ap refusal_in (sym (finite scale l ∙ out_of_range (negative b) (nearest (parts (b % 2 ^ 31) * scale) (2 ^ 149)) (t.far (b % 2 ^ 31) h l)))

    pub no_number_refused : 0x7F800000 ≤ b % 2 ^ 31 → gets 14
    no_number_refused h scale t = ap refusal_in (sym (not_finite_lem scale h))

    -- where nothing is refused, the size is one that is taken
    size_taken : (scale : ℕ) → Taken scale last → refusal_in (from_bits scale b) ≡ 0 → b % 2 ^ 31 ≤ last
    size_taken scale t e =
        by (ltb last (b % 2 ^ 31))
        (λ u.
        let h = ltb-true last (b % 2 ^ 31) u in
        by (ltb (b % 2 ^ 31) 0x7F800000)
        (λ v. let r = far_refused h (ltb-true (b % 2 ^ 31) 0x7F800000 v) scale t in absurd (omega arith))
        (λ v. let r = no_number_refused (ltb-false (b % 2 ^ 31) 0x7F800000 v) scale t in absurd (omega arith)))
        (λ u. ltb-false last (b % 2 ^ 31) u)

  -- on either scale, where nothing is refused
  pub record Inside (scale : ℕ) : Type 0 where
    pub small : scale ≤ 100000
    pub bounded : b % 2 ^ 31 ≤ 0x4BA3D70A
    pub fits : nearest (parts (b % 2 ^ 31) * scale) (2 ^ 149) ≤ largest
    pub is : signed (negative b) (nearest (parts (b % 2 ^ 31) * scale) (2 ^ 149)) ≡ value_in (from_bits scale b)

  by_size : (scale last : ℕ) → Taken scale last → refusal_in (from_bits scale b) ≡ 0 → Inside scale
  by_size scale last t e =
      let h = size_taken last scale t e in
      let f = t.bounded in
      record {
        small = t.small;
        bounded = omega arith;
        fits = t.taken (b % 2 ^ 31) h;
        is = ap value_in (inside scale last (nearest (parts (b % 2 ^ 31) * scale) (2 ^ 149)) t h refl);
      }

  pub passed : (scale : ℕ) → Scale scale → refusal_in (from_bits scale b) ≡ 0 → Inside scale
  passed scale (inl q) e = rw q (by_size metre 0x4BA3D70A metres_taken (rw q at e))
  passed scale (inr q) e = rw q (by_size kilometre 0x46A7C5AC kilometres_taken (rw q at e))
