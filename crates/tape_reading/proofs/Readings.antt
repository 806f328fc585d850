-- What a reading gives: by its exact value in whatever fraction; from the bits alone; that every pattern is rounded right; and with the other sign.
use Prim.Native.Nat.{ℕ, zero, suc, ◌+◌, ◌*◌, ◌^◌, ◌≤◌, ◌<◌}
use mathlib.Core.Path.{◌≡◌, refl, sym, ap, ap₂, ◌∙◌}
use mathlib.Core.Logic.{◌⊎◌, inl, inr}
use mathlib.Core.Bool.{Bool, true, false, cond, not}
use native.Mathlib.Omega.{arith}
use borrow.Author.Tests.{lt-ltb, le-ltb}
use lib.Dec.{ltb, eqb}
use lib.IntN.{ℤ, pos, neg_ℤ, neg_ℤ-neg_ℤ}
use lib.Pow.{pow_pos}
use lib.Ieee.{Float, nan, inf, fin, up, down, neg, of_fields, of_bits, binary32}
use lib.Ieee.Exact.{HasValue, odd_sign}
use lib.Ieee.Fits.{down_pos}
use Rattle.cube_spec.specs.Checks.{Reply, gives, refuses}
use Rattle.cube_spec.proofs.Sums.{by}
use Rattle.cube_spec.proofs.Naturals.{clash}
use Rattle.tape_reading.specs.declared.types.Reading.{Reading}
use Rattle.tape_reading.specs.declared.types.Reading.TheVariants as Reading'
use Rattle.tape_reading.specs.Nearest.{nearest, signed, magnitude, Nearest}
use Rattle.tape_reading.specs.Patterns.{negative, field, digits, not_finite, mantissa_of, power_of, parts}
use Rattle.tape_reading.specs.Readings.{metre, kilometre, largest, in_range, in_centimetres, centimetres_of, refusal_in, from_bits}
use Rattle.tape_reading.specs.Rounding.{Rounds}
use Rattle.tape_reading.proofs.Nearest.{nearest_only, nearest_same, magnitude_signed, nearest_signed}

-- ---- by the exact value: a float that is ±a / c, however it is written

by_value : (scale : ℕ) (x : Float) (s : Bool) (a c : ℕ) → 0 < c → HasValue x s a c → in_centimetres scale x ≡ in_range (signed s (nearest (a * scale) c))
unfolding in_centimetres
by_value scale nan s a c C v = absurd v
by_value scale (inf t) s a c C v = absurd v
by_value scale (fin t m e) s a c C v =
    let q = v.1 in
    ap₂ (λ s w. in_range (signed s w)) v.0 (nearest_same (m * up e * scale) (down e) (a * scale) c (down_pos e) C (let k = ap (λ y. y * scale) q in omega arith))

-- ---- from the bits

fields_value : (s : Bool) (x t : ℕ) → eqb x 255 ≡ false → HasValue (of_fields binary32 s x t) s (mantissa_of x t * 2 ^ power_of x) (2 ^ 149)
unfolding of_fields mantissa_of power_of
fields_value s zero t e = odd_sign 24 s t 0 149
fields_value s (suc x) t e = rw e (odd_sign 24 s (2 ^ 23 + t) x 149)

fields_none : (scale : ℕ) (s : Bool) (x t : ℕ) → eqb x 255 ≡ true → in_centimetres scale (of_fields binary32 s x t) ≡ refuses 14
unfolding of_fields in_centimetres
fields_none scale s zero t e = clash (sym e)
fields_none scale s (suc x) t e = rw e (go (eqb t 0))
  where
    go : (z : Bool) → in_centimetres scale (cond z (inf s) nan) ≡ refuses 14
    go true = refl
    go false = refl

-- a finite pattern's exact value is ± its parts · 2^−149
pub exact_value : (b : ℕ) → not_finite b ≡ false → HasValue (of_bits binary32 b) (negative b) (parts b) (2 ^ 149)
unfolding of_bits negative not_finite field digits parts
exact_value b h = fields_value (negative b) (field b) (digits b) h

pub none_finite : (scale b : ℕ) → not_finite b ≡ true → in_centimetres scale (of_bits binary32 b) ≡ refuses 14
unfolding of_bits negative not_finite field digits
none_finite scale b h = fields_none scale (negative b) (field b) (digits b) h

all_finite : (scale b : ℕ) → not_finite b ≡ false → in_centimetres scale (of_bits binary32 b) ≡ in_range (signed (negative b) (nearest (parts b * scale) (2 ^ 149)))
all_finite scale b h = by_value scale (of_bits binary32 b) (negative b) (parts b) (2 ^ 149) (pow_pos 149) (exact_value b h)

pub from_bits_lem : (scale b : ℕ) → in_centimetres scale (of_bits binary32 b) ≡ from_bits scale b
unfolding from_bits
from_bits_lem scale b = by (not_finite b) (λ t. rw t (none_finite scale b t)) (λ t. rw t (all_finite scale b t))

-- ---- every pattern is rounded right

pub rounded_right : (scale b : ℕ) → not_finite b ≡ false → Rounds scale b (in_centimetres scale (of_bits binary32 b))
rounded_right scale b h =
    let n = parts b * scale in
    record {
      finite = h;
      z = signed (negative b) (nearest n (2 ^ 149));
      nearest = nearest_signed (negative b) n (2 ^ 149) (pow_pos 149);
      is = all_finite scale b h;
    }

-- ---- `nearest` decides: the one number that is nearest is given where it lies in the range, and 15 where it does not

pub in_range_lem : (s : Bool) (w : ℕ) → w ≤ largest → in_range (signed s w) ≡ gives (signed s w)
unfolding in_range
in_range_lem s w l = rw (magnitude_signed s w, le-ltb largest w l)

pub out_of_range : (s : Bool) (w : ℕ) → largest < w → in_range (signed s w) ≡ refuses 15
unfolding in_range
out_of_range s w l = rw (magnitude_signed s w, lt-ltb largest w l)

module _ (scale : ℕ) (s : Bool) (m : ℕ) (e : ℤ) (w : ℕ) (h : Nearest (m * up e * scale) (down e) w) where
  decided : in_centimetres scale (fin s m e) ≡ in_range (signed s w)
  unfolding in_centimetres
  decided = ap (λ w. in_range (signed s w)) (sym (nearest_only (m * up e * scale) (down e) w (down_pos e) h))

  pub given : w ≤ largest → in_centimetres scale (fin s m e) ≡ gives (signed s w)
  given l = decided ∙ in_range_lem s w l

  pub outside : largest < w → in_centimetres scale (fin s m e) ≡ refuses 15
  outside l = decided ∙ out_of_range s w l

-- ---- the other sign

abbrev pub mirrored : Reply ℤ → Reply ℤ
mirrored (gives z) = gives (neg_ℤ z)
mirrored (refuses n) = refuses n

signed_not : (s : Bool) (w : ℕ) → signed (not s) w ≡ neg_ℤ (signed s w)
unfolding signed
signed_not false w = refl
signed_not true w = sym (neg_ℤ-neg_ℤ (pos w))

pub other_sign : (scale : ℕ) (x : Float) → in_centimetres scale (neg x) ≡ mirrored (in_centimetres scale x)
unfolding in_centimetres neg
other_sign scale nan = refl
other_sign scale (inf s) = refl
other_sign scale (fin s m e) = go (nearest (m * up e * scale) (down e))
  where
    go : (w : ℕ) → in_range (signed (not s) w) ≡ mirrored (in_range (signed s w))
    go w = unfold in_range in rw (magnitude_signed (not s) w, magnitude_signed s w) (by (ltb largest w) (λ t. rw t) (λ t. rw (t, signed_not s w)))

-- ---- both zeros give 0, at any scale

pub zeros : (scale : ℕ) (s : Bool) → in_centimetres scale (fin s 0 (pos 0)) ≡ gives (pos 0)
zeros scale s = given scale s 0 (pos 0) 0 (record { close = omega arith; even = λ z. omega arith }) (omega arith) ∙ ap gives (zero_signed s)
  where
    zero_signed : (s : Bool) → signed s 0 ≡ pos 0
    zero_signed false = unfold signed in refl
    zero_signed true = unfold signed in refl

-- ---- no refusal but 14 and 15

abbrev pub Kind : ℕ → Type 0
Kind n = (n ≡ 0) ⊎ ((n ≡ 14) ⊎ (n ≡ 15))

range_kind : (z : ℤ) → Kind (refusal_in (in_range z))
unfolding in_range
range_kind z = by (ltb largest (magnitude z)) (λ t. rw t (inr (inr refl))) (λ t. rw t (inl refl))

float_kind : (scale : ℕ) (x : Float) → Kind (refusal_in (in_centimetres scale x))
unfolding in_centimetres
float_kind scale nan = inr (inl refl)
float_kind scale (inf s) = inr (inl refl)
float_kind scale (fin s m e) = range_kind (signed s (nearest (m * up e * scale) (down e)))

pub refusal_kind : (r : Reading) → Kind (refusal_in (centimetres_of r))
unfolding centimetres_of
refusal_kind (Reading'.Centimetres v) = inl refl
refusal_kind (Reading'.Metres x) = float_kind metre x
refusal_kind (Reading'.Kilometres x) = float_kind kilometre x
