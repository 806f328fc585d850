-- `nearest` is right: it is off by at most a half, no whole number is nearer, a half goes to the even one, and it is the only such number.
-- So it goes by the fraction alone, however that is written.
use Prim.Native.Nat.{ℕ, zero, suc, ◌+◌, ◌*◌, ◌/◌, ◌%◌, ◌≤◌, ◌<◌}
use mathlib.Core.Path.{◌≡◌, refl, sym, ap}
use mathlib.Core.Bool.{Bool, true, false}
use native.Mathlib.Nat.{div-add-mod', mod-lt, mul-le-mul_right, le_of_mul-le-mul_right, eq_of_mul-eq-mul_right}
use native.Mathlib.Omega.{arith}
use native.Mathlib.Numerals.{add-one}
use borrow.Author.Tests.{ltb-true, ltb-false, leb-true, leb-false}
use lib.Dec.{ltb, leb}
use lib.IntN.{ℤ, pos, negsuc}
use Rattle.cube_spec.proofs.Sums.{by}
use Rattle.tape_reading.specs.Nearest.{nearest, signed, off, off_z, magnitude, Nearest, NearestZ}

-- ---- the three cases: n / d is q and r / d more

below_half : (n d q r : ℕ) → n ≡ q * d + r → 2 * r < d → Nearest n d q
below_half n d q r e h = record { close = omega arith; even = λ z. absurd (omega arith) }

above_half : (n d q r : ℕ) → n ≡ q * d + r → r < d → d < 2 * r → Nearest n d (q + 1)
above_half n d q r e l h = record { close = omega arith; even = λ z. absurd (omega arith) }

-- at a half q serves where it is even, and q + 1 where it is not
half : (n d q r p : ℕ) → q % 2 ≡ p → n ≡ q * d + r → 2 * r ≡ d → Nearest n d (q + p)
half n d q r zero o e h = record { close = omega arith; even = λ z. omega arith }
half n d q r (suc zero) o e h = record { close = omega arith; even = λ z. omega arith }
half n d q r (suc (suc p)) o e h = absurd (omega arith)

nearest_right : (n d : ℕ) → 0 < d → Nearest n d (nearest n d)
unfolding nearest
nearest_right n d D =
    let q = n / d in
    let r = n % d in
    let e : n ≡ q * d + r = sym (div-add-mod' n d) in
    let l : r < d = mod-lt n D in
    by (ltb (2 * r) d)
    (λ t. rw t (below_half n d q r e (ltb-true (2 * r) d t)))
    (λ t.
    let g = ltb-false (2 * r) d t in
    by (ltb d (2 * r))
    (λ u. rw (t, u) (above_half n d q r e l (ltb-true d (2 * r) u)))
    (λ u. let h = ltb-false d (2 * r) u in rw (t, u) (half n d q r (q % 2) refl e (omega arith))))

-- ---- the only one

-- the multiples of d that are near n: two different ones are both off by a half, and follow each other
pub step : (d v w : ℕ) → v < w → v * d + d ≤ w * d
step d v w l = let h = mul-le-mul_right {m = v + 1} {n = w} d (omega arith) in omega arith

not_above : (n d v w : ℕ) → 0 < d → Nearest n d v → Nearest n d w → v < w → ⊥
not_above n d v w D a b l =
    let p = a.close in
    let q = b.close in
    let s = step d v w l in
    let f : w ≤ v + 1 = by (leb w (v + 1)) (λ t. leb-true w (v + 1) t) (λ t. let u = step d (v + 1) w (leb-false w (v + 1) t) in absurd (omega arith)) in
    let e : w ≡ v + 1 = omega arith in
    let x : w * d ≡ v * d + d = rw e (omega arith) in
    let y = a.even (omega arith) in
    let z = b.even (omega arith) in
    omega arith

pub nearest_only : (n d w : ℕ) → 0 < d → Nearest n d w → w ≡ nearest n d
nearest_only n d w D h =
    let r = nearest_right n d D in
    by (ltb w (nearest n d))
    (λ t. absurd (not_above n d w (nearest n d) D h r (ltb-true w (nearest n d) t)))
    (λ t. by (ltb (nearest n d) w)
    (λ u. absurd (not_above n d (nearest n d) w D r h (ltb-true (nearest n d) w u)))
    (λ u. let p = ltb-false w (nearest n d) t in let q = ltb-false (nearest n d) w u in omega arith))

-- no whole number is nearer
nearest_least : (n d w : ℕ) → 0 < d → off n d (nearest n d) ≤ off n d w
nearest_least n d w D =
    let v = nearest n d in
    let c = (nearest_right n d D).close in
    by (ltb w v)
    (λ t. let s = step d w v (ltb-true w v t) in omega arith)
    (λ t. by (ltb v w)
    (λ u. let s = step d v w (ltb-true v w u) in omega arith)
    (λ u.
    let p = ltb-false w v t in
    let q = ltb-false v w u in
    let e : w ≡ v = omega arith in
    rw e (omega arith)))

-- ---- by the fraction alone: a / b is n / d

scaled : (n d a b w : ℕ) → 0 < d → 0 < b → a * d ≡ n * b → Nearest n d w → Nearest a b w
scaled n d a b w D B e h =
    let c = h.close in
    let low : 2 * n ≤ 2 * (w * d) + d = omega arith in
    let high : 2 * (w * d) ≤ 2 * n + d = omega arith in
    let low' = mul-le-mul_right b low in
    let high' = mul-le-mul_right b high in
    let l : 2 * a ≤ 2 * (w * b) + b = le_of_mul-le-mul_right {m = 2 * a} {n = 2 * (w * b) + b} {k = d} (omega arith) D in
    let g : 2 * (w * b) ≤ 2 * a + b = le_of_mul-le-mul_right {m = 2 * (w * b)} {n = 2 * a + b} {k = d} (omega arith) D in
    record {
      close = omega arith;
      even = λ z. h.even (by (leb a (w * b))
          (λ t.
          let s = leb-true a (w * b) t in
          let x : 2 * (w * b) ≡ 2 * a + b = omega arith in
          let x' = ap (λ y. y * d) x in
          let y : 2 * (w * d) ≡ 2 * n + d = eq_of_mul-eq-mul_right b B (2 * (w * d)) (2 * n + d) (omega arith) in
          omega arith)
          (λ t.
          let s = leb-false a (w * b) t in
          let x : 2 * a ≡ 2 * (w * b) + b = omega arith in
          let x' = ap (λ y. y * d) x in
          let y : 2 * n ≡ 2 * (w * d) + d = eq_of_mul-eq-mul_right b B (2 * n) (2 * (w * d) + d) (omega arith) in
          omega arith));
    }

pub nearest_same : (n d a b : ℕ) → 0 < d → 0 < b → a * d ≡ n * b → nearest n d ≡ nearest a b
nearest_same n d a b D B e = nearest_only a b (nearest n d) B (scaled n d a b (nearest n d) D B e (nearest_right n d D))

-- ---- a larger number has no smaller nearest one

pub nearest_mono : (n m d : ℕ) → 0 < d → n ≤ m → nearest n d ≤ nearest m d
nearest_mono n m d D h =
    let v = nearest n d in
    let w = nearest m d in
    let a = (nearest_right n d D).close in
    let b = (nearest_right m d D).close in
    by (leb v w) (leb-true v w)
    (λ t.
    let s = step d w v (leb-false v w t) in
    let e : n ≡ m = omega arith in
    rw e (omega arith))

-- ---- with a sign

off_signed : (s : Bool) (n d w : ℕ) → off_z s n d (signed s w) ≡ off n d w
unfolding off_z signed
off_signed false n d w = refl
off_signed true n d zero = omega arith
off_signed true n d (suc w) = omega arith

pub magnitude_signed : (s : Bool) (w : ℕ) → magnitude (signed s w) ≡ w
unfolding signed
magnitude_signed false w = refl
magnitude_signed true zero = refl
magnitude_signed true (suc w) = omega arith

-- of all whole numbers, negative ones too, none is nearer to ±n / d
nearest_least_z : (s : Bool) (n d : ℕ) (z : ℤ) → 0 < d → off_z s n d (signed s (nearest n d)) ≤ off_z s n d z
nearest_least_z s n d z D = rw (off_signed s n d (nearest n d)) (go s z)
  where
    go : (s : Bool) (z : ℤ) → off n d (nearest n d) ≤ off_z s n d z
    go false (pos w) = unfold off_z in nearest_least n d w D
    go false (negsuc w) = unfold off_z in let h = nearest_least n d 0 D in omega arith
    go true (pos w) = unfold off_z in let h = nearest_least n d 0 D in omega arith
    go true (negsuc w) = unfold off_z in nearest_least n d (w + 1) D

-- a number that is near enough has the sign, or is 0
only_signed : (s : Bool) (n d : ℕ) (y : ℤ) → 0 < d → 2 * off_z s n d y ≤ d → (2 * off_z s n d y ≡ d → magnitude y % 2 ≡ 0) → y ≡ signed s (nearest n d)
unfolding off_z signed
only_signed false n d (pos w) D c e = ap pos (nearest_only n d w D (record { close = c; even = e }))
only_signed false n d (negsuc w) D c e = absurd (omega arith)
only_signed true n d (pos zero) D c e = let h : 0 ≡ nearest n d = nearest_only n d 0 D (record { close = omega arith; even = λ z. omega arith }) in rw (← h)
only_signed true n d (pos (suc w)) D c e = absurd (omega arith)
only_signed true n d (negsuc w) D c e = let h : w + 1 ≡ nearest n d = nearest_only n d (w + 1) D (record { close = c; even = e }) in rw (← h, add-one w)

pub nearest_signed : (s : Bool) (n d : ℕ) → 0 < d → NearestZ s n d (signed s (nearest n d))
nearest_signed s n d D =
    let r = nearest_right n d D in
    record {
      close = rw (off_signed s n d (nearest n d)) r.close;
      least = λ y. nearest_least_z s n d y D;
      even = λ z. rw (magnitude_signed s (nearest n d)) (r.even (rw (off_signed s n d (nearest n d)) at z));
      only = λ y c e. only_signed s n d y D c e;
    }
