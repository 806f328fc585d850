-- "the whole centimetre nearest to the float's exact value, halves to the even one", for an exact value that is the fraction n / d.
use Rattle.std.specs.Prelude.{ℕ, ◌+◌, ◌-◌, ◌*◌, ◌/◌, ◌%◌, ◌≤◌, ◌≡◌, Bool, true, false, ltb, ℤ, pos, negsuc, neg_ℤ}
use Rattle.cube_spec.specs.Boxes.{pick}

-- n / d lies r / d above q: below a half q is nearest, above a half q + 1, and at a half the even one of the two
unfoldable pub nearest : ℕ → ℕ → ℕ
nearest n d =
    let q = n / d in
    let r = n % d in
    pick (ltb (2 * r) d) q (pick (ltb d (2 * r)) (q + 1) (q + q % 2))

-- a number with a sign, true for a negative one
unfoldable pub signed : Bool → ℕ → ℤ
signed false n = pos n
signed true n = neg_ℤ (pos n)

-- ---- what makes `nearest` right (`proofs/Nearest.antt`)

-- how far a lies from b
abbrev pub apart : ℕ → ℕ → ℕ
apart a b = (a - b) + (b - a)

-- how far n / d lies from w, in parts of which d make one
abbrev pub off : ℕ → ℕ → ℕ → ℕ
off n d w = apart n (w * d)

-- w is nearest to n / d, halves to the even one: it is off by at most a half, and if by a half then it is even
pub record Nearest (n d w : ℕ) : Type 0 where
  pub close : 2 * off n d w ≤ d
  pub even : 2 * off n d w ≡ d → w % 2 ≡ 0

-- the same distance where both have a sign: of ±n / d from the whole number z
unfoldable pub off_z : Bool → ℕ → ℕ → ℤ → ℕ
off_z false n d (pos w) = off n d w
off_z false n d (negsuc w) = n + (w + 1) * d
off_z true n d (pos w) = n + w * d
off_z true n d (negsuc w) = off n d (w + 1)

-- a whole number without its sign
abbrev pub magnitude : ℤ → ℕ
magnitude (pos w) = w
magnitude (negsuc w) = w + 1

-- the whole number z is nearest to ±n / d: it is off by at most a half, no whole number is nearer, a half goes to the even one, and no other is so
pub record NearestZ (s : Bool) (n d : ℕ) (z : ℤ) : Type 0 where
  pub close : 2 * off_z s n d z ≤ d
  pub least : (y : ℤ) → off_z s n d z ≤ off_z s n d y
  pub even : 2 * off_z s n d z ≡ d → magnitude z % 2 ≡ 0
  pub only : (y : ℤ) → 2 * off_z s n d y ≤ d → (2 * off_z s n d y ≡ d → magnitude y % 2 ≡ 0) → y ≡ z
