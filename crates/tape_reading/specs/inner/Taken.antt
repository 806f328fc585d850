-- Scales, and the largest size that is taken on one; a size is a float's bits without their sign.
use Rattle.std.specs.Prelude.{ℕ, ◌*◌, ◌^◌, ◌≤◌, ◌<◌, ◌≡◌, ◌⊎◌, ℤ}
use Rattle.cube_spec.specs.Checks.{Reply}
use Rattle.tape_reading.specs.Nearest.{nearest}
use Rattle.tape_reading.specs.Patterns.{parts}
use Rattle.tape_reading.specs.Readings.{metre, kilometre, largest, refusal_in}

pub record Taken (scale last : ℕ) : Type 0 where
  pub small : scale ≤ 100000
  pub bounded : last ≤ 0x4BA3D70A
  pub taken : (size : ℕ) → size ≤ last → nearest (parts size * scale) (2 ^ 149) ≤ largest
  pub far : (size : ℕ) → last < size → size < 0x7F800000 → largest < nearest (parts size * scale) (2 ^ 149)

-- a scale is one of the two
abbrev pub Scale : ℕ → Type 0
Scale n = (n ≡ metre) ⊎ (n ≡ kilometre)

-- r is the refusal of what f gives, on every scale with this last size
abbrev pub Refuses : ℕ → ℕ → (ℕ → Reply ℤ) → Type 0
Refuses r last f = (scale : ℕ) → Taken scale last → r ≡ refusal_in (f scale)
