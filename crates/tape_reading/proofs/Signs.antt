-- Whole centimetres with their sign, as the machine's 32 bits have it.
use Prim.Native.Nat.{ℕ, zero, suc, ◌≤◌}
use mathlib.Core.Path.{◌≡◌, ap, ◌∙◌}
use mathlib.Core.Bool.{Bool, true, false}
use native.Mathlib.Omega.{arith}
use lib.IntN.{pos, neg_ℤ, ◌-ℤ◌, +ℤ_idl}
use mir.Syntax.{w32}
use mir.Val.{SFits, to_z, of_z}
use mir.Facts.{to_z_pos, to_z-of_z}
use Rattle.tape_reading.specs.Nearest.{signed}

minus : (w : ℕ) → w ≤ 2147483647 → pos 0 -ℤ to_z w32 w ≡ neg_ℤ (pos w)
minus w l = ap (λ z. pos 0 -ℤ z) (to_z_pos w32 {n = w} (omega arith)) ∙ +ℤ_idl (neg_ℤ (pos w))

fits : (w : ℕ) → w ≤ 2147483647 → SFits w32 (neg_ℤ (pos w))
fits zero l = record { sfits = omega arith }
fits (suc w) l = record { sfits = omega arith }

pub minus_fits : (w : ℕ) → w ≤ 2147483647 → SFits w32 (pos 0 -ℤ to_z w32 w)
minus_fits w l = rw (minus w l) (fits w l)

pub negative_is : (s : Bool) (w : ℕ) → s ≡ true → w ≤ 2147483647 → to_z w32 (of_z w32 (pos 0 -ℤ to_z w32 w)) ≡ signed s w
unfolding signed
negative_is s w e l = rw e (to_z-of_z (minus_fits w l) ∙ minus w l)

pub positive_is : (s : Bool) (w : ℕ) → s ≡ false → w ≤ 2147483647 → to_z w32 w ≡ signed s w
unfolding signed
positive_is s w e l = rw e (to_z_pos w32 {n = w} (omega arith))
