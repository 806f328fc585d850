-- Laws of the bits of a signed 64-bit number. Each goes by the sign, and then by omega.
use Prim.Native.Nat.{ℕ, suc, ◌<◌, ◌-◌, ◌+◌, ◌%◌, ◌^◌}
use mathlib.Core.Path.{◌≡◌, ◌∙◌, refl}
use mathlib.Core.Bool.{true, false}
use native.Mathlib.Omega.{arith}
use borrow.Author.Tests.{ltb-true}
use lib.Dec.{T}
use lib.IntN.{ℤ, pos, negsuc, ◌+ℤ◌, nat_abs}
use lib.Signed.{mag, lt_z, non_neg}
use mir.Syntax.{w64}
use mir.Val.{SFits, of_z, to_z}
use mir.ValLaws.{to_z_pos}
use Rattle.std.specs.Int.{int_wrapping_add}
use Rattle.std.proofs.lemmas.Int.{wrapping_add_is, wrapping_add_onto}
use Rattle.cell_spec.specs.Wrapped.{wrapped}
use Rattle.cell_spec.proofs.Modulo.{as_wrapped}

-- a negative number's complement
pub flipped : (x : ℤ) → SFits w64 x → lt_z x (pos 0) ≡ true → to_z w64 (18446744073709551615 - of_z w64 x) ≡ pos (mag x)
flipped (pos n) f t = absurd (let h : n < 0 = ltb-true n 0 t in omega arith)
flipped (negsuc n) f t =
    let h : n < 2 ^ 63 = f.sfits in
    let e : 18446744073709551615 - (18446744073709551616 - suc n) ≡ n = omega arith in
    rw e (to_z_pos w64 n h)

pub flipped_bits : (x : ℤ) → SFits w64 x → lt_z x (pos 0) ≡ true → 18446744073709551615 - mag x ≡ of_z w64 x
flipped_bits (pos n) f t = absurd (let h : n < 0 = ltb-true n 0 t in omega arith)
flipped_bits (negsuc n) f t = let h : n < 2 ^ 63 = f.sfits in omega arith

pub from_pos : (x : ℤ) → SFits w64 x → lt_z x (pos 0) ≡ false → (T (non_neg x)) × (nat_abs x ≡ of_z w64 x) × (nat_abs x ≡ mag x)
from_pos (pos n) f t = (tt, refl, refl)
from_pos (negsuc n) f t = absurd (let e : ◌≡◌ {A = ℕ} 0 1 = cc in omega arith)

-- what the library's wrapping sum answers
pub wrapping : (a b : ℤ) → SFits w64 a → SFits w64 b → int_wrapping_add w64 a b ≡ wrapped (a +ℤ b)
wrapping a b f g = wrapping_add_is w64 a b f g ∙ as_wrapped (a +ℤ b)

-- the same, of a sum that a loop keeps as bits
pub wrapping_onto : (m : ℕ) (b : ℤ) → m < 2 ^ 64 → SFits w64 b → to_z w64 ((m + of_z w64 b) % 2 ^ 64) ≡ wrapped (to_z w64 m +ℤ b)
wrapping_onto m b h g = wrapping_add_onto w64 m b h g ∙ as_wrapped (to_z w64 m +ℤ b)
