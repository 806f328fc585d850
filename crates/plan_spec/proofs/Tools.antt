-- Small forms that many proofs here use.
use Prim.Native.Nat.{ℕ, ◌+◌}
use mathlib.Core.Path.{◌≡◌, ap₂, refl}
use mathlib.Core.Bool.{Bool, true, false}

-- a test, by its two outcomes
pub bool_cases : (P : Bool → Type 0) (b : Bool) → (b ≡ true → P true) → (b ≡ false → P false) → P b
bool_cases P true f g = f refl
bool_cases P false f g = g refl

pub add_same : {a b c d : ℕ} → a ≡ b → c ≡ d → a + c ≡ b + d
add_same p q = ap₂ (λ (x y : ℕ). x + y) p q
