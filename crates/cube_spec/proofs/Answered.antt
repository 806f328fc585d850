-- Laws of an entry's answer by its number: a value where that is 0, and else the number alone.
use Prim.Native.Nat.{ℕ, zero, suc, ◌<◌}
use mathlib.Core.Path.{◌≡◌, refl}
use native.Mathlib.Omega.{arith}
use Rattle.cube_spec.specs.Checks.{gives, refuses, answered}
use Rattle.cube_spec.specs.declared.refusals.Refusal.{Refusal}
use Rattle.cube_spec.specs.Refusals.{number_of}
use Rattle.cube_spec.proofs.Numbers.{number_positive}

module _ {A : Type 0} where
  pub gives_is : (n : ℕ) (a b : A) → gives b ≡ answered n a → (n ≡ 0) × (b ≡ a)
  unfolding answered
  gives_is zero a b e = (refl, cc)
  gives_is (suc n) a b e = absurd (cc)

  pub refuses_is : (n m : ℕ) (a : A) → refuses m ≡ answered n a → m ≡ n
  unfolding answered
  refuses_is zero m a e = absurd (cc)
  refuses_is (suc n) m a e = cc

  pub refuses_some : (n m : ℕ) (a : A) → refuses m ≡ answered n a → m ≡ 0 → ⊥
  unfolding answered
  refuses_some zero m a e h = absurd (cc)
  refuses_some (suc n) m a e h = let k : m ≡ suc n = cc in omega arith

  pub given : (n : ℕ) (a : A) → n ≡ 0 → gives a ≡ answered n a
  unfolding answered
  given zero a e = refl
  given (suc n) a e = absurd (omega arith)

  pub refused : (n : ℕ) (a : A) → 0 < n → refuses n ≡ answered n a
  unfolding answered
  refused zero a h = absurd (omega arith)
  refused (suc n) a h = refl

  -- a refusal that is due
  pub error : (e : Refusal) (n : ℕ) (a : A) → number_of e ≡ n → refuses (number_of e) ≡ answered n a
  error e n a q = rw (← q) (refused (number_of e) a (number_positive e))
