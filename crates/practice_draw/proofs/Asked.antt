-- Every seed can be asked for: by its number in decimal and a line feed.
use Rattle.std.proofs.Common.{◌≡◌, ℕ, ◌+◌, ◌-◌, ◌*◌, ◌/◌, ◌%◌, ◌^◌, ◌<◌, ◌≤◌, List, [], ◌∷◌, ◌++◌, length, length-append, refl, ◌∙◌, arith}
use Rattle.std.proofs.lemmas.Fmt.{decimal_by_steps, length-decimal-le}
use Rattle.tape_spec.specs.Writing.{Every}
use Rattle.tape_spec.proofs.Writing.{every_append}
use Rattle.report_spec.specs.Text.{decimal}
use Rattle.report_field.proofs.Spelling.{decimal_is}
use Rattle.practice_spec.specs.Seeds.{value, seed_limit}
use Rattle.practice_spec.specs.Exercises.{Digit, Asks}
use Rattle.practice_spec.proofs.Lines.{value_spelt}

value_last : (n : ℕ) (l : List ℕ) (b : ℕ) → value n (l ++ b ∷ []) ≡ 10 * value n l + (b - 48)
unfolding value
value_last n [] b = refl
value_last n (a ∷ l) b = value_last (10 * n + (a - 48)) l b

one_value : (n : ℕ) → value 0 ((48 + n) ∷ []) ≡ n
unfolding value
one_value n = omega arith

-- a number's decimal digits are digits, there is at least one, and they spell it
abbrev Spells : ℕ → List ℕ → Type 0
Spells n l = Every Digit l × (1 ≤ length l) × (value 0 l ≡ n)

spells : (n : ℕ) → n < 2 ^ 64 → Spells n (decimal n)
spells n h = rw (← decimal_is n h) (decimal_by_steps Spells one more n h)
  where
    one : (n : ℕ) → n < 10 → Spells n ((48 + n) ∷ [])
    one n h = (((omega arith, omega arith), tt), omega arith, one_value n)

    more : (n : ℕ) (l : List ℕ) → 10 ≤ n → Spells (n / 10) l → Spells n (l ++ (48 + n % 10) ∷ [])
    more n l h i = (
      every_append Digit l ((48 + n % 10) ∷ []) i.0 ((omega arith, omega arith), tt),
      omega (arith, length-append l ((48 + n % 10) ∷ [])),
      value_last 0 l (48 + n % 10) ∙ (let v = i.2 in omega arith),
    )

-- EVERY SEED CAN BE ASKED FOR
pub asked : (n : ℕ) → 1 ≤ n → n ≤ seed_limit → Asks (decimal n ++ 10 ∷ []) n
asked n h k =
    let s = spells n (omega arith) in
    let v = value_spelt 0 (decimal n) in
    record {
      digits = decimal n;
      rest = [];
      line = refl;
      decimal = s.0;
      one_digit = s.1;
      ten_digits = rw (← decimal_is n (omega arith)) (length-decimal-le 10 n (omega arith) (omega arith) (omega arith));
      number = omega (arith, s.2);
      least = h;
      most = k;
    }
