-- The seed line, and what the generator prints for the bytes that it reads.
use Rattle.std.specs.Prelude.{ℕ, zero, suc, ◌+◌, ◌-◌, ◌*◌, Bool, false, ◌&&◌, ◌||◌, not, List, [], ◌∷◌, eqb, ltb, leb, length}
use Rattle.cube_spec.specs.Boxes.{pick}
use Rattle.cube_spec.specs.Checks.{Check, check, first}
use Rattle.report_spec.specs.Printed.{refused_line}
use Rattle.practice_spec.specs.Draws.{practice, tape_of}

-- ---- "A seed line on standard input, one to ten decimal digits and a line feed, starts it, and bytes after the line feed are passed over."

-- 0 to 9 in ASCII
unfoldable pub is_digit : ℕ → Bool
is_digit b = leb 48 b && leb b 57

-- the decimal digits that bytes open with, and what follows them
unfoldable pub digits_of : List ℕ → List ℕ
digits_of [] = []
digits_of (b ∷ r) = pick (is_digit b) (b ∷ digits_of r) []

unfoldable pub after_digits : List ℕ → List ℕ
after_digits [] = []
after_digits (b ∷ r) = pick (is_digit b) (after_digits r) (b ∷ r)

abbrev pub opens_with_feed : List ℕ → Bool
opens_with_feed [] = false
opens_with_feed (b ∷ r) = eqb b 10

abbrev pub digit_limit : ℕ
digit_limit = 10

-- do bytes open with a seed line?
unfoldable pub seed_line : List ℕ → Bool
seed_line bytes = let n = length (digits_of bytes) in (leb 1 n && leb n digit_limit) && opens_with_feed (after_digits bytes)

-- the number that digits spell after n, the highest first
unfoldable pub value : ℕ → List ℕ → ℕ
value n [] = n
value n (b ∷ r) = value (10 * n + (b - 48)) r

unfoldable pub seed_of : List ℕ → ℕ
seed_of bytes = value 0 (digits_of bytes)

-- ---- "22 for seed 0, a seed over 4,294,967,295 or input that does not open with such a line"

abbrev pub seed_limit : ℕ
seed_limit = 4294967295

unfoldable pub bad_seed : List ℕ → Bool
bad_seed bytes = not (seed_line bytes) || (eqb (seed_of bytes) 0 || ltb seed_limit (seed_of bytes))

-- "ahead of all others": 22 is judged first, and a tape that is drawn meets no other line
unfoldable pub practice_checks : List ℕ → List Check
practice_checks bytes = check 22 (bad_seed bytes) ∷ []

unfoldable pub practice_refusal : List ℕ → ℕ
practice_refusal bytes = first (practice_checks bytes)

-- "the generator then prints only the refusal line"
unfoldable pub practised_or : ℕ → ℕ → List ℕ
practised_or zero seed = tape_of (practice seed)
practised_or (suc n) seed = refused_line (suc n)

-- the bytes printed for the bytes read
unfoldable pub practised : List ℕ → List ℕ
practised bytes = practised_or (practice_refusal bytes) (seed_of bytes)
