-- How much of its input the program reads, and what it prints then.
use Rattle.std.specs.Prelude.{ℕ, zero, suc, ◌+◌, ◌-◌, ◌≤◌, ◌<◌, ◌≡◌, true, false, List, length, get_or, take, set}
use Rattle.std.proofs.lemmas.List.Edits.{sets}
use Rattle.practice_spec.specs.Seeds.{is_digit, practised}
use Rattle.practice.specs.declared.types.Opening.{Opening}

-- After a read that gave so many bytes, 1 or 0: its byte stands at the next place, or the input ended.
unfoldable pub opening_after : ℕ → ℕ → Opening
opening_after used zero = record { used = used; ended = true }
opening_after used (suc n) = record { used = used + 1; ended = false }

unfoldable pub space_after : List ℕ → ℕ → ℕ → ℕ → List ℕ
space_after space used zero b = space
space_after space used (suc n) b = set space used b

-- It reads no further than the first byte that is no digit: every byte before the last is one. It stops where the input ends, where the space is
-- full, or else after a byte that is no digit.
pub record Stops (space : List ℕ) (opening : Opening) : Type 0 where
  pub most : opening.used ≤ length space
  pub before : (i : ℕ) → i + 1 < opening.used → is_digit (get_or space i 0) ≡ true
  pub last : opening.ended ≡ false → opening.used < length space → (0 < opening.used) × (is_digit (get_or space (opening.used - 1) 0) ≡ false)

-- It keeps the length of its space, and the cells past what it read.
pub record Keeps (space space' : List ℕ) (used : ℕ) : Type 0 where
  pub same : length space' ≡ length space
  pub rest : (i : ℕ) → used ≤ i → get_or space' i 0 ≡ get_or space i 0

-- What was read is how an input begins, and all of it where the input ended.
pub record ReadOf (input space : List ℕ) (opening : Opening) : Type 0 where
  pub begins : take opening.used space ≡ take opening.used input
  pub all : opening.ended ≡ true → take opening.used space ≡ input

-- Whatever input it was read of, the buffer has at its start what that input prints, its other bytes are kept, and the answer is how many they are.
abbrev pub PrintsAfter : List ℕ → Opening → List ℕ → ℕ → List ℕ → Type 0
PrintsAfter space opening out r out' =
    (input : List ℕ) → ReadOf input space opening → (r ≡ length (practised input)) × (out' ≡ sets out 0 (practised input))
