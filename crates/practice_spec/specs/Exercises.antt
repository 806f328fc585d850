-- What is said of the generator: of every input, which seed it asks for, and what is printed; of every seed its campaign, draw by draw, and its
-- tape. A round is that of `Draws`, where it must be read.
use Rattle.std.specs.Prelude.{ℕ, ◌+◌, ◌-◌, ◌*◌, ◌%◌, ◌^◌, ◌≤◌, ◌<◌, min, ◌≡◌, List, [], ◌∷◌, ◌++◌, length, get_or, pos, ◌-ℤ◌}
use Rattle.std.proofs.Math.Option.{some}
use Rattle.std.specs.Int.{w32}
use Rattle.std.proofs.Common.{of_z}
use Rattle.cube_spec.specs.Choices.{length_of, points}
use Rattle.cube_spec.specs.Ways.{room}
use Rattle.plan_spec.specs.Rule.{power_used}
use Rattle.rack_spec.specs.Grids.{grid_of}
use Rattle.rack_spec.specs.Steps.{steps}
use Rattle.run_spec.specs.Memory.{read}
use Rattle.tape_spec.specs.Tapes.{Campaign, campaign}
use Rattle.tape_spec.specs.Writing.{bytes, each, Every}
use Rattle.report_spec.specs.Text.{text}
use Rattle.report_spec.specs.Printed.{plan_for, program_refusal, report, joined, printed}
use Rattle.practice_spec.specs.Draws.{after}

-- ---- the seed that an input asks for

-- a decimal digit in ASCII
abbrev pub Digit : ℕ → Type 0
Digit b = (48 ≤ b) × (b ≤ 57)

-- the number that digits spell, each by its place
unfoldable pub spelt : List ℕ → ℕ
spelt [] = 0
spelt (b ∷ r) = (b - 48) * 10 ^ length r + spelt r

-- "A seed line on standard input, one to ten decimal digits and a line feed, starts it, and bytes after the line feed are passed over."
pub record Asks (input : List ℕ) (seed : ℕ) : Type 0 where
  pub digits : List ℕ
  pub rest : List ℕ
  pub line : input ≡ digits ++ 10 ∷ rest
  pub decimal : Every Digit digits
  pub one_digit : 1 ≤ length digits
  pub ten_digits : length digits ≤ 10
  pub number : seed ≡ spelt digits
  -- "22 for seed 0, a seed over 4,294,967,295"
  pub least : 1 ≤ seed
  pub most : seed ≤ 4294967295

-- ---- the campaign of a seed

-- "each draw being the state after one round": draw i of a seed, counted from 1, is the state after i rounds
abbrev pub draw : ℕ → ℕ → ℕ
draw seed i = after i seed

-- Draw by draw: the first is for the number of axes, then comes one for each length, one for p, and one for each point. F is `room`.
pub record Exercise (seed : ℕ) (c : Campaign) : Type 0 where
  -- "Axes: 1 plus draw mod 4."
  pub axes : length c.lengths ≡ 1 + draw seed 1 % 4
  -- "Each length: 1 plus draw mod 9."
  pub each_length : (d : ℕ) → d < length c.lengths → length_of c.lengths d ≡ 1 + draw seed (2 + d) % 9
  -- "Then p: draw mod (1 + the smaller of 3 and F)."
  pub power : c.p ≡ draw seed (length c.lengths + 2) % (1 + min 3 (room c.lengths))
  -- "Each point: draw mod 2,001, less 1,000"
  pub many : length c.points ≡ points c.lengths
  pub each_point : (i : ℕ) → i < length c.points → get_or c.points i (pos 0) ≡ pos (draw seed (length c.lengths + 3 + i) % 2001) -ℤ pos 1000
  -- no draw is 0, and each fits 32 bits
  pub states : (i : ℕ) → (0 < draw seed i) × (draw seed i < 2 ^ 32)

-- The tape of that campaign, and what the program `totals` makes of it.
pub record Exercised (seed : ℕ) (c : Campaign) (tape : List ℕ) : Type 0 where
  pub exercise : Exercise seed c
  -- a 41 for each length, the 42, each point "by command 56", the 45
  pub commands : tape ≡ each (λ d. 0x41 ∷ bytes 2 d) c.lengths ++ (0x42 ∷ c.p ∷ (each (λ v. 0x56 ∷ bytes 4 (of_z w32 v)) c.points ++ 0x45 ∷ []))
  -- "The tape's reading yields the drawn campaign"
  pub reading : campaign tape ≡ some c
  -- no line of the checking order refuses it
  pub taken : program_refusal tape ≡ 0
  -- and all of its 2^p boards are used
  pub used : power_used c.lengths c.p ≡ c.p
  -- "its totals satisfy the direct sums as any campaign's do": its report, whose groups have `totals` of `cube_spec`, each total the sum of all
  -- points that share its positions
  pub sums : printed tape ≡ joined (report (plan_for c) (read c.points) (steps (grid_of (plan_for c))))

-- ---- what is printed for an input: the tape of the seed that it asks for; or it asks for none, and "the generator then prints only the refusal line"
pub data Prints (input output : List ℕ) : Type 0 where
  tape : (seed : ℕ) → Asks input seed → (c : Campaign) → Exercised seed c output → Prints input output
  refusal : ((seed : ℕ) → Asks input seed → ⊥) → output ≡ text "refused 22\n" → Prints input output
