-- The seed as the code hands it on, and how long a tape can be.
use Rattle.std.specs.Prelude.{ℕ, List}
use Rattle.cube_spec.specs.Checks.{Reply, answered}
use Rattle.practice_spec.specs.Seeds.{seed_of, practice_refusal}

-- the seed that bytes ask for, or 22
unfoldable pub seeded : List ℕ → Reply ℕ
seeded bytes = answered (practice_refusal bytes) (seed_of bytes)

-- four axes of 9 have 6,561 points, and their tape 3 × 4 + 2 + 5 × 6,561 + 1 bytes
abbrev pub longest_tape : ℕ
longest_tape = 32820
