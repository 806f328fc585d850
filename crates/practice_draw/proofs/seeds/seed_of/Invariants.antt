-- `seed_of` reads digit by digit. The invariant: at most ten bytes are passed, all digits, whose value is below 10^i, and what the rest makes
-- of them is the answer for the whole input.
use Rattle.std.proofs.Common.{◌≡◌, ◌^◌, ◌<◌, ◌≤◌, drop}
use Rattle.practice_spec.specs.Seeds.{digit_limit}
use Rattle.practice_spec.specs.inner.Judged.{seeded}
use Rattle.practice_spec.proofs.Reading.{left_over}
use Rattle.practice_draw.proofs.seeds.seed_of.Given as goal

abbrev pub invariant-loop-i : goal.invariant-loop-i
invariant-loop-i l = (l.i ≤ digit_limit) × (l.value < 10 ^ l.i) × (seeded l.input ≡ left_over l.i l.value (drop l.i l.input))
