-- What the program's calls of next_line, one after the other, start from.
use Rattle.std.specs.Prelude.{ℕ, ◌≡◌, List, ℤ, length, Result, IfOk}
use Rattle.cube_spec.specs.Refusals.{reply_of}
use Rattle.cube_spec.specs.declared.refusals.Refusal.{Refusal}
use Rattle.plan_spec.specs.declared.types.Planned.{Planned}
use Rattle.totals_check.specs.Judging.{judging}
use Rattle.totals_line.specs.Standing.{campaign_of}
use Rattle.totals_group.specs.Grouped.{Small}

-- "The program reads a tape on standard input, plans and runs.": what a run starts from, the judgement of a tape, the points of its campaign where it
-- is taken, and a work area of 8,192 cells that hold anything. That a point is at most 2^31 in size is what its type says.
pub record Begins (tape : List ℕ) (judged : Result Planned Refusal) (points work₀ : List ℤ) : Type 0 where
  pub judgement : reply_of judged ≡ judging tape
  pub loaded : IfOk judged (λ planned. points ≡ (campaign_of tape).points)
  pub small : Small points
  pub room : length work₀ ≡ 8192
