-- Where a report stands.
use Rattle.std.specs.Prelude.{ℕ, ◌+◌, ◌^◌, ◌≤◌, ◌<◌, ◌≡◌, List, ℤ, Result, Ok, Err, IfOk}
use Rattle.cube_spec.specs.Refusals.{reply_of}
use Rattle.cube_spec.specs.declared.refusals.Refusal.{Refusal}
use Rattle.plan_spec.specs.Plans.{slotted}
use Rattle.plan_spec.specs.declared.types.Plan.{Plan}
use Rattle.plan_spec.specs.declared.types.Planned.{Planned}
use Rattle.tape_spec.specs.Tapes.{Campaign, campaign}
use Rattle.tape_spec.specs.Reading.{or_empty}
use Rattle.report_spec.specs.Printed.{plan_for}
use Rattle.totals_check.specs.Judging.{judging}
use Rattle.totals_group.specs.Grouped.{Ready, groups_before}

-- the campaign of a tape
abbrev pub campaign_of : List ℕ → Campaign
campaign_of tape = or_empty (campaign tape)

-- a run of the tape's campaign after k lines are handed out: the plan's line, one for each axis, the groups, the end
pub record Running (tape : List ℕ) (q : Plan) (k : ℕ) (points work : List ℤ) (at : ℕ) : Type 0 where
  pub plan : q ≡ slotted (plan_for (campaign_of tape))
  pub loaded : points ≡ (campaign_of tape).points
  pub ready : Ready q points work at
  pub early : k ≤ q.axes → groups_before q points at ≡ 0
  pub later : q.axes < k → k ≤ q.axes + 2 ^ q.axes → 1 + q.axes + groups_before q points at ≡ k

-- what the program knows of a tape after k lines
pub record Stands (tape : List ℕ) (judged : Result Planned Refusal) (k : ℕ) (points work : List ℤ) (at : ℕ) : Type 0 where
  pub judgement : reply_of judged ≡ judging tape
  pub running : IfOk judged (λ planned. Running tape planned.plan k points work at)

-- after k lines a group comes next: its line alone takes steps
abbrev pub Grouping : Result Planned Refusal → ℕ → Type 0
Grouping (Ok planned) k = (planned.plan.axes < k) × (k < planned.plan.axes + 2 ^ planned.plan.axes)
Grouping (Err refusal) k = ⊥
