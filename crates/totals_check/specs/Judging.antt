-- What the program makes of a tape before it runs: the planner's plan with its prices and the idle boards, or the refusal and nothing beside it.
use Rattle.std.specs.Prelude.{ℕ, List}
use Rattle.cube_spec.specs.Checks.{Reply, answered}
use Rattle.plan_spec.specs.Rule.{idle_boards}
use Rattle.plan_spec.specs.Answers.{planned_of}
use Rattle.plan_spec.specs.declared.types.Planned.{Planned}
use Rattle.tape_spec.specs.Tapes.{campaign}
use Rattle.tape_spec.specs.Reading.{or_empty}
use Rattle.report_spec.specs.Printed.{plan_for, program_refusal}

unfoldable pub judging : List ℕ → Reply Planned
judging tape =
    let c = or_empty (campaign tape) in
    answered (program_refusal tape) (planned_of (idle_boards c.lengths c.p) (plan_for c))
