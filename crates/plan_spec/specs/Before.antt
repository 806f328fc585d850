-- What planning answered by paper 01 alone, to say what request 7/12 leaves unaltered.
use Rattle.std.specs.Prelude.{ℕ, List, [], ◌∷◌, ◌++◌, ltb}
use Rattle.cube_spec.specs.Ways.{room}
use Rattle.cube_spec.specs.Checks.{Reply, check, first, answered}
use Rattle.plan_spec.specs.declared.types.Planned.{Planned}
use Rattle.plan_spec.specs.Rule.{plan_of}
use Rattle.plan_spec.specs.Refusals.{planning_checks}
use Rattle.plan_spec.specs.Answers.{planned_of}

-- 3 to 6, and then 7. "When planning, p exceeds the sum of floor(log2 length)."
unfoldable pub refusal_before : List ℕ → ℕ → ℕ
refusal_before ds p = first (planning_checks ds p ++ (check 7 (ltb (room ds) p) ∷ []))

-- the rule's plan for the p asked for; no board stood idle
unfoldable pub planning_before : List ℕ → ℕ → Reply Planned
planning_before ds p = answered (refusal_before ds p) (planned_of 0 (plan_of ds p))
