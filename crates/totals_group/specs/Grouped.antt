-- A run, and the groups that it prints.
use Rattle.std.specs.Prelude.{ℕ, ◌^◌, ◌≤◌, ◌≡◌, List, ◌∷◌, ◌++◌, length, take, ℤ, nat_abs}
use Rattle.cube_spec.specs.Choices as Choices
use Rattle.plan_spec.specs.Plans.{step_count, lists_of}
use Rattle.plan_spec.specs.Refusals.{plan_refusal}
use Rattle.plan_spec.specs.declared.types.Plan.{Plan}
use Rattle.rack_spec.specs.Finding.{plan_grid}
use Rattle.rack_spec.specs.Steps.{steps}
use Rattle.run_spec.specs.Entries.{work_cells, gathering}
use Rattle.run_spec.specs.Memory.{read, ran}
use Rattle.report_spec.specs.Text.{text, decimal}
use Rattle.report_spec.specs.Printed.{fields, signeds, group_lines}

-- what the type of a point says
abbrev pub Small : List ℤ → Type 0
Small points = (i : ℕ) → nat_abs (read points i) ≤ 2 ^ 31

-- a run after `at` steps, from a work area of any contents
pub record Ready (q : Plan) (points work : List ℤ) (at : ℕ) : Type 0 where
  pub passed : plan_refusal q ≡ 0
  pub all : Choices.points (lists_of q).lengths ≡ length points
  pub few : length points ≤ 8192
  pub area : work_cells (lists_of q) ≤ 8192
  pub small : Small points
  pub begun : List ℤ
  pub room : length begun ≡ 8192
  pub within : at ≤ step_count (lists_of q)
  pub there : work ≡ ran (plan_grid q) points (take at (steps (plan_grid q))) begun

-- the groups of a plan's report, and those that the first `at` steps print
unfoldable pub groups_of : Plan → List ℤ → List (List ℕ)
groups_of q points = group_lines (lists_of q) (read points) (steps (plan_grid q))

unfoldable pub groups_before : Plan → List ℤ → ℕ → ℕ
groups_before q points at = length (group_lines (lists_of q) (read points) (take at (steps (plan_grid q))))

-- a group's line from what is gathered
unfoldable pub group_text : Plan → List ℤ → ℕ → ℕ → List ℤ → List ℕ
group_text q work at mask cells = text "group" ++ fields (decimal mask ∷ signeds (gathering q work at cells))
