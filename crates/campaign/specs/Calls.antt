-- Planning, idle boards, step and view as a caller in C gets them: the answers, and all that is left in what it lends.
use Rattle.std.specs.Prelude.{ℕ, zero, suc, Bool, ◌||◌, not, List, [], ◌∷◌, ◌++◌, eqb, length, get_or, ℤ}
use Rattle.cube_spec.specs.Checks.{check, first}
use Rattle.plan_spec.specs.declared.types.Plan.{Plan}
use Rattle.plan_spec.specs.declared.types.Prices.{Prices}
use Rattle.plan_spec.specs.declared.types.Planned.{Planned}
use Rattle.plan_spec.specs.Rule.{plan_within, idle_boards}
use Rattle.plan_spec.specs.Refusals.{planning_checks}
use Rattle.plan_spec.specs.Answers.{planned_of}
use Rattle.rack_spec.specs.Finding.{plan_grid}
use Rattle.run_spec.specs.Entries.{Outcome, step_checks, stepping, view_checks}
use Rattle.run_view.specs.declared.types.Part.{Part}
use Rattle.run_view.specs.Places.{part_of}
use Rattle.controller.specs.Bytes.{pairs, asked_checks}
use Rattle.campaign_slices.specs.Lent.{lent_refusal, written_or}
use Rattle.campaign_slices.specs.Racks.{plan_from, bytes_of, cells_told, cells_priced}

-- ---- planning: lengths, p, two slices for the plan and one for its prices and the idle boards

-- 13, for any of the three
unfoldable pub wrong_slices : ℕ → ℕ → ℕ → Bool
wrong_slices small slots cells = not (eqb small 18) || (not (eqb slots 8) || not (eqb cells 4))

unfoldable pub make_refusal : List ℕ → ℕ → ℕ → ℕ → ℕ → ℕ
make_refusal ds p small slots cells = first (planning_checks ds p ++ (check 13 (wrong_slices small slots cells) ∷ []))

-- what a call leaves
pub record Made : Type 0 where
  pub answer : ℕ
  pub small : List ℕ
  pub slots : List ℕ
  pub cells : List ℕ

abbrev pub made : ℕ → List ℕ → List ℕ → List ℕ → Made
made n small slots cells = record { answer = n; small = small; slots = slots; cells = cells }

-- the planner's plan, its prices and the idle boards, or all as it was
unfoldable pub made_or : ℕ → Planned → List ℕ → List ℕ → List ℕ → Made
made_or zero a small slots cells = made 0 (bytes_of a.plan) a.plan.lengths (cells_priced a.prices a.idle)
made_or (suc n) a small slots cells = made (suc n) small slots cells

unfoldable pub making : List ℕ → ℕ → List ℕ → List ℕ → List ℕ → Made
making ds p small slots cells =
    made_or (make_refusal ds p (length small) (length slots) (length cells)) (planned_of (idle_boards ds p) (plan_within ds p)) small slots cells

-- what a caller reads back from the three slices that planning filled
unfoldable pub read_back : List ℕ → List ℕ → List ℕ → Planned
read_back small slots cells =
    let prices : Prices = record { moved = get_or cells 0 0; added = get_or cells 1 0; share = get_or cells 2 0 } in
    record { plan = plan_from small slots; prices = prices; idle = get_or cells 3 0 }

-- ---- the idle boards, for a controller that plans over bytes: lengths as pairs, p, and a slice of one cell

unfoldable pub idle_refusal : List ℕ → ℕ → ℕ → ℕ
idle_refusal bytes p lent = lent_refusal (asked_checks bytes p) 1 lent

-- the lent slice afterwards: "how many of the boards asked for stand idle", or as it was on a refusal
unfoldable pub idling : List ℕ → ℕ → List ℕ → List ℕ
idling bytes p idle = written_or (idle_refusal bytes p (length idle)) (idle_boards (pairs bytes) p ∷ []) idle

-- ---- step: a plan, an array, a work area, a position, and a slice for what is told

unfoldable pub run_refusal : Plan → ℕ → ℕ → ℕ → ℕ → ℕ
run_refusal q array work at lent = lent_refusal (step_checks q array work at) 5 lent

pub record Ran : Type 0 where
  pub answer : ℕ
  pub work : List ℤ
  pub position : ℕ
  pub step : List ℕ

abbrev pub ran : ℕ → List ℤ → ℕ → List ℕ → Ran
ran n w at step = record { answer = n; work = w; position = at; step = step }

-- the step's own outcome, told in five cells; or all as it was
unfoldable pub ran_or : ℕ → Outcome → List ℤ → ℕ → List ℕ → Ran
ran_or zero o work at step = ran 0 o.work o.position (cells_told o.says)
ran_or (suc n) o work at step = ran (suc n) work at step

unfoldable pub running : Plan → List ℤ → List ℤ → ℕ → List ℕ → Ran
running q array work at step =
    ran_or (run_refusal q (length array) (length work) at (length step)) (stepping q array work at) work at step

-- ---- viewing: a plan, a work area of so many cells, a position, a board, and a slice for the part's place

abbrev pub cells_part : Part → List ℕ
cells_part s = s.start ∷ s.cells ∷ []

unfoldable pub part_refusal : Plan → ℕ → ℕ → ℕ → ℕ → ℕ
part_refusal q work at b lent = lent_refusal (view_checks q work at b) 2 lent

-- the lent slice afterwards: where the part starts and how many cells it has, or as it was on a refusal
unfoldable pub parting : Plan → ℕ → ℕ → ℕ → List ℕ → List ℕ
parting q work at b part = written_or (part_refusal q work at b (length part)) (cells_part (part_of (plan_grid q) at b)) part
