-- What the step count and held answer, their refusals, and what a step tells.
use Rattle.std.specs.Prelude.{ℕ, Bool, ◌||◌, List, [], ◌∷◌, ◌++◌, ltb, leb, Result, Ok, Err}
use Rattle.std.proofs.Math.Option.{Option, none, some}
use Rattle.std.proofs.Math.ListN.{get_elem?}
use Rattle.cube_spec.specs.Checks.{Check, check, first, Reply, answered}
use Rattle.cube_spec.specs.Refusals.{number_of}
use Rattle.cube_spec.specs.declared.refusals.Refusal.{Refusal}
use Rattle.plan_spec.specs.Plans.{PlanLists, board_count, step_count, lists_of}
use Rattle.plan_spec.specs.Refusals.{plan_checks, plan_refusal}
use Rattle.plan_spec.specs.declared.types.Plan.{Plan}
use Rattle.rack_spec.specs.declared.types.Transfer.{Transfer}
use Rattle.rack_spec.specs.declared.types.Step.{Step}
use Rattle.rack_spec.specs.declared.types.Step.TheVariants as Step'
use Rattle.rack_spec.specs.Grids.{Grid, grid_of, mask_of}
use Rattle.rack_spec.specs.Steps.{TreeStep, expand, transfer, finish}
use Rattle.rack_spec.specs.Held as Held

-- ---- steps

-- what a call of step tells, in the paper's values: a choice by its mask
pub data Told : Type 0 where
  expands : ℕ → Told
  -- sender, receiver, choice, number of values
  transfers : ℕ → ℕ → ℕ → ℕ → Told
  finishes : ℕ → Told
  done : Told
  refused : ℕ → Told

abbrev pub told_of : Transfer → Told
told_of t = transfers t.sender t.receiver t.choice.mask t.values

abbrev pub told : Step → Told
told (Step'.Expand c) = expands c.mask
told (Step'.Transfer t) = told_of t
told (Step'.Finish c) = finishes c.mask
told Step'.Done = done

-- and of a call that may be refused, "its number alone"
abbrev pub told_by : Result Step Refusal → Told
told_by (Ok s) = told s
told_by (Err e) = refused (number_of e)

-- what is to be told of a step of the list
abbrev pub telling : Grid → TreeStep → Told
telling g (expand Y) = expands (mask_of g Y)
telling g (transfer Y s r n) = transfers s r (mask_of g Y) n
telling g (finish Y) = finishes (mask_of g Y)

abbrev pub telling_or : Grid → Option TreeStep → Told
telling_or g none = done
telling_or g (some m) = telling g m

-- and at a position of a list: done at its end and past it
unfoldable pub told_at : Grid → List TreeStep → ℕ → Told
told_at g l at = telling_or g (get_elem? l at)

-- the number of values that an answer reports
abbrev pub reported_by : Told → ℕ
reported_by (expands c) = 0
reported_by (transfers s r c n) = n
reported_by (finishes c) = 0
reported_by done = 0
reported_by (refused n) = 0

-- ---- the checks that concern positions and boards

-- 12. "The position is over T, .. or a named board is not below 2^p."
unfoldable pub past_end : PlanLists → ℕ → Bool
past_end a at = ltb (step_count a) at

unfoldable pub no_board : PlanLists → ℕ → Bool
no_board a b = leb (board_count a) b

unfoldable pub held_checks : Plan → ℕ → ℕ → List Check
held_checks q at b = plan_checks q ++ (check 12 (past_end (lists_of q) at || no_board (lists_of q) b) ∷ [])

unfoldable pub held_refusal : Plan → ℕ → ℕ → ℕ
held_refusal q at b = first (held_checks q at b)

-- ---- the answers

-- the number of cells that board b holds at a position, or the refusal
unfoldable pub holding : Plan → ℕ → ℕ → Reply ℕ
holding q at b = answered (held_refusal q at b) (Held.held (grid_of (lists_of q)) at b)

-- T, or the refusal
unfoldable pub counting : Plan → Reply ℕ
counting q = answered (plan_refusal q) (step_count (lists_of q))
