-- The entries that take memory: step, view and gather. Each one's refusal, answer, and all that it leaves.
use Rattle.std.specs.Prelude.{ℕ, zero, suc, ◌+◌, ◌*◌, Bool, true, false, ◌||◌, not, List, [], ◌∷◌, ◌++◌, eqb, ltb, length, ℤ}
use Rattle.std.proofs.Math.Option.{Option, none, some}
use Rattle.std.proofs.Math.ListN.{get_elem?}
use Rattle.cube_spec.specs.Choices.{points, cells}
use Rattle.cube_spec.specs.Checks.{Check, check, first}
use Rattle.plan_spec.specs.Plans.{PlanLists, share_size, board_count, lists_of}
use Rattle.plan_spec.specs.Refusals.{plan_checks}
use Rattle.plan_spec.specs.declared.types.Plan.{Plan}
use Rattle.rack_spec.specs.Grids.{Grid, grid_of, mask_of}
use Rattle.rack_spec.specs.Steps.{TreeStep, steps}
use Rattle.rack_spec.specs.Held.{finished_at}
use Rattle.rack_spec.specs.Answers.{Told, done, refused, telling, past_end, no_board}
use Rattle.run_spec.specs.Memory.{read, stepped}
use Rattle.run_spec.specs.Gather.{gathered, viewed}

-- ---- the checks that concern memory

-- 10. "The number of points is not the product of the lengths."
unfoldable pub bad_array : PlanLists → ℕ → Bool
bad_array a n = not (eqb n (points a.lengths))

-- 11. "The work area is under 2^p·A cells"
unfoldable pub work_cells : PlanLists → ℕ
work_cells a = board_count a * share_size a

unfoldable pub small_area : PlanLists → ℕ → Bool
small_area a n = ltb n (work_cells a)

-- 12. ".. or gathering or viewing does not follow a finish"
abbrev pub is_none : Option (List ℕ) → Bool
is_none none = true
is_none (some Y) = false

unfoldable pub no_finish : PlanLists → ℕ → Bool
no_finish a at = is_none (finished_at (grid_of a) at)

-- 13. "A lent result slice has the wrong length."
abbrev pub wrong_length : PlanLists → Option (List ℕ) → ℕ → Bool
wrong_length a none n = false
wrong_length a (some Y) n = not (eqb n (cells a.lengths (mask_of (grid_of a) Y)))

unfoldable pub wrong_result : PlanLists → ℕ → ℕ → Bool
wrong_result a at n = wrong_length a (finished_at (grid_of a) at) n

-- ---- step: a plan, an array, a work area, a position

unfoldable pub step_checks : Plan → ℕ → ℕ → ℕ → List Check
step_checks q array work at =
    let a = lists_of q in
    plan_checks q ++ (check 10 (bad_array a array) ∷ check 11 (small_area a work) ∷ check 12 (past_end a at) ∷ [])

-- what a call leaves: its answer, the work area and the position
pub record Outcome : Type 0 where
  pub says : Told
  pub work : List ℤ
  pub position : ℕ

abbrev pub outcome : Told → List ℤ → ℕ → Outcome
outcome t w at = record { says = t; work = w; position = at }

-- "any other takes exactly the next step, and done is answered at T only"
unfoldable pub taken : Grid → List ℤ → List ℤ → ℕ → Option TreeStep → Outcome
taken g array work at none = outcome done work at
taken g array work at (some m) = outcome (telling g m) (stepped g array m work) (at + 1)

-- "A refused call .. moves nothing and leaves the position"
unfoldable pub step_or : ℕ → Grid → List ℤ → List ℤ → ℕ → Outcome
step_or zero g array work at = taken g array work at (get_elem? (steps g) at)
step_or (suc n) g array work at = outcome (refused (suc n)) work at

unfoldable pub step_refusal : Plan → ℕ → ℕ → ℕ → ℕ
step_refusal q array work at = first (step_checks q array work at)

unfoldable pub stepping : Plan → List ℤ → List ℤ → ℕ → Outcome
stepping q array work at = step_or (step_refusal q (length array) (length work) at) (grid_of (lists_of q)) array work at

-- ---- viewing: a plan, a work area, a position, a board

unfoldable pub view_checks : Plan → ℕ → ℕ → ℕ → List Check
view_checks q work at b =
    let a = lists_of q in
    plan_checks q ++ (check 11 (small_area a work) ∷ check 12 (past_end a at || (no_finish a at || no_board a b)) ∷ [])

unfoldable pub view_refusal : Plan → ℕ → ℕ → ℕ → ℕ
view_refusal q work at b = first (view_checks q work at b)

abbrev pub view_of : Grid → Option (List ℕ) → ℕ → List ℤ → List ℤ
view_of g none b work = []
view_of g (some Y) b work = viewed g Y b work

unfoldable pub view_or : ℕ → Grid → List ℤ → ℕ → ℕ → List ℤ
view_or zero g work at b = view_of g (finished_at g at) b work
view_or (suc n) g work at b = []

-- the part, "which is empty on a refusal"
unfoldable pub viewing : Plan → List ℤ → ℕ → ℕ → List ℤ
viewing q work at b = view_or (view_refusal q (length work) at b) (grid_of (lists_of q)) work at b

-- ---- gathering: a plan, a work area, a position, a result slice

unfoldable pub gather_checks : Plan → ℕ → ℕ → ℕ → List Check
gather_checks q work at result =
    let a = lists_of q in
    plan_checks q ++ (check 11 (small_area a work) ∷ check 12 (past_end a at || no_finish a at) ∷ check 13 (wrong_result a at result) ∷ [])

unfoldable pub gather_refusal : Plan → ℕ → ℕ → ℕ → ℕ
gather_refusal q work at result = first (gather_checks q work at result)

abbrev pub gather_of : PlanLists → Option (List ℕ) → List ℤ → List ℤ → List ℤ
gather_of a none work result = result
gather_of a (some Y) work result = gathered a.lengths (grid_of a) Y (read work)

unfoldable pub gather_or : ℕ → PlanLists → List ℤ → ℕ → List ℤ → List ℤ
gather_or zero a work at result = gather_of a (finished_at (grid_of a) at) work result
gather_or (suc n) a work at result = result

-- the result slice afterwards, unchanged on a refusal
unfoldable pub gathering : Plan → List ℤ → ℕ → List ℤ → List ℤ
gathering q work at result = gather_or (gather_refusal q (length work) at (length result)) (lists_of q) work at result
