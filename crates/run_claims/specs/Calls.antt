-- Calls of step in a list, and what demand 3 says of each of them.
use Rattle.std.specs.Prelude.{ℕ, ◌+◌, ◌≤◌, ◌<◌, ◌≡◌, List, [], ◌∷◌, length, ℤ}
use Rattle.std.proofs.Math.Option.{some}
use Rattle.std.proofs.Math.ListN.{get_elem?}
use Rattle.cube_spec.specs.Checks.{Reply, gives}
use Rattle.plan_spec.specs.Plans.{step_count, lists_of}
use Rattle.plan_spec.specs.declared.types.Plan.{Plan}
use Rattle.rack_spec.specs.Finding.{plan_grid, summed_in}
use Rattle.rack_spec.specs.Steps.{steps}
use Rattle.rack_spec.specs.Grids as Grids
use Rattle.rack_spec.specs.Answers.{Told, expands, transfers, finishes, done, refused, told_at, reported_by}
use Rattle.run_spec.specs.Entries.{step_refusal, stepping}

-- one call: the array and the work area that it is lent, the position before it, its answer, and the work area and the position after it
pub record Call : Type 0 where
  pub array : List ℤ
  pub work : List ℤ
  pub from : ℕ
  pub answer : Told
  pub left : List ℤ
  pub to : ℕ

-- A list of calls has the newest first. The position that it reached, and the values that its answers report.
unfoldable pub reached : List Call → ℕ
reached [] = 0
reached (c ∷ l) = c.to

unfoldable pub reported : List Call → ℕ
reported [] = 0
reported (c ∷ l) = reported_by c.answer + reported l

-- "any other takes exactly the next step": it answers the step of the list at its position, which then is one more, and leaves the work area as that step does
abbrev pub Next : Plan → List ℤ → List ℤ → ℕ → List ℤ → ℕ → Told → Type 0
Next q array work at work' at' t =
    (at < step_count (lists_of q)) × (t ≡ told_at (plan_grid q) (steps (plan_grid q)) at) × (at' ≡ at + 1) × (work' ≡ (stepping q array work at).work)

-- "A refused call, and one that answers done, moves nothing and leaves the position; any other takes exactly the next step, and done is answered at T only": from position
-- at over an array and a work area, to another work area and position. "That number is the count of the sender's cells of the child": so of a transfer.
abbrev pub AnsweredWith : Plan → List ℤ → List ℤ → ℕ → List ℤ → ℕ → Told → Type 0
AnsweredWith q array work at work' at' (refused k) =
    (k ≡ step_refusal q (length array) (length work) at) × (k ≡ 0 → ⊥) × (work' ≡ work) × (at' ≡ at)
AnsweredWith q array work at work' at' done =
    (step_refusal q (length array) (length work) at ≡ 0) × (at ≡ step_count (lists_of q)) × (work' ≡ work) × (at' ≡ at)
AnsweredWith q array work at work' at' (expands m) =
    (step_refusal q (length array) (length work) at ≡ 0) × Next q array work at work' at' (expands m)
AnsweredWith q array work at work' at' (finishes m) =
    (step_refusal q (length array) (length work) at ≡ 0) × Next q array work at work' at' (finishes m)
AnsweredWith q array work at work' at' (transfers s r m v) =
    (step_refusal q (length array) (length work) at ≡ 0) × Next q array work at work' at' (transfers s r m v) × (v ≡ Grids.cells (plan_grid q) (summed_in q m) s)

abbrev pub Answered : Plan → Call → Type 0
Answered q c = AnsweredWith q c.array c.work c.from c.left c.to c.answer

-- "What demand 3 says of steps is a single claim about the whole list of calls, and not one for each call.": of the calls on the plan q, whose values
-- moved are `moved`
pub record StepsClaim (q : Plan) (moved : ℕ) (calls : List Call) : Type 0 where
  -- no call passes T;
  pub within : reached calls ≤ step_count (lists_of q)
  -- what the transfers report adds up to at most the values moved,
  pub at_most : reported calls ≤ moved
  -- and to exactly that once the position is T: "The last step is taken when the position is T.";
  pub exactly : reached calls ≡ step_count (lists_of q) → reported calls ≡ moved
  -- and every call of the list is refused where a refusal is due, or answers done at T, and both leave memory and position; or it takes exactly the next step, on memory
  -- and position, and a transfer reports the sender's cells.
  pub each : (k : ℕ) (c : Call) → get_elem? calls k ≡ some c → Answered q c

-- two replies of held that both give a number, the first at most the second
pub record Holds (first second : Reply ℕ) : Type 0 where
  pub here : ℕ
  pub there : ℕ
  pub gives_here : first ≡ gives here
  pub gives_there : second ≡ gives there
  pub at_most : here ≤ there
