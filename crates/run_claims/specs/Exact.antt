-- Demand 2 over the calls of step, view and gather: what a run starts from, and where it is after any number of calls.
use Rattle.std.specs.Prelude.{ℕ, ◌+◌, ◌≤◌, ◌≡◌, List, [], ◌∷◌, eqb, length, take, ℤ}
use Rattle.cube_spec.specs.Boxes.{pick}
use Rattle.plan_spec.specs.declared.types.Plan.{Plan}
use Rattle.rack_spec.specs.Finding.{plan_grid}
use Rattle.rack_spec.specs.Steps.{steps, times_finished}
use Rattle.rack_spec.specs.Answers.{Told, expands, transfers, finishes, done, refused}
use Rattle.run_spec.specs.Memory.{ran}
use Rattle.run_spec.specs.Entries.{step_refusal}
use Rattle.run_spec.specs.Taking.{told_before}

-- "Any lawful plan can be priced and run.": what a run starts from, a plan, an array and a work area that step accepts at position 0. That a plan's
-- arrays have eight slots is what their types say.
pub record Begins (q : Plan) (array work₀ : List ℤ) : Type 0 where
  pub lengths : length q.lengths ≡ 8
  pub order : length q.order ≡ 8
  pub exponents : length q.exponents ≡ 8
  pub accepted : step_refusal q (length array) (length work₀) 0 ≡ 0

-- "finish: nothing moves; the choice may now be gathered": how often answers finish a mask
abbrev pub finishes_once : ℕ → Told → ℕ
finishes_once mask (expands m) = 0
finishes_once mask (transfers s r m n) = 0
finishes_once mask (finishes m) = pick (eqb m mask) 1 0
finishes_once mask done = 0
finishes_once mask (refused n) = 0

unfoldable pub times_said : ℕ → List Told → ℕ
times_said mask [] = 0
times_said mask (t ∷ l) = finishes_once mask t + times_said mask l

-- "A position counts steps taken; at T the answer is done.": where a run is. As many steps as calls have been taken, or all of them; the answers told
-- them, the newest the last one.
pub record Reached (q : Plan) (array work₀ : List ℤ) (at : ℕ) (w : List ℤ) (l : List Told) : Type 0 where
  pub within : at ≤ length (steps (plan_grid q))
  pub there : w ≡ ran (plan_grid q) array (take at (steps (plan_grid q))) work₀
  pub said : (mask : ℕ) → times_said mask l ≡ times_finished (plan_grid q) mask (take at (steps (plan_grid q)))
  pub paced : length l ≤ length (steps (plan_grid q)) → at ≡ length l
  pub ends : length (steps (plan_grid q)) ≤ length l → at ≡ length (steps (plan_grid q))
  pub newest : (mask : ℕ) (r : List Told) → l ≡ finishes mask ∷ r → finishes mask ≡ told_before (plan_grid q) at
  pub stops : (r : List Told) → l ≡ done ∷ r → at ≡ length (steps (plan_grid q))
