-- Prices, T, the step at a position and held as a caller in C gets them: the plan that two slices hold, the refusals, and the cells that are written.
use Rattle.std.specs.Prelude.{ℕ, Bool, ◌&&◌, List, [], ◌∷◌, ◌++◌, eqb, length, get_or, take, drop}
use Rattle.cube_spec.specs.Boxes.{pick}
use Rattle.cube_spec.specs.Checks.{Check, check}
use Rattle.plan_spec.specs.declared.types.Plan.{Plan}
use Rattle.plan_spec.specs.declared.types.Prices.{Prices}
use Rattle.plan_spec.specs.Plans.{step_count, lists_of, slotted}
use Rattle.plan_spec.specs.Refusals.{plan_checks}
use Rattle.plan_spec.specs.Answers.{marked_of}
use Rattle.rack_spec.specs.Steps.{steps}
use Rattle.rack_spec.specs.Held as Held
use Rattle.rack_spec.specs.Finding.{plan_grid}
use Rattle.rack_spec.specs.Answers.{Told, expands, transfers, finishes, done, refused, told_at, past_end, held_checks}
use Rattle.campaign_slices.specs.Lent.{lent_refusal, written_or}

-- ---- the plan

-- a plan of no axes, which check 3 refuses
unfoldable pub no_plan : Plan
no_plan = slotted (record { lengths = []; order = []; exponents = []; p = 0 })

-- the first slice has the axes, p, eight slots of the order and eight of the exponents, the second has eight lengths; slices of other lengths hold no plan
unfoldable pub plan_from : List ℕ → List ℕ → Plan
plan_from small lengths =
    pick
    (eqb (length small) 18 && eqb (length lengths) 8)
    (record { axes = get_or small 0 0; p = get_or small 1 0; lengths = lengths; order = take 8 (drop 2 small); exponents = take 8 (drop 10 small) })
    no_plan

-- and back: the first slice of a plan; its lengths are the second
unfoldable pub bytes_of : Plan → List ℕ
bytes_of q = q.axes ∷ q.p ∷ (q.order ++ q.exponents)

-- ---- the refusals

unfoldable pub count_refusal : Plan → ℕ → ℕ
count_refusal q lent = lent_refusal (plan_checks q) 1 lent

unfoldable pub price_refusal : Plan → ℕ → ℕ
price_refusal q lent = lent_refusal (plan_checks q) 4 lent

-- the step at a position: 3 to 6, 8, 9, and 12 for "The position is over T"
unfoldable pub at_checks : Plan → ℕ → List Check
at_checks q at = plan_checks q ++ (check 12 (past_end (lists_of q) at) ∷ [])

unfoldable pub at_refusal : Plan → ℕ → ℕ → ℕ
at_refusal q at lent = lent_refusal (at_checks q at) 5 lent

unfoldable pub hold_refusal : Plan → ℕ → ℕ → ℕ → ℕ
hold_refusal q at b lent = lent_refusal (held_checks q at b) 1 lent

-- ---- the cells

-- a step: its kind, the sender, the receiver, the choice's mask, the values
abbrev pub cells_told : Told → List ℕ
cells_told (expands m) = 1 ∷ 0 ∷ 0 ∷ m ∷ 0 ∷ []
cells_told (transfers s r m n) = 2 ∷ s ∷ r ∷ m ∷ n ∷ []
cells_told (finishes m) = 3 ∷ 0 ∷ 0 ∷ m ∷ 0 ∷ []
cells_told done = 4 ∷ 0 ∷ 0 ∷ 0 ∷ 0 ∷ []
-- never handed out: a refusal is the answer of a call, and no cell is written
cells_told (refused n) = 5 ∷ 0 ∷ 0 ∷ 0 ∷ n ∷ []

-- prices, the values moved, the cells added up and A, and what stands beside them: the idle boards of planning, the mark of pricing
abbrev pub cells_priced : Prices → ℕ → List ℕ
cells_priced c beside = c.moved ∷ c.added ∷ c.share ∷ beside ∷ []

-- 1 for yes, 0 for no
abbrev pub mark_cell : Bool → ℕ
mark_cell mark = pick mark 1 0

-- the lent slice afterwards: the cells, or as it was on a refusal
unfoldable pub priced : Plan → List ℕ → List ℕ
priced q out =
    let m = marked_of (lists_of q) in
    written_or (price_refusal q (length out)) (cells_priced m.prices (mark_cell m.fewest)) out

unfoldable pub counted : Plan → List ℕ → List ℕ
counted q out = written_or (count_refusal q (length out)) (step_count (lists_of q) ∷ []) out

unfoldable pub stepped_at : Plan → ℕ → List ℕ → List ℕ
stepped_at q at out = written_or (at_refusal q at (length out)) (cells_told (told_at (plan_grid q) (steps (plan_grid q)) at)) out

unfoldable pub held : Plan → ℕ → ℕ → List ℕ → List ℕ
held q at b out = written_or (hold_refusal q at b (length out)) (Held.held (plan_grid q) at b ∷ []) out
