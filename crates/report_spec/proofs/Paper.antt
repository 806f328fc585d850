-- "P1 to P10 are proved in one table, by one fact about the definitions": the table is `cases`, the fact `table_holds`.
-- What the paper leaves out of a plan comes from `compare plan`.
use Prim.Native.Nat.{ℕ, zero, suc}
use mathlib.Core.Path.{◌≡◌, refl}
use mathlib.Core.List.{List, [], ◌∷◌}
use lib.ListN.{replicate}
use lib.IntN.{ℤ, pos, negsuc}
use Rattle.cube_spec.specs.Choices.{totals}
use Rattle.cube_spec.specs.Checks.{Reply, gives, refuses}
use Rattle.plan_spec.specs.declared.types.Marked.{Marked}
use Rattle.plan_spec.specs.Plans as Plans
use Rattle.plan_spec.specs.Plans.{slotted}
use Rattle.plan_spec.specs.Answers.{pricing}
use Rattle.plan_spec.specs.Rule.{order, ordered_exponents, plan_within, idle_boards}
use Rattle.plan_spec.specs.Refusals.{planning_refusal}
use Rattle.run_spec.specs.Memory.{read}
use Rattle.tape_spec.specs.Tapes.{campaign}
use Rattle.tape_spec.specs.Reading.{or_empty}
use Rattle.tape_spec.specs.Writing.{written}
use Rattle.report_spec.specs.Computing.{computing}
use Rattle.report_spec.specs.Text.{text}
use Rattle.report_spec.specs.Printed.{plan_for, printed}

pub data Question : Type 0 where
  -- the planner's plan for lengths and p
  planner : List ℕ → ℕ → Question
  -- values moved by a plan: lengths, order, exponents by axis, p
  plan : List ℕ → List ℕ → List ℕ → ℕ → Question
  -- the totals of a choice: lengths, points, mask
  sums : List ℕ → List ℤ → ℕ → Question
  -- the bytes of a tape: lengths, p, points
  tape : List ℕ → ℕ → List ℤ → Question
  -- what the program prints for a tape, and T of the plan it runs
  program : List ℕ → Question

pub data Answer : Type 0 where
  -- order, exponents in plan order, moved, added, A, T, idle boards
  planned : List ℕ → List ℕ → ℕ → ℕ → ℕ → ℕ → ℕ → Answer
  refused : ℕ → Answer
  moves : ℕ → Answer
  adds : List ℤ → Answer
  bytes : List ℕ → Answer
  -- the output, T
  prints : List ℕ → ℕ → Answer

unfoldable pub planned_or : ℕ → List ℕ → ℕ → Answer
planned_or zero ds p =
    let a = plan_within ds p in
    planned (order ds) (ordered_exponents ds a.p) (Plans.moved a) (Plans.added a) (Plans.share_size a) (Plans.step_count a) (idle_boards ds p)
planned_or (suc n) ds p = refused (suc n)

abbrev pub priced : Reply Marked → Answer
priced (gives c) = moves c.prices.moved
priced (refuses n) = refused n

unfoldable pub answer : Question → Answer
answer (planner ds p) = planned_or (planning_refusal ds p) ds p
answer (plan ds o ks p) = priced (pricing (slotted (record { lengths = ds; order = o; exponents = ks; p = p })))
answer (sums ds points mask) = adds (totals ds (read points) mask)
answer (tape ds p points) = bytes (written ds p points)
answer (program t) = prints (printed t) (Plans.step_count (plan_for (or_empty (campaign t))))

pub record Case : Type 0 where
  pub asked : Question
  pub due : Answer

abbrev pub case : Question → Answer → Case
case q a = record { asked = q; due = a }

-- "lengths 2, 3, p 1, points 1 −2 3 4 5 −6": the points, and the tape in bytes
unfoldable pub example : List ℤ
example = pos 1 ∷ negsuc 1 ∷ pos 3 ∷ pos 4 ∷ pos 5 ∷ negsuc 5 ∷ []

unfoldable pub example_tape : List ℕ
example_tape =
    0x41 ∷ 2 ∷ 0 ∷ 0x41 ∷ 3 ∷ 0 ∷ 0x42 ∷ 1
    ∷ 0x56 ∷ 1 ∷ 0 ∷ 0 ∷ 0 ∷ 0x56 ∷ 0xfe ∷ 0xff ∷ 0xff ∷ 0xff ∷ 0x56 ∷ 3 ∷ 0 ∷ 0 ∷ 0
    ∷ 0x56 ∷ 4 ∷ 0 ∷ 0 ∷ 0 ∷ 0x56 ∷ 5 ∷ 0 ∷ 0 ∷ 0 ∷ 0x56 ∷ 0xfa ∷ 0xff ∷ 0xff ∷ 0xff ∷ 0x45 ∷ []

-- "output whole"
unfoldable pub example_output : List ℕ
example_output = text "plan 2 1 2 14 4\ndim 1 3 1\ndim 0 2 0\ngroup 2 5 3 -3\ngroup 0 5\ngroup 1 2 3\nend 3\n"

unfoldable pub cases : List Case
cases =
    -- "P1: length 5, p 2: exponent 2, moved 3, added 5, A 1, T 5."
    case (planner (5 ∷ []) 2) (planned (0 ∷ []) (2 ∷ []) 3 5 1 5 0)
    -- "P2: the tape above; T 6.": the tape, its output, its plan, the totals of each group
    ∷ case (tape (2 ∷ 3 ∷ []) 1 example) (bytes example_tape)
    ∷ case (program example_tape) (prints example_output 6)
    ∷ case (planner (2 ∷ 3 ∷ []) 1) (planned (1 ∷ 0 ∷ []) (1 ∷ 0 ∷ []) 2 14 4 6 0)
    ∷ case (sums (2 ∷ 3 ∷ []) example 2) (adds (pos 5 ∷ pos 3 ∷ negsuc 2 ∷ []))
    ∷ case (sums (2 ∷ 3 ∷ []) example 0) (adds (pos 5 ∷ []))
    ∷ case (sums (2 ∷ 3 ∷ []) example 1) (adds (pos 2 ∷ pos 3 ∷ []))
    -- "P3: 5, 3, p 2: exponents 2, 0; moved 9 (1, 1 ties)."
    ∷ case (planner (5 ∷ 3 ∷ []) 2) (planned (0 ∷ 1 ∷ []) (2 ∷ 0 ∷ []) 9 33 5 8 0)
    ∷ case (plan (5 ∷ 3 ∷ []) (0 ∷ 1 ∷ []) (1 ∷ 1 ∷ []) 2) (moves 9)
    -- "P4: 3, 2, p 2: exponents 1, 1; moved 6."; p 3, by 7/12: "the second half of P4 becomes exponents 1, 1 with four boards idle"
    ∷ case (planner (3 ∷ 2 ∷ []) 2) (planned (0 ∷ 1 ∷ []) (1 ∷ 1 ∷ []) 6 14 3 10 0)
    ∷ case (planner (3 ∷ 2 ∷ []) 3) (planned (0 ∷ 1 ∷ []) (1 ∷ 1 ∷ []) 6 14 3 10 4)
    -- "P5: 2, 2, 2, p 2: 1, 1, 0 moves 10; 0, 1, 1 moves 15."
    ∷ case (planner (2 ∷ 2 ∷ 2 ∷ []) 2) (planned (0 ∷ 1 ∷ 2 ∷ []) (1 ∷ 1 ∷ 0 ∷ []) 10 38 5 16 0)
    ∷ case (plan (2 ∷ 2 ∷ 2 ∷ []) (0 ∷ 1 ∷ 2 ∷ []) (0 ∷ 1 ∷ 1 ∷ []) 2) (moves 15)
    -- "P6: axes 4 and 2 with exponents 0 and 1: order 0, 1 moves 5; order 1, 0 moves 4. The planner at p 1 moves 2."
    ∷ case (plan (4 ∷ 2 ∷ []) (0 ∷ 1 ∷ []) (0 ∷ 1 ∷ []) 1) (moves 5)
    ∷ case (plan (4 ∷ 2 ∷ []) (1 ∷ 0 ∷ []) (0 ∷ 1 ∷ []) 1) (moves 4)
    ∷ case (planner (4 ∷ 2 ∷ []) 1) (planned (0 ∷ 1 ∷ []) (1 ∷ 0 ∷ []) 2 18 4 6 0)
    -- "P7: length 1, p 0: moved 0, added 1."
    ∷ case (planner (1 ∷ []) 0) (planned (0 ∷ []) (0 ∷ []) 0 1 1 2 0)
    -- "P8: 3, 3, p 0: order 0, 1; added 21."
    ∷ case (planner (3 ∷ 3 ∷ []) 0) (planned (0 ∷ 1 ∷ []) (0 ∷ 0 ∷ []) 0 21 6 5 0)
    -- "P9: 4,096 and 4,096 pass; 4,096 and 4,097 give 5."
    ∷ case (planner (4096 ∷ 4096 ∷ []) 0) (planned (0 ∷ 1 ∷ []) (0 ∷ 0 ∷ []) 0 33558528 8192 5 0)
    ∷ case (planner (4096 ∷ 4097 ∷ []) 0) (refused 5)
    -- "P10: five points of −2,147,483,648 total −10,737,418,240."
    ∷ case (sums (5 ∷ []) (replicate 5 (negsuc 2147483647)) 0) (adds (negsuc 10737418239 ∷ []))
    ∷ []

unfoldable pub answers : List Case → List Answer
answers [] = []
answers (c ∷ r) = answer c.asked ∷ answers r

unfoldable pub dues : List Case → List Answer
dues [] = []
dues (c ∷ r) = c.due ∷ dues r

pub table_holds : answers cases ≡ dues cases
unfolding computing planned_or answer example example_tape example_output cases answers dues
table_holds = refl
