-- The printed output of the program, as a function from the tape's bytes to the bytes printed.
use Rattle.std.specs.Prelude.{ℕ, zero, suc, ◌+◌, Bool, ◌||◌, List, [], ◌∷◌, ◌++◌, ltb, length, get_or, ℤ}
use Rattle.std.proofs.Math.Option.{Option}
use Rattle.cube_spec.specs.Limits.{program_limit}
use Rattle.cube_spec.specs.Choices.{totals}
use Rattle.cube_spec.specs.Checks.{Check, check, first}
use Rattle.plan_spec.specs.Plans.{PlanLists, axis_at, length_at, exponent_at, moved, added, share_size}
use Rattle.plan_spec.specs.Rule.{plan_within}
use Rattle.plan_spec.specs.Refusals.{planning_checks}
use Rattle.rack_spec.specs.Grids.{grid_of, mask_of}
use Rattle.rack_spec.specs.Steps.{TreeStep, expand, transfer, finish, steps}
use Rattle.run_spec.specs.Entries.{bad_array, work_cells}
use Rattle.run_spec.specs.Memory.{read}
use Rattle.tape_spec.specs.Tapes.{Campaign, campaign}
use Rattle.tape_spec.specs.Reading.{or_empty, scan_checks}
use Rattle.report_spec.specs.Text.{text, decimal, signed}

-- ---- the refusals of the program: 1, 2, then 14 or 15 by the first bad reading, 3 to 6, 10, 11

-- the planner's plan of a campaign: "The printed p is the one used."
abbrev pub plan_for : Campaign → PlanLists
plan_for c = plan_within c.lengths c.p

-- 11. "in the program either count passes 8,192": the points, and 2^p·A
unfoldable pub too_large : Campaign → Bool
too_large c = ltb program_limit (length c.points) || ltb program_limit (work_cells (plan_for c))

unfoldable pub program_checks : List ℕ → Option Campaign → List Check
program_checks tape o =
    let c = or_empty o in
    scan_checks tape ++ (planning_checks c.lengths c.p ++ (check 10 (bad_array (plan_for c) (length c.points)) ∷ check 11 (too_large c) ∷ []))

unfoldable pub program_refusal : List ℕ → ℕ
program_refusal tape = first (program_checks tape (campaign tape))

-- ---- lines: "One space parts two fields, a line feed ends every line"

unfoldable pub fields : List (List ℕ) → List ℕ
fields [] = text "\n"
fields (f ∷ r) = text " " ++ (f ++ fields r)

unfoldable pub numbers : List ℕ → List (List ℕ)
numbers [] = []
numbers (n ∷ r) = decimal n ∷ numbers r

unfoldable pub signeds : List ℤ → List (List ℕ)
signeds [] = []
signeds (z ∷ r) = signed z ∷ signeds r

-- "plan: axes, p, moved, added, A"
unfoldable pub plan_line : PlanLists → List ℕ
plan_line a = text "plan" ++ fields (numbers (length a.lengths ∷ a.p ∷ moved a ∷ added a ∷ share_size a ∷ []))

-- "dim: axis, length, exponent, in plan order": the m lines from place d on
unfoldable pub dim_line : PlanLists → ℕ → List ℕ
dim_line a d = text "dim" ++ fields (numbers (axis_at a d ∷ length_at a d ∷ exponent_at a d ∷ []))

unfoldable pub dim_lines : PlanLists → ℕ → ℕ → List (List ℕ)
dim_lines a zero d = []
dim_lines a (suc m) d = dim_line a d ∷ dim_lines a m (d + 1)

-- "group: mask, cells"
unfoldable pub group_line : List ℕ → (ℕ → ℤ) → ℕ → List ℕ
group_line ds array mask = text "group" ++ fields (decimal mask ∷ signeds (totals ds array mask))

-- "it prints only at finish steps and passes over the rest"
unfoldable pub group_lines : PlanLists → (ℕ → ℤ) → List TreeStep → List (List ℕ)
group_lines a array [] = []
group_lines a array (expand Y ∷ l) = group_lines a array l
group_lines a array (transfer Y s r n ∷ l) = group_lines a array l
group_lines a array (finish Y ∷ l) = group_line a.lengths array (mask_of (grid_of a) Y) ∷ group_lines a array l

-- "end: groups printed"
unfoldable pub end_line : ℕ → List ℕ
end_line n = text "end" ++ fields (decimal n ∷ [])

unfoldable pub refused_line : ℕ → List ℕ
refused_line n = text "refused" ++ fields (decimal n ∷ [])

-- the report, line by line: the plan, its axes, the groups, the end
unfoldable pub ended : List (List ℕ) → List (List ℕ)
ended groups = groups ++ (end_line (length groups) ∷ [])

unfoldable pub report : PlanLists → (ℕ → ℤ) → List TreeStep → List (List ℕ)
report a array l = plan_line a ∷ (dim_lines a (length a.lengths) 0 ++ ended (group_lines a array l))

-- "The program prints `refused N` and nothing else."
unfoldable pub report_or : ℕ → Campaign → List (List ℕ)
report_or zero c = let a = plan_for c in report a (read c.points) (steps (grid_of a))
report_or (suc n) c = refused_line (suc n) ∷ []

-- the lines printed for a tape, and the bytes: the lines one after the other
unfoldable pub printed_lines : List ℕ → List (List ℕ)
printed_lines tape = report_or (program_refusal tape) (or_empty (campaign tape))

-- line k, counted from 0; nothing past the last
unfoldable pub line_at : List ℕ → ℕ → List ℕ
line_at tape k = get_or (printed_lines tape) k []

unfoldable pub joined : List (List ℕ) → List ℕ
joined [] = []
joined (l ∷ r) = l ++ joined r

unfoldable pub printed : List ℕ → List ℕ
printed tape = joined (printed_lines tape)
