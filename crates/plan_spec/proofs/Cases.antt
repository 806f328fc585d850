-- Planning, pricing and every refusal on small campaigns that are none of P1 to P10 (report_spec has those); the numbers are those of compare/.
use Prim.Native.Nat.{ℕ}
use mathlib.Core.Path.{◌≡◌, refl}
use mathlib.Core.Bool.{Bool, true, false}
use mathlib.Core.List.{List, [], ◌∷◌}
use lib.ListN.{replicate}
use Rattle.cube_spec.specs.Checks.{Reply, gives, refuses}
use Rattle.plan_spec.specs.Computing.{computing}
use Rattle.plan_spec.specs.declared.types.Plan.{Plan}
use Rattle.plan_spec.specs.declared.types.Prices.{Prices}
use Rattle.plan_spec.specs.declared.types.Marked.{Marked}
use Rattle.plan_spec.specs.Plans.{slotted}
use Rattle.plan_spec.specs.Answers.{pricing, planning}
use Rattle.plan_spec.specs.Rule.{order, ordered_exponents, power_used, idle_boards}
use Rattle.plan_spec.specs.Refusals.{planning_refusal, plan_refusal}
use Rattle.plan_spec.proofs.Listed.{Row, one_axis, two_axes, three_axes, four_axes, not_strictly, not_by_axis_number, not_the_first_two, not_the_planners_alone, not_by_portions, eight_axes, divided_falling, divided_rising}

abbrev prices : ℕ → ℕ → ℕ → Prices
prices m a s = record { moved = m; added = a; share = s }

abbrev marked : ℕ → ℕ → ℕ → Bool → Marked
marked m a s f = record { prices = prices m a s; fewest = f }

abbrev lent : ℕ → List ℕ → List ℕ → List ℕ → ℕ → Plan
lent n ds o ks p = record { axes = n; lengths = ds; order = o; exponents = ks; p = p }

-- ---- the rule

-- longest first, equal lengths by lower number
orders : (order (4 ∷ 6 ∷ 4 ∷ []) ≡ 1 ∷ 0 ∷ 2 ∷ []) × (order (2 ∷ 7 ∷ 4 ∷ []) ≡ 1 ∷ 2 ∷ 0 ∷ [])
unfolding computing
orders = (refl, refl)

-- equal lengths; a raise doubles what the next one of that axis costs; the earlier axis takes a tie (4 × 2 and 8); no raise past the length
divisions : (ordered_exponents (3 ∷ 3 ∷ 3 ∷ []) 2 ≡ 1 ∷ 1 ∷ 0 ∷ [])
    × (ordered_exponents (16 ∷ 16 ∷ []) 2 ≡ 1 ∷ 1 ∷ [])
    × (ordered_exponents (7 ∷ 4 ∷ []) 2 ≡ 2 ∷ 0 ∷ [])
    × (ordered_exponents (2 ∷ 2 ∷ []) 2 ≡ 1 ∷ 1 ∷ [])
    × (ordered_exponents (4 ∷ 6 ∷ 4 ∷ []) 3 ≡ 2 ∷ 1 ∷ 0 ∷ [])
unfolding computing
divisions = (refl, refl, refl, refl, refl)

-- ---- the refusals, each in its order

-- none of the lengths; nine axes; a length of 0, of 65,536; too many points; p 11, whatever the room; p 2 and p 10 over the room, which are taken
planning_refused : (planning_refusal [] 11 ≡ 3)
    × (planning_refusal (replicate 9 0) 0 ≡ 3)
    × (planning_refusal (replicate 8 1) 0 ≡ 0)
    × (planning_refusal (65535 ∷ 65535 ∷ 0 ∷ []) 11 ≡ 4)
    × (planning_refusal (65536 ∷ 300 ∷ []) 0 ≡ 4)
    × (planning_refusal (65535 ∷ []) 10 ≡ 0)
    × (planning_refusal (2048 ∷ 8193 ∷ []) 11 ≡ 5)
    × (planning_refusal (2 ∷ []) 11 ≡ 6)
    × (planning_refusal (2 ∷ []) 2 ≡ 0)
    × (planning_refusal (1 ∷ []) 10 ≡ 0)
unfolding computing
planning_refused = (refl, refl, refl, refl, refl, refl, refl, refl, refl, refl)

-- two axes of 3 and 2: the slots past them are 0, unless a case says otherwise
abbrev two : ℕ → ℕ → ℕ → ℕ → ℕ → Plan
two o₁ o₂ k₁ k₂ p = lent 2 (3 ∷ 2 ∷ replicate 6 0) (o₁ ∷ o₂ ∷ replicate 6 0) (k₁ ∷ k₂ ∷ replicate 6 0) p

plan_refused : (plan_refusal (lent 0 (replicate 8 0) (replicate 8 0) (replicate 8 0) 0) ≡ 3)
    × (plan_refusal (lent 9 (replicate 8 1) (replicate 8 0) (replicate 8 255) 255) ≡ 3)
    × (plan_refusal (lent 2 (3 ∷ 0 ∷ replicate 6 9) (replicate 8 9) (replicate 8 9) 11) ≡ 4)
    × (plan_refusal (lent 2 (2048 ∷ 8193 ∷ replicate 6 9) (replicate 8 9) (replicate 8 9) 11) ≡ 5)
    × (plan_refusal (two 9 9 255 255 11) ≡ 6)
    × (plan_refusal (two 0 0 255 255 10) ≡ 8)
    × (plan_refusal (two 1 2 1 1 2) ≡ 8)
    × (plan_refusal (lent 2 (3 ∷ 2 ∷ 0 ∷ 0 ∷ 0 ∷ 0 ∷ 0 ∷ 7 ∷ []) (0 ∷ 1 ∷ replicate 6 0) (1 ∷ 1 ∷ replicate 6 0) 2) ≡ 8)
    × (plan_refusal (lent 2 (3 ∷ 2 ∷ replicate 6 0) (0 ∷ 1 ∷ 1 ∷ replicate 5 0) (1 ∷ 1 ∷ replicate 6 0) 2) ≡ 8)
    × (plan_refusal (lent 2 (3 ∷ 2 ∷ replicate 6 0) (0 ∷ 1 ∷ replicate 6 0) (1 ∷ 1 ∷ 1 ∷ replicate 5 0) 2) ≡ 8)
    × (plan_refusal (two 0 1 255 1 0) ≡ 9)
    × (plan_refusal (two 0 1 2 0 2) ≡ 9)
    × (plan_refusal (two 0 1 1 1 3) ≡ 9)
    × (plan_refusal (two 1 0 1 1 2) ≡ 0)
unfolding computing
plan_refused = (refl, refl, refl, refl, refl, refl, refl, refl, refl, refl, refl, refl, refl, refl)

-- ---- boards in use and idle: p below F, at F, past it by one and by six, and where F is 0

used : (power_used (7 ∷ 4 ∷ 3 ∷ []) 3 ≡ 3)
    × (power_used (7 ∷ 4 ∷ 3 ∷ []) 5 ≡ 5)
    × (power_used (7 ∷ 4 ∷ 3 ∷ []) 6 ≡ 5)
    × (power_used (3 ∷ []) 7 ≡ 1)
    × (power_used (1 ∷ 1 ∷ []) 10 ≡ 0)
unfolding computing
used = (refl, refl, refl, refl, refl)

idle : (idle_boards (7 ∷ 4 ∷ 3 ∷ []) 3 ≡ 0)
    × (idle_boards (7 ∷ 4 ∷ 3 ∷ []) 5 ≡ 0)
    × (idle_boards (7 ∷ 4 ∷ 3 ∷ []) 6 ≡ 32)
    × (idle_boards (3 ∷ []) 7 ≡ 126)
    × (idle_boards (1 ∷ 1 ∷ []) 10 ≡ 1023)
unfolding computing
idle = (refl, refl, refl, refl, refl)

-- ---- what planning answers, with its slots: all boards in use, a trainer's 64 boards of which 2 are, and a refusal;
-- what pricing answers for plans that are not the planner's

abbrev three : Plan
three = lent 3 (2 ∷ 7 ∷ 4 ∷ replicate 5 0) (1 ∷ 2 ∷ 0 ∷ replicate 5 0) (0 ∷ 2 ∷ 1 ∷ replicate 5 0) 3

abbrev one : Plan
one = lent 1 (2 ∷ replicate 7 0) (replicate 8 0) (1 ∷ replicate 7 0) 1

planned_cases : (planning (2 ∷ 7 ∷ 4 ∷ []) 3 ≡ gives (record { plan = three; prices = prices 40 200 12; idle = 0 }))
    × (planning (2 ∷ []) 6 ≡ gives (record { plan = one; prices = prices 1 2 1; idle = 62 }))
    × (planning (2 ∷ []) 11 ≡ refuses 6)
unfolding computing
planned_cases = (refl, refl, refl)

priced_cases : (pricing (lent 2 (6 ∷ 2 ∷ replicate 6 0) (0 ∷ 1 ∷ replicate 6 0) (0 ∷ 1 ∷ replicate 6 0) 1) ≡ gives (marked 7 26 7 true))
    × (pricing (lent 2 (6 ∷ 2 ∷ replicate 6 0) (1 ∷ 0 ∷ replicate 6 0) (0 ∷ 1 ∷ replicate 6 0) 1) ≡ gives (marked 6 30 7 false))
    × (pricing (lent 2 (6 ∷ 2 ∷ replicate 6 0) (1 ∷ 0 ∷ replicate 6 0) (0 ∷ 2 ∷ replicate 6 0) 2) ≡ refuses 9)
unfolding computing
priced_cases = (refl, refl, refl)

-- what pricing answers for the plans that compare/ lists, with their marks

unfoldable pub answered_all : List Row → List (Reply Marked)
answered_all [] = []
answered_all (r ∷ l) = pricing (slotted r.plan) ∷ answered_all l

unfoldable pub listed_all : List Row → List (Reply Marked)
listed_all [] = []
listed_all (r ∷ l) = gives (marked r.moved r.added r.share r.fewest) ∷ listed_all l

abbrev Same : List Row → Type 0
Same l = answered_all l ≡ listed_all l

listed_cases : Same one_axis
    × Same two_axes
    × Same three_axes
    × Same four_axes
    × Same not_strictly
    × Same not_by_axis_number
    × Same not_the_first_two
    × Same not_the_planners_alone
    × Same not_by_portions
    × Same eight_axes
    × Same divided_falling
    × Same divided_rising
unfolding computing answered_all listed_all one_axis two_axes three_axes four_axes not_strictly not_by_axis_number not_the_first_two not_the_planners_alone not_by_portions eight_axes divided_falling divided_rising
listed_cases = (refl, refl, refl, refl, refl, refl, refl, refl, refl, refl, refl, refl)
