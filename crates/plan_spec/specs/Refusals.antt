-- The checks that concern lengths, p and plans, and the refusals of planning and pricing.
use Rattle.std.specs.Prelude.{ℕ, zero, suc, ◌^◌, Bool, true, false, ◌&&◌, ◌||◌, not, List, [], ◌∷◌, ◌++◌, eqb, ltb, leb, length, get_or, drop}
use Rattle.cube_spec.specs.Limits.{axis_limit, length_limit, point_limit, power_limit}
use Rattle.cube_spec.specs.Choices.{points, length_of}
use Rattle.cube_spec.specs.Ways.{sum_list}
use Rattle.cube_spec.specs.Checks.{Check, check, first}
use Rattle.plan_spec.specs.declared.types.Plan.{Plan}
use Rattle.plan_spec.specs.Plans.{PlanLists, count, lists_of}

-- does f hold of every number below n? And of some element of l?
unfoldable pub all : ℕ → (ℕ → Bool) → Bool
all zero f = true
all (suc n) f = all n f && f n

unfoldable pub some : (ℕ → Bool) → List ℕ → Bool
some f [] = false
some f (x ∷ l) = f x || some f l

-- ---- the tests, each under its line of the list

-- 3. "There are no axes, more than 8, .."
unfoldable pub bad_axes : ℕ → Bool
bad_axes n = eqb n 0 || ltb axis_limit n

-- 4. "An axis length is 0 or over 65,535."
unfoldable pub bad_length : ℕ → Bool
bad_length d = eqb d 0 || ltb length_limit d

-- 5. "The product of the lengths exceeds 16,777,216."
unfoldable pub too_many_points : List ℕ → Bool
too_many_points ds = ltb point_limit (points ds)

-- 6. "p is over 10."
unfoldable pub too_many_boards : ℕ → Bool
too_many_boards p = ltb power_limit p

-- 7. "When planning, p exceeds the sum of floor(log2 length)." Retired by request 7/12: no entry gives it.

-- 8. "The order does not name each axis once, or a slot past the last axis is not zero."
unfoldable pub names_each : ℕ → List ℕ → Bool
names_each n order = all n (λ a. eqb (count a order) 1)

unfoldable pub slots_used : ℕ → List ℕ → Bool
slots_used n slots = some (λ x. not (eqb x 0)) (drop n slots)

unfoldable pub bad_order : Plan → Bool
bad_order q =
    not (names_each q.axes (lists_of q).order) || (slots_used q.axes q.lengths || (slots_used q.axes q.order || slots_used q.axes q.exponents))

-- 9. "Some 2^k exceeds its axis length, or the exponents do not sum to p."
unfoldable pub bad_exponents : PlanLists → Bool
bad_exponents a =
    not (all (length a.lengths) (λ d. leb (2 ^ get_or a.exponents d 0) (length_of a.lengths d))) || not (eqb (sum_list a.exponents) a.p)

-- ---- the lists

-- 3 to 5, for n axes of the lengths ds
unfoldable pub length_checks : ℕ → List ℕ → List Check
length_checks n ds = check 3 (bad_axes n) ∷ check 4 (some bad_length ds) ∷ check 5 (too_many_points ds) ∷ []

-- planning: 3 to 6
unfoldable pub planning_checks : List ℕ → ℕ → List Check
planning_checks ds p = length_checks (length ds) ds ++ (check 6 (too_many_boards p) ∷ [])

-- a plan that is lent: 3 to 6, 8, 9
unfoldable pub plan_checks : Plan → List Check
plan_checks q =
    length_checks q.axes (lists_of q).lengths ++ (check 6 (too_many_boards q.p) ∷ check 8 (bad_order q) ∷ check 9 (bad_exponents (lists_of q)) ∷ [])

-- ---- the refusals of the entries

unfoldable pub planning_refusal : List ℕ → ℕ → ℕ
planning_refusal ds p = first (planning_checks ds p)

-- of pricing, and of every entry that takes nothing but a plan
unfoldable pub plan_refusal : Plan → ℕ
plan_refusal q = first (plan_checks q)
