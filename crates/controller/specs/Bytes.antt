-- The controller's planning, over bytes.
use Rattle.std.specs.Prelude.{ℕ, zero, suc, ◌*◌, ◌%◌, Bool, not, List, [], ◌∷◌, ◌++◌, eqb, length, get_or, take, drop}
use Rattle.cube_spec.specs.Limits.{padded}
use Rattle.cube_spec.specs.Bytes.{little}
use Rattle.cube_spec.specs.Boxes.{table}
use Rattle.cube_spec.specs.Ways.{sum_list}
use Rattle.cube_spec.specs.Checks.{Check, check, first, Reply, answered}
use Rattle.plan_spec.specs.Plans.{PlanLists, find}
use Rattle.plan_spec.specs.Rule.{order, ordered_exponents, power_used, idle_boards}
use Rattle.plan_spec.specs.Refusals.{planning_checks}
use Rattle.controller.specs.declared.types.Asked.{Asked}

-- "lengths as 2-byte little-endian pairs"
unfoldable pub pairs : List ℕ → List ℕ
pairs [] = []
pairs (a ∷ []) = []
pairs (a ∷ b ∷ r) = little (a ∷ b ∷ []) ∷ pairs r

-- 3. ".. or an odd number of length bytes."
unfoldable pub odd_bytes : List ℕ → Bool
odd_bytes bytes = eqb (length bytes % 2) 1

-- ---- what is asked for, by lengths and p

-- 3 to 6
unfoldable pub asked_checks : List ℕ → ℕ → List Check
asked_checks bytes p = check 3 (odd_bytes bytes) ∷ planning_checks (pairs bytes) p

unfoldable pub asked_refusal : List ℕ → ℕ → ℕ
asked_refusal bytes p = first (asked_checks bytes p)

-- the lengths in slots, the p used and the idle boards
abbrev pub asked_of : List ℕ → ℕ → Asked
asked_of ds p = record { used = power_used ds p; idle = idle_boards ds p; lengths = padded ds }

-- or the refusal, and nothing beside it
unfoldable pub asking : List ℕ → ℕ → Reply Asked
asking bytes p = answered (asked_refusal bytes p) (asked_of (pairs bytes) p)

-- ---- planning

-- 13. "a result slice of exactly 2n bytes (else 13)"
unfoldable pub wrong_result : List ℕ → ℕ → Bool
wrong_result ds n = not (eqb n (2 * length ds))

-- 3 to 6, 13
unfoldable pub controller_checks : List ℕ → ℕ → ℕ → List Check
controller_checks bytes p n = asked_checks bytes p ++ (check 13 (wrong_result (pairs bytes) n) ∷ [])

-- "gets 0 or a refusal"
unfoldable pub controller_refusal : List ℕ → ℕ → ℕ → ℕ
controller_refusal bytes p n = first (controller_checks bytes p n)

-- "n axis numbers and then n exponents, both in plan order, written one byte each"
unfoldable pub written_or : ℕ → List ℕ → ℕ → List ℕ → List ℕ
written_or zero ds p result = order ds ++ ordered_exponents ds (power_used ds p)
written_or (suc n) ds p result = result

-- the result slice afterwards, unchanged on a refusal
unfoldable pub written : List ℕ → ℕ → List ℕ → List ℕ
written bytes p result = written_or (controller_refusal bytes p (length result)) (pairs bytes) p result

-- the plan of the lengths ds that 2n bytes hold; "p .., the sum of the exponents", is the one used
unfoldable pub plan_in : List ℕ → List ℕ → PlanLists
plan_in ds bytes =
    let o = take (length ds) bytes in
    let along = drop (length ds) bytes in
    let ks = table (length ds) (λ a. get_or along (find a o) 0) in
    record { lengths = ds; order = o; exponents = ks; p = sum_list ks }
