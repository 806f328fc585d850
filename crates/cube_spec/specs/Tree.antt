-- The aggregation tree of a plan, and the sums over it. Axes go by their place in the plan, and there are n of them.
-- A choice is given by its summed-out set Y, the list of the places of its summed axes with the last one first.
use Rattle.std.specs.Prelude.{ℕ, zero, suc, ◌+◌, ◌-◌, ◌*◌, ◌^◌, Bool, false, ◌||◌, List, [], ◌∷◌, eqb}
use Rattle.cube_spec.specs.Boxes.{pick, sum_n, product}

-- is the axis at place d summed out?
unfoldable pub has : List ℕ → ℕ → Bool
has [] d = false
has (j ∷ Y) d = eqb d j || has Y d

-- "the choice with summed-out set Y has one child for each axis later in the plan than every axis of Y, namely that axis summed out too"
-- The first place that is later, and the choice of which a set is a child.
abbrev pub next : List ℕ → ℕ
next [] = 0
next (j ∷ Y) = suc j

abbrev pub parent_of : List ℕ → List ℕ
parent_of [] = []
parent_of (j ∷ Y) = Y

-- the last summed axis
abbrev pub last_of : List ℕ → ℕ
last_of [] = 0
last_of (j ∷ Y) = j

-- "Children stand left to right in plan order": the m children d, d + 1, .. of Y, and all children of Y
unfoldable pub children_from : ℕ → ℕ → List ℕ → List (List ℕ)
children_from zero d Y = []
children_from (suc m) d Y = (d ∷ Y) ∷ children_from m (d + 1) Y

unfoldable pub children : ℕ → List ℕ → List (List ℕ)
children n Y = children_from (n - next Y) (next Y) Y

-- a box with extent 1 on each summed axis
unfoldable pub kept : List ℕ → (ℕ → ℕ) → (ℕ → ℕ)
kept Y e d = pick (has Y d) 1 (e d)

-- the cells of the choice Y, of axes as long as `len` tells
unfoldable pub choice_cells : ℕ → (ℕ → ℕ) → List ℕ → ℕ
choice_cells n len Y = product (kept Y len) n 0

-- ---- "the sum over every non-empty set Y of summed axes"

-- The sum of F over every set that is Y with at least one of the m places from d on: d is kept, or summed as the last of them, or summed with later ones.
unfoldable pub over_sets_from : (List ℕ → ℕ) → ℕ → ℕ → List ℕ → ℕ
over_sets_from F zero d Y = 0
over_sets_from F (suc m) d Y = over_sets_from F m (d + 1) Y + (F (d ∷ Y) + over_sets_from F m (d + 1) (d ∷ Y))

abbrev pub over_sets : ℕ → (List ℕ → ℕ) → ℕ
over_sets n F = over_sets_from F n 0 []

-- what one cell of a choice moves, if its last summed axis has exponent k
unfoldable pub sent : ℕ → ℕ
sent k = 2 ^ k - 1

-- "Values moved: the sum over every non-empty set Y of summed axes of (cells of its choice) × (2^k − 1), with k that of the last axis of Y"
unfoldable pub moved : ℕ → (ℕ → ℕ) → (ℕ → ℕ) → ℕ
moved n len exp = over_sets n (λ Y. choice_cells n len Y * sent (exp (last_of Y)))

-- "Cells added up: the sum over the same sets of the cells of the parent."
unfoldable pub added : ℕ → (ℕ → ℕ) → ℕ
added n len = over_sets n (λ Y. choice_cells n len (parent_of Y))

-- "Weight of axis i: the product of (Dj + 1) for j before i and of Dj for j after i."
unfoldable pub weight : ℕ → (ℕ → ℕ) → ℕ → ℕ
weight n len i = product (λ j. len j + 1) i 0 * product len (n - suc i) (suc i)

-- "the sum of weight × (2^k − 1)"
unfoldable pub weighted : ℕ → (ℕ → ℕ) → (ℕ → ℕ) → ℕ
weighted n len exp = sum_n n (λ i. weight n len i * sent (exp i))

-- "A is the sum over axes i of the product over j ≠ i of ceil(Dj/2^kj)", `most` telling these; "region i of that product's size", "n regions in plan order"
unfoldable pub region_size : ℕ → (ℕ → ℕ) → ℕ → ℕ
region_size n most i = choice_cells n most (i ∷ [])

unfoldable pub region_start : ℕ → (ℕ → ℕ) → ℕ → ℕ
region_start n most i = sum_n i (region_size n most)

unfoldable pub share_size : ℕ → (ℕ → ℕ) → ℕ
share_size n most = region_start n most n

-- the sum of the exponents over Y
unfoldable pub sum_over : List ℕ → (ℕ → ℕ) → ℕ
sum_over [] exp = 0
sum_over (j ∷ Y) exp = exp j + sum_over Y exp

-- "T is 2^(n−1) expansions, 2^n − 1 finishes, and for each non-empty Y, (2^k − 1) × 2^(p − s) transfers, with k that of the last axis of Y and s the sum of the exponents over Y"
unfoldable pub step_count : ℕ → (ℕ → ℕ) → ℕ → ℕ
step_count n exp p = 2 ^ (n - 1) + (2 ^ n - 1) + over_sets n (λ Y. sent (exp (last_of Y)) * 2 ^ (p - sum_over Y exp))
