-- The definitions of this layer, computed on small campaigns that are none of P1 to P10; the numbers are those of compare/.
use Prim.Native.Nat.{ℕ, zero, suc, ◌-◌, ◌^◌, ◌<◌, ◌≤◌}
use mathlib.Core.Path.{◌≡◌, refl}
use mathlib.Core.Bool.{true, false}
use mathlib.Core.List.{List, [], ◌∷◌}
use native.Mathlib.Omega.{arith}
use lib.ListN.{length, get_or}
use lib.IntN.{ℤ, pos, negsuc}
use Rattle.cube_spec.specs.Computing.{computing}
use Rattle.cube_spec.specs.Limits.{padded}
use Rattle.cube_spec.specs.Bytes.{little}
use Rattle.cube_spec.specs.Boxes.{pick, table, product, place, position, put}
use Rattle.cube_spec.specs.Choices.{keeps, full_mask, without_mask, with_mask, grand_mask, cells, points, totals, sums, counts}
use Rattle.cube_spec.specs.Shots.{values, shots}
use Rattle.cube_spec.specs.Portions.{portion_extent, portion_start, ceiling}
use Rattle.cube_spec.specs.Tree.{has, children, over_sets, moved, added, weight, weighted, region_size, region_start, share_size, step_count}
use Rattle.cube_spec.specs.Ways.{Way, Division, moved_by, added_by, log2, room}
use Rattle.cube_spec.specs.Checks.{check, first, answered, gives, refuses}
use Rattle.cube_spec.proofs.Listed.{Cut, divided, tiled, longest, empty_ones}

abbrev at : List ℕ → ℕ → ℕ
at l i = get_or l i 0

-- ---- bytes

bytes : (little (2 ∷ 1 ∷ []) ≡ 258) × (little (0 ∷ 0 ∷ 0 ∷ 128 ∷ []) ≡ 2147483648) × (padded (7 ∷ 8 ∷ []) ≡ (7 ∷ 8 ∷ 0 ∷ 0 ∷ 0 ∷ 0 ∷ 0 ∷ 0 ∷ []))
unfolding computing
bytes = (refl, refl, refl)

-- ---- boxes: three axes of extents 2, 3 and 4

boxes : (product (at (2 ∷ 3 ∷ 4 ∷ [])) 3 0 ∷ place (at (2 ∷ 3 ∷ 4 ∷ [])) (at (1 ∷ 2 ∷ 3 ∷ [])) 3 0 ∷ place (at (2 ∷ 3 ∷ 4 ∷ [])) (put (at (1 ∷ 2 ∷ 3 ∷ [])) 1 0) 3 0 ∷ table 3 (position (at (2 ∷ 3 ∷ 4 ∷ [])) 3 0 17)) ≡ (24 ∷ 23 ∷ 15 ∷ 1 ∷ 1 ∷ 1 ∷ [])
unfolding computing
boxes = refl

-- ---- choices of three axes

kept_axes : (table 4 (keeps 5) ≡ true ∷ false ∷ true ∷ false ∷ [])
    × (full_mask 3 ≡ 7)
    × (without_mask 5 2 ≡ 1)
    × (without_mask 5 1 ≡ 5)
    × (with_mask 5 1 ≡ 7)
    × (with_mask 5 0 ≡ 5)
    × (cells (2 ∷ 3 ∷ []) grand_mask ≡ 1)
unfolding computing
kept_axes = (refl, refl, refl, refl, refl, refl, refl)

cells_of : (points (2 ∷ 3 ∷ 5 ∷ []) ≡ 30)
    × (table 8 (cells (2 ∷ 3 ∷ 5 ∷ [])) ≡ 1 ∷ 2 ∷ 3 ∷ 6 ∷ 5 ∷ 10 ∷ 15 ∷ 30 ∷ [])
unfolding computing
cells_of = (refl, refl)

-- lengths 3 and 2, points 4 −7 0 2 −1 9
array : ℕ → ℤ
array i = get_or (pos 4 ∷ negsuc 6 ∷ pos 0 ∷ pos 2 ∷ negsuc 0 ∷ pos 9 ∷ []) i (pos 0)

totals_of : table 3 (totals (3 ∷ 2 ∷ []) array) ≡ ((pos 7 ∷ []) ∷ (negsuc 2 ∷ pos 2 ∷ pos 8 ∷ []) ∷ (pos 3 ∷ pos 4 ∷ []) ∷ [])
unfolding computing array
totals_of = refl

-- the same lengths, points 4 · 0 2 −1 · of which two were never shot: sums, counts, and the points as either takes them
campaign : List ℤ
campaign = pos 4 ∷ negsuc 2147483647 ∷ pos 0 ∷ pos 2 ∷ negsuc 0 ∷ negsuc 2147483647 ∷ []

shot_of_lem : (table 3 (sums (3 ∷ 2 ∷ []) (λ i. get_or campaign i (pos 0))) ≡ ((pos 5 ∷ []) ∷ (pos 4 ∷ pos 2 ∷ negsuc 0 ∷ []) ∷ (pos 3 ∷ pos 2 ∷ []) ∷ []))
    × (table 3 (counts (3 ∷ 2 ∷ []) (λ i. get_or campaign i (pos 0))) ≡ ((pos 4 ∷ []) ∷ (pos 1 ∷ pos 2 ∷ pos 1 ∷ []) ∷ (pos 3 ∷ pos 1 ∷ []) ∷ []))
    × (values campaign ≡ pos 4 ∷ pos 0 ∷ pos 0 ∷ pos 2 ∷ negsuc 0 ∷ pos 0 ∷ [])
    × (shots campaign ≡ pos 1 ∷ pos 0 ∷ pos 1 ∷ pos 1 ∷ pos 1 ∷ pos 0 ∷ [])
    × (values (negsuc 2147483646 ∷ pos 2147483647 ∷ []) ≡ negsuc 2147483646 ∷ pos 2147483647 ∷ [])
    × (shots (negsuc 2147483646 ∷ pos 2147483647 ∷ []) ≡ pos 1 ∷ pos 1 ∷ [])
unfolding computing campaign
shot_of_lem = (refl, refl, refl, refl, refl, refl)

-- ---- portions: 5 in 2, and 7 in 4

portions : (table 3 (portion_start 5 2) ≡ 0 ∷ 3 ∷ 5 ∷ [])
    × (table 5 (portion_start 7 4) ≡ 0 ∷ 2 ∷ 4 ∷ 6 ∷ 7 ∷ [])
    × (ceiling 5 2 ≡ 3)
    × (ceiling 7 4 ≡ 2)
    × (ceiling 8 4 ≡ 2)
unfolding computing
portions = (refl, refl, refl, refl, refl)

-- the points of each portion of the axes that compare cuts, as the starts tell them and as the rule does
unfoldable starts_apart : List Cut → List (List ℕ)
starts_apart [] = []
starts_apart (c ∷ r) = (let m = length c.portions in table m (λ l. portion_start c.length m (suc l) - portion_start c.length m l)) ∷ starts_apart r

unfoldable by_rule : List Cut → List (List ℕ)
by_rule [] = []
by_rule (c ∷ r) = table (length c.portions) (portion_extent c.length (length c.portions)) ∷ by_rule r

unfoldable listed : List Cut → List (List ℕ)
listed [] = []
listed (c ∷ r) = c.portions ∷ listed r

cuts : (starts_apart divided ≡ listed divided)
    × (starts_apart tiled ≡ listed tiled)
    × (starts_apart longest ≡ listed longest)
    × (starts_apart empty_ones ≡ listed empty_ones)
    × (by_rule divided ≡ listed divided)
    × (by_rule tiled ≡ listed tiled)
    × (by_rule longest ≡ listed longest)
    × (by_rule empty_ones ≡ listed empty_ones)
unfolding computing starts_apart by_rule listed divided tiled longest empty_ones
cuts = (refl, refl, refl, refl, refl, refl, refl, refl)

-- ---- the tree

tree : (children 4 [] ≡ (0 ∷ []) ∷ (1 ∷ []) ∷ (2 ∷ []) ∷ (3 ∷ []) ∷ [])
    × (children 4 (1 ∷ []) ≡ (2 ∷ 1 ∷ []) ∷ (3 ∷ 1 ∷ []) ∷ [])
    × (children 4 (3 ∷ 1 ∷ []) ≡ [])
    × (over_sets 4 (λ Y. 1) ≡ 15)
    × (over_sets 3 (λ Y. pick (has Y 1) 1 0) ≡ 4)
unfolding computing
tree = (refl, refl, refl, refl, refl)

-- values moved, lengths and exponents in plan order: 3, 3, 2 with two divisions, 6 and 2 in both orders, and by weights
moves : (moved 3 (at (3 ∷ 3 ∷ 2 ∷ [])) (at (1 ∷ 1 ∷ 0 ∷ [])) ≡ 14)
    × (moved 3 (at (3 ∷ 3 ∷ 2 ∷ [])) (at (0 ∷ 1 ∷ 1 ∷ [])) ≡ 24)
    × (moved 2 (at (6 ∷ 2 ∷ [])) (at (0 ∷ 1 ∷ [])) ≡ 7)
    × (moved 2 (at (2 ∷ 6 ∷ [])) (at (1 ∷ 0 ∷ [])) ≡ 6)
    × (moved 2 (at (6 ∷ 2 ∷ [])) (at (1 ∷ 0 ∷ [])) ≡ 2)
    × (weighted 2 (at (6 ∷ 2 ∷ [])) (at (0 ∷ 1 ∷ [])) ≡ 7)
unfolding computing
moves = (refl, refl, refl, refl, refl, refl)

-- T of eight axes and 1,024 boards: the most of the planner's plans, and a lawful plan with more, the long axis last
most_steps : (step_count 8 (at (3 ∷ 1 ∷ 1 ∷ 1 ∷ 1 ∷ 1 ∷ 1 ∷ 1 ∷ [])) 10 ≡ 19810)
    × (step_count 8 (at (0 ∷ 0 ∷ 0 ∷ 0 ∷ 0 ∷ 0 ∷ 0 ∷ 10 ∷ [])) 10 ≡ 131327)
unfolding computing
most_steps = (refl, refl)

-- cells added up, weights, A and T: 7 and 4 with exponents 2 and 1, and 9 with exponent 3; regions of extents 5 and 7
prices : (added 2 (at (4 ∷ 3 ∷ [])) ≡ 27)
    × (added 2 (at (7 ∷ 4 ∷ [])) ≡ 60)
    × (table 2 (weight 2 (at (7 ∷ 4 ∷ []))) ≡ 4 ∷ 8 ∷ [])
    × (share_size 2 (at (2 ∷ 2 ∷ [])) ≡ 4)
    × (share_size 1 (at (2 ∷ [])) ≡ 1)
    × (region_size 2 (at (5 ∷ 7 ∷ [])) 0 ≡ 7)
    × (region_start 2 (at (5 ∷ 7 ∷ [])) 1 ≡ 7)
    × (step_count 2 (at (2 ∷ 1 ∷ [])) 3 ≡ 16)
    × (step_count 1 (at (3 ∷ [])) 3 ≡ 9)
unfolding computing
prices = (refl, refl, refl, refl, refl, refl, refl, refl, refl)

-- ---- a way with a division: axes 6 and 2, the parents of the order 0, 1 and of the order 1, 0

division : Division (6 ∷ 2 ∷ []) 1
division = record { exponents = 0 ∷ 1 ∷ []; each = refl; fits = fits; sums = unfold computing in refl }
  where
    fits : (d : ℕ) → d < 2 → 2 ^ get_or (0 ∷ 1 ∷ []) d 0 ≤ get_or (6 ∷ 2 ∷ []) d 0
    fits zero h = omega arith
    fits (suc zero) h = omega arith
    fits (suc (suc d)) h = absurd (omega arith)

-- the axis that the parent of each mask has more
way : (a b c : ℕ) → a < 2 → b < 2 → c < 2 → keeps 0 a ≡ false → keeps 1 b ≡ false → keeps 2 c ≡ false → Way 2
way a b c ha hb hc ka kb kc = record { axis = axis; within = within; summed = summed }
  where
    axis : ℕ → ℕ
    axis zero = a
    axis (suc zero) = b
    axis (suc (suc m)) = c

    within : (mask : ℕ) → mask < full_mask 2 → axis mask < 2
    within zero h = ha
    within (suc zero) h = hb
    within (suc (suc m)) h = hc

    summed : (mask : ℕ) → mask < full_mask 2 → keeps mask (axis mask) ≡ false
    summed zero h = ka
    summed (suc zero) h = kb
    summed (suc (suc zero)) h = kc
    summed (suc (suc (suc m))) h = absurd (let q : suc (suc (suc m)) < 3 = (unfold computing in h) in omega arith)

first_way : Way 2
first_way = way 1 1 0 (omega arith) (omega arith) (omega arith) (unfold computing in refl) (unfold computing in refl) (unfold computing in refl)

second_way : Way 2
second_way = way 0 1 0 (omega arith) (omega arith) (omega arith) (unfold computing in refl) (unfold computing in refl) (unfold computing in refl)

ways : (moved_by (6 ∷ 2 ∷ []) division first_way ≡ 7)
    × (moved_by (6 ∷ 2 ∷ []) division second_way ≡ 6)
    × (added_by (6 ∷ 2 ∷ []) first_way ≡ 26)
    × (added_by (6 ∷ 2 ∷ []) second_way ≡ 30)
unfolding computing division way first_way second_way
ways = (refl, refl, refl, refl)

rooms : (table 9 log2 ≡ 0 ∷ 0 ∷ 1 ∷ 1 ∷ 2 ∷ 2 ∷ 2 ∷ 2 ∷ 3 ∷ [])
    × (room (5 ∷ 3 ∷ 1 ∷ []) ≡ 3)
unfolding computing
rooms = (refl, refl)

-- ---- the first check that is due

checks : (first (check 3 false ∷ check 5 true ∷ check 4 true ∷ []) ≡ 5)
    × (first (check 3 false ∷ []) ≡ 0)
    × (answered {A = ℕ} 0 7 ≡ gives 7)
    × (answered {A = ℕ} 9 7 ≡ refuses 9)
unfolding computing
checks = (refl, refl, refl, refl)
