-- A plan in two slices, its steps, what its boards hold, a search over links, and each refusal in its order, computed on lengths 3, 5 with p 1.
use Prim.Native.Nat.{ℕ}
use mathlib.Core.Path.{◌≡◌, refl}
use mathlib.Core.List.{List, [], ◌∷◌, ◌++◌}
use lib.ListN.{replicate}
use Rattle.plan_spec.specs.declared.types.Plan.{Plan}
use Rattle.campaign_slices.specs.Computing.{computing}
use Rattle.campaign_slices.specs.Links.{lent_search_refusal, lent_search}
use Rattle.campaign_slices.specs.Racks.{plan_from, bytes_of, price_refusal, count_refusal, at_refusal, hold_refusal, priced, counted, stepped_at, held}

-- two axes, p, the order and the exponents in eight slots each; the lengths in eight slots
abbrev slots : ℕ → ℕ → List ℕ
slots a b = a ∷ b ∷ replicate 6 0

abbrev plan : ℕ → ℕ → List ℕ → List ℕ → List ℕ → Plan
plan axes p order exponents lengths = plan_from (axes ∷ p ∷ (order ++ exponents)) lengths

abbrev small : Plan
small = plan 2 1 (slots 1 0) (slots 0 1) (slots 3 5)

-- T; each step, and done at T; its prices and its mark, and those of the order that rises; the plan's bytes again; what the two boards hold after the first step and at the end
steps : (counted small (9 ∷ []) ≡ (6 ∷ []))
    × (stepped_at small 0 (replicate 5 9) ≡ (1 ∷ 0 ∷ 0 ∷ 3 ∷ 0 ∷ []))
    × (stepped_at small 1 (replicate 5 9) ≡ (3 ∷ 0 ∷ 0 ∷ 2 ∷ 0 ∷ []))
    × (stepped_at small 2 (replicate 5 9) ≡ (2 ∷ 1 ∷ 0 ∷ 1 ∷ 3 ∷ []))
    × (stepped_at small 3 (replicate 5 9) ≡ (1 ∷ 0 ∷ 0 ∷ 1 ∷ 0 ∷ []))
    × (stepped_at small 4 (replicate 5 9) ≡ (3 ∷ 0 ∷ 0 ∷ 0 ∷ 0 ∷ []))
    × (stepped_at small 5 (replicate 5 9) ≡ (3 ∷ 0 ∷ 0 ∷ 1 ∷ 0 ∷ []))
    × (stepped_at small 6 (replicate 5 9) ≡ (4 ∷ 0 ∷ 0 ∷ 0 ∷ 0 ∷ []))
    × (priced small (replicate 4 9) ≡ (3 ∷ 33 ∷ 6 ∷ 1 ∷ []))
    × (priced (plan 2 1 (slots 0 1) (slots 0 1) (slots 3 5)) (replicate 4 9) ≡ (4 ∷ 35 ∷ 6 ∷ 0 ∷ []))
    × (bytes_of small ≡ (2 ∷ 1 ∷ (slots 1 0 ++ slots 0 1)))
    × (held small 1 0 (9 ∷ []) ≡ (6 ∷ []))
    × (held small 1 1 (9 ∷ []) ≡ (5 ∷ []))
    × (held small 6 0 (9 ∷ []) ≡ (0 ∷ []))
unfolding computing
steps = (refl, refl, refl, refl, refl, refl, refl, refl, refl, refl, refl, refl, refl, refl)

-- a byte too few, a length too many; nine axes; a length of 0; too many points; p over 10; an axis named twice, a slot that is used; exponents that do
-- not sum to p; the position past T, the board past the last, both before the slice; a slice too long, too short; none
refused : (count_refusal (plan_from (replicate 17 1) (slots 2 3)) 1 ≡ 3)
    × (count_refusal (plan_from (2 ∷ 1 ∷ (slots 1 0 ++ slots 0 1)) (replicate 9 2)) 1 ≡ 3)
    × (at_refusal (plan 9 11 (slots 1 1) (slots 0 1) (slots 0 3)) 0 5 ≡ 3)
    × (at_refusal (plan 2 11 (slots 1 1) (slots 0 1) (slots 0 3)) 0 5 ≡ 4)
    × (at_refusal (plan 2 11 (slots 1 1) (slots 0 1) (slots 2048 8193)) 0 5 ≡ 5)
    × (at_refusal (plan 2 11 (slots 1 1) (slots 0 1) (slots 2 3)) 0 4 ≡ 6)
    × (at_refusal (plan 2 1 (slots 1 1) (slots 1 1) (slots 2 3)) 0 4 ≡ 8)
    × (at_refusal (plan 1 1 (slots 0 0) (slots 0 1) (slots 2 0)) 0 4 ≡ 8)
    × (hold_refusal (plan 2 1 (slots 1 0) (slots 1 1) (slots 2 3)) 7 2 2 ≡ 9)
    × (hold_refusal small 7 0 2 ≡ 12)
    × (hold_refusal small 6 2 2 ≡ 12)
    × (hold_refusal small 6 1 2 ≡ 13)
    × (at_refusal small 0 4 ≡ 13)
    × (count_refusal small 0 ≡ 13)
    × (price_refusal small 3 ≡ 13)
    × (price_refusal small 4 ≡ 0)
    × (at_refusal small 6 5 ≡ 0)
    × (at_refusal small 7 4 ≡ 12)
    × (count_refusal small 1 ≡ 0)
unfolding computing
refused = (refl, refl, refl, refl, refl, refl, refl, refl, refl, refl, refl, refl, refl, refl, refl, refl, refl, refl, refl)

-- a refusal leaves the lent slice as it was
left : (counted small (7 ∷ 8 ∷ []) ≡ (7 ∷ 8 ∷ [])) × (stepped_at small 0 (7 ∷ 8 ∷ []) ≡ (7 ∷ 8 ∷ [])) × (held small 7 0 (7 ∷ []) ≡ (7 ∷ []))
unfolding computing
left = (refl, refl, refl)

-- a search over links: p over 10, a budget of 0, a link too few, each before the slice; a slice too long, and left; the cells of the first division, and of both
links : (lent_search_refusal (3 ∷ 5 ∷ []) 11 (2 ∷ []) 0 12 ≡ 6)
    × (lent_search_refusal (3 ∷ 5 ∷ []) 1 (2 ∷ []) 0 12 ≡ 18)
    × (lent_search_refusal (3 ∷ 5 ∷ []) 1 (2 ∷ []) 1 12 ≡ 19)
    × (lent_search_refusal (3 ∷ 5 ∷ []) 1 (2 ∷ 9 ∷ []) 1 12 ≡ 13)
    × (lent_search (3 ∷ 5 ∷ []) 1 (2 ∷ 9 ∷ []) 1 (replicate 12 7) ≡ replicate 12 7)
    × (lent_search (3 ∷ 5 ∷ []) 1 (2 ∷ 9 ∷ []) 1 (replicate 11 7) ≡ (27 ∷ 21 ∷ 1 ∷ slots 0 1))
    × (lent_search (3 ∷ 5 ∷ []) 1 (2 ∷ 9 ∷ []) 2 (replicate 11 7) ≡ (10 ∷ 0 ∷ 2 ∷ slots 1 0))
unfolding computing
links = (refl, refl, refl, refl, refl, refl, refl)
