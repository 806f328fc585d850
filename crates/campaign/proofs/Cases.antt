-- The calls from C on lengths 3, 5 with p 1: each refusal in its order, 13 last, and what is left.
use Prim.Native.Nat.{ℕ}
use mathlib.Core.Path.{◌≡◌, refl}
use mathlib.Core.List.{List, [], ◌∷◌, ◌++◌}
use lib.ListN.{replicate}
use lib.IntN.{pos}
use Rattle.plan_spec.specs.declared.types.Plan.{Plan}
use Rattle.campaign_slices.specs.Racks.{plan_from}
use Rattle.campaign.specs.Calls.{make_refusal, made, making, idle_refusal, idling, run_refusal, ran, running, part_refusal, parting}
use Rattle.campaign.specs.Computing.{computing}

abbrev slots : ℕ → ℕ → List ℕ
slots a b = a ∷ b ∷ replicate 6 0

abbrev bytes : List ℕ
bytes = 2 ∷ 1 ∷ (slots 1 0 ++ slots 0 1)

abbrev small : Plan
small = plan_from bytes (slots 3 5)

-- planning: p over 10 before the slices; each slice of another length; all boards in use, and 8 of 16
planned : (make_refusal (3 ∷ 5 ∷ []) 11 1 1 1 ≡ 6)
    × (make_refusal (3 ∷ 5 ∷ []) 1 17 8 4 ≡ 13)
    × (make_refusal (3 ∷ 5 ∷ []) 1 18 9 4 ≡ 13)
    × (make_refusal (3 ∷ 5 ∷ []) 1 18 8 3 ≡ 13)
    × (making (3 ∷ 5 ∷ []) 1 (replicate 18 9) (replicate 8 9) (replicate 4 9) ≡ made 0 bytes (slots 3 5) (3 ∷ 33 ∷ 6 ∷ 0 ∷ []))
    × (making (3 ∷ 5 ∷ []) 4 (replicate 18 9) (replicate 8 9) (replicate 4 9) ≡ made 0 (2 ∷ 3 ∷ (slots 1 0 ++ slots 1 2)) (slots 3 5) (15 ∷ 33 ∷ 4 ∷ 8 ∷ []))
    × (making (3 ∷ 5 ∷ []) 11 (7 ∷ []) (8 ∷ []) (9 ∷ []) ≡ made 6 (7 ∷ []) (8 ∷ []) (9 ∷ []))
unfolding computing
planned = (refl, refl, refl, refl, refl, refl, refl)

-- the idle boards of a controller: an odd number of bytes, p over 10, both before the slice; a slice too long; 8 of 16, none of 2
idle : (idle_refusal (3 ∷ 0 ∷ 5 ∷ []) 4 0 ≡ 3)
    × (idle_refusal (3 ∷ 0 ∷ 5 ∷ 0 ∷ []) 11 0 ≡ 6)
    × (idle_refusal (3 ∷ 0 ∷ 5 ∷ 0 ∷ []) 4 2 ≡ 13)
    × (idling (3 ∷ 0 ∷ 5 ∷ 0 ∷ []) 4 (9 ∷ 9 ∷ []) ≡ (9 ∷ 9 ∷ []))
    × (idling (3 ∷ 0 ∷ 5 ∷ 0 ∷ []) 4 (9 ∷ []) ≡ (8 ∷ []))
    × (idling (3 ∷ 0 ∷ 5 ∷ 0 ∷ []) 1 (9 ∷ []) ≡ (0 ∷ []))
unfolding computing
idle = (refl, refl, refl, refl, refl, refl)

-- step: no axes, a point too few, a cell too few, past T, the slice last; a refused step leaves memory, position and slice
stepped : (run_refusal (plan_from (replicate 18 0) (replicate 8 0)) 15 12 0 4 ≡ 3)
    × (run_refusal small 14 11 7 4 ≡ 10)
    × (run_refusal small 15 11 7 4 ≡ 11)
    × (run_refusal small 15 12 7 4 ≡ 12)
    × (run_refusal small 15 12 6 4 ≡ 13)
    × (run_refusal small 15 12 6 5 ≡ 0)
    × (running small (replicate 14 (pos 1)) (replicate 12 (pos 9)) 0 (replicate 5 7) ≡ ran 10 (replicate 12 (pos 9)) 0 (replicate 5 7))
    × (running small (replicate 15 (pos 1)) (replicate 12 (pos 9)) 6 (replicate 5 7) ≡ ran 0 (replicate 12 (pos 9)) 6 (4 ∷ 0 ∷ 0 ∷ 0 ∷ 0 ∷ []))
unfolding computing
stepped = (refl, refl, refl, refl, refl, refl, refl, refl)

-- view: a cell too few, no finish, no such board, the slice last; the two boards' parts of choice 2, and none of choice 0 on board 1
viewed : (part_refusal small 11 1 2 1 ≡ 11)
    × (part_refusal small 12 1 0 1 ≡ 12)
    × (part_refusal small 12 2 2 1 ≡ 12)
    × (part_refusal small 12 2 0 1 ≡ 13)
    × (parting small 12 2 0 (9 ∷ 9 ∷ []) ≡ (3 ∷ 3 ∷ []))
    × (parting small 12 2 1 (9 ∷ 9 ∷ []) ≡ (9 ∷ 2 ∷ []))
    × (parting small 12 5 1 (9 ∷ 9 ∷ []) ≡ (0 ∷ 0 ∷ []))
unfolding computing
viewed = (refl, refl, refl, refl, refl, refl, refl)
