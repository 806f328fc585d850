-- The controller's planning on small byte lists that are none of P1 to P10, and each refusal in its order.
use mathlib.Core.Path.{◌≡◌, refl}
use mathlib.Core.List.{[], ◌∷◌}
use lib.ListN.{replicate}
use Rattle.cube_spec.specs.Checks.{gives, refuses}
use Rattle.controller.specs.Computing.{computing}
use Rattle.controller.specs.Bytes.{asking, controller_refusal, written}

-- lengths 2, 5 and p 1: axes 1, 0 with exponents 1, 0; lengths 3, 3, 3 and p 2; lengths 258 and 300 spelled in two bytes each, p 3;
-- lengths 5, 2 and p 6, of which 3 is used
plans : (written (2 ∷ 0 ∷ 5 ∷ 0 ∷ []) 1 (replicate 4 9) ≡ (1 ∷ 0 ∷ 1 ∷ 0 ∷ []))
    × (written (3 ∷ 0 ∷ 3 ∷ 0 ∷ 3 ∷ 0 ∷ []) 2 (replicate 6 9) ≡ (0 ∷ 1 ∷ 2 ∷ 1 ∷ 1 ∷ 0 ∷ []))
    × (written (2 ∷ 1 ∷ 44 ∷ 1 ∷ []) 3 (replicate 4 9) ≡ (1 ∷ 0 ∷ 2 ∷ 1 ∷ []))
    × (written (5 ∷ 0 ∷ 2 ∷ 0 ∷ []) 6 (replicate 4 9) ≡ (0 ∷ 1 ∷ 2 ∷ 1 ∷ []))
unfolding computing
plans = (refl, refl, refl, refl)

-- no byte; an odd number; nine axes; a length of 0; too many points; p over 10; a result slice too short for a p past the room, too short, too long; none, also for a p past the room
refused : (controller_refusal [] 0 0 ≡ 3)
    × (controller_refusal (2 ∷ 0 ∷ 3 ∷ []) 0 2 ≡ 3)
    × (controller_refusal (replicate 18 1) 0 18 ≡ 3)
    × (controller_refusal (2 ∷ 0 ∷ 0 ∷ 0 ∷ []) 200 4 ≡ 4)
    × (controller_refusal (0 ∷ 8 ∷ 1 ∷ 32 ∷ []) 11 4 ≡ 5)
    × (controller_refusal (2 ∷ 0 ∷ []) 11 0 ≡ 6)
    × (controller_refusal (5 ∷ 0 ∷ 2 ∷ 0 ∷ []) 4 0 ≡ 13)
    × (controller_refusal (5 ∷ 0 ∷ 2 ∷ 0 ∷ []) 2 3 ≡ 13)
    × (controller_refusal (5 ∷ 0 ∷ 2 ∷ 0 ∷ []) 2 5 ≡ 13)
    × (controller_refusal (5 ∷ 0 ∷ 2 ∷ 0 ∷ []) 2 4 ≡ 0)
    × (controller_refusal (5 ∷ 0 ∷ 2 ∷ 0 ∷ []) 4 4 ≡ 0)
    × (controller_refusal (0 ∷ 8 ∷ 0 ∷ 32 ∷ []) 0 4 ≡ 0)
unfolding computing
refused = (refl, refl, refl, refl, refl, refl, refl, refl, refl, refl, refl, refl)

-- a refusal leaves the result slice as it was
left : (written (2 ∷ 0 ∷ 3 ∷ []) 1 (7 ∷ 8 ∷ []) ≡ (7 ∷ 8 ∷ [])) × (written (5 ∷ 0 ∷ 2 ∷ 0 ∷ []) 2 (7 ∷ 8 ∷ 9 ∷ []) ≡ (7 ∷ 8 ∷ 9 ∷ []))
unfolding computing
left = (refl, refl)

-- what is asked for: all boards in use, 8 of 64, and a refusal
asks : (asking (2 ∷ 0 ∷ 5 ∷ 0 ∷ []) 1 ≡ gives (record { used = 1; idle = 0; lengths = 2 ∷ 5 ∷ replicate 6 0 }))
    × (asking (5 ∷ 0 ∷ 2 ∷ 0 ∷ []) 6 ≡ gives (record { used = 3; idle = 56; lengths = 5 ∷ 2 ∷ replicate 6 0 }))
    × (asking (5 ∷ 0 ∷ 2 ∷ 0 ∷ []) 11 ≡ refuses 6)
unfolding computing
asks = (refl, refl, refl)
