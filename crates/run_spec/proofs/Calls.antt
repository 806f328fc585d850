-- Calls of step, view and gather on lengths 3, 5 with p 1: each refusal in its order, and what a call leaves.
use Prim.Native.Nat.{ℕ}
use mathlib.Core.Path.{◌≡◌, refl}
use mathlib.Core.List.{List, [], ◌∷◌}
use lib.ListN.{replicate}
use lib.IntN.{ℤ, pos, negsuc}
use Rattle.plan_spec.specs.declared.types.Plan.{Plan}
use Rattle.rack_spec.specs.Answers.{expands, transfers, finishes, done, refused}
use Rattle.run_spec.specs.Computing.{computing}
use Rattle.run_spec.specs.Entries.{outcome, step_refusal, stepping, view_refusal, viewing, gather_refusal, gathering}

-- T is 6, the array has 15 points, a share 6 cells, the work area 12; board 0 has three positions of axis 1, board 1 two
plan : ℕ → Plan
plan p = record { axes = 2; lengths = 3 ∷ 5 ∷ replicate 6 0; order = 1 ∷ 0 ∷ replicate 6 0; exponents = 0 ∷ 1 ∷ replicate 6 0; p = p }

array : List ℤ
array =
    pos 1 ∷ negsuc 1 ∷ pos 3 ∷ pos 4 ∷ pos 5
    ∷ negsuc 5 ∷ pos 7 ∷ negsuc 7 ∷ pos 9 ∷ pos 10
    ∷ pos 11 ∷ pos 12 ∷ negsuc 12 ∷ pos 14 ∷ negsuc 15 ∷ []

-- as after the first step: board 0's share has three cells of choice 1 and of choice 2, board 1's has three, two and one that no step writes
work : List ℤ
work =
    pos 2 ∷ negsuc 6 ∷ pos 10 ∷ pos 6 ∷ pos 17 ∷ negsuc 17
    ∷ pos 9 ∷ pos 19 ∷ negsuc 1 ∷ pos 27 ∷ negsuc 0 ∷ pos 13 ∷ []

-- what the first step leaves of cells that held 77, and the third of `work`
formed : List ℤ
formed =
    pos 2 ∷ negsuc 6 ∷ pos 10 ∷ pos 6 ∷ pos 17 ∷ negsuc 17
    ∷ pos 9 ∷ pos 19 ∷ negsuc 1 ∷ pos 27 ∷ negsuc 0 ∷ pos 77 ∷ pos 77 ∷ []

added : List ℤ
added =
    pos 11 ∷ pos 12 ∷ pos 8 ∷ pos 6 ∷ pos 17 ∷ negsuc 17
    ∷ pos 9 ∷ pos 19 ∷ negsuc 1 ∷ pos 27 ∷ negsuc 0 ∷ pos 13 ∷ []

-- the points, the work area and the position are judged in this order, after the plan
steps_refused : (step_refusal (plan 2) 14 11 7 ≡ 9)
    × (step_refusal (plan 1) 14 11 7 ≡ 10)
    × (step_refusal (plan 1) 16 12 0 ≡ 10)
    × (step_refusal (plan 1) 15 11 7 ≡ 11)
    × (step_refusal (plan 1) 15 12 7 ≡ 12)
    × (step_refusal (plan 1) 15 12 6 ≡ 0)
unfolding computing plan
steps_refused = (refl, refl, refl, refl, refl, refl)

-- the first step forms every child, the third adds board 1's cells to board 0's; at T nothing is left to do; past T the call is refused
steps_taken : (stepping (plan 1) array (replicate 13 (pos 77)) 0 ≡ outcome (expands 3) formed 1)
    × (stepping (plan 1) array work 1 ≡ outcome (finishes 2) work 2)
    × (stepping (plan 1) array work 2 ≡ outcome (transfers 1 0 1 3) added 3)
    × (stepping (plan 1) array work 6 ≡ outcome done work 6)
    × (stepping (plan 1) array work 7 ≡ outcome (refused 12) work 7)
unfolding computing plan array work formed added
steps_taken = (refl, refl, refl, refl, refl)

-- a view follows a finish and names a board; board 1 is no lead of the choices that sum out axis 1
views : (view_refusal (plan 1) 11 7 2 ≡ 11)
    × (view_refusal (plan 1) 12 7 0 ≡ 12)
    × (view_refusal (plan 1) 12 0 0 ≡ 12)
    × (view_refusal (plan 1) 12 3 0 ≡ 12)
    × (view_refusal (plan 1) 12 2 2 ≡ 12)
    × (view_refusal (plan 1) 12 2 1 ≡ 0)
    × (view_refusal (plan 1) 12 6 1 ≡ 0)
    × (viewing (plan 1) work 2 0 ≡ (pos 6 ∷ pos 17 ∷ negsuc 17 ∷ []))
    × (viewing (plan 1) work 2 1 ≡ (pos 27 ∷ negsuc 0 ∷ []))
    × (viewing (plan 1) work 6 0 ≡ (pos 2 ∷ negsuc 6 ∷ pos 10 ∷ []))
    × (viewing (plan 1) work 6 1 ≡ [])
    × (viewing (plan 1) work 3 0 ≡ [])
unfolding computing plan work
views = (refl, refl, refl, refl, refl, refl, refl, refl, refl, refl, refl, refl)

gathers : (gather_refusal (plan 1) 11 2 6 ≡ 11)
    × (gather_refusal (plan 1) 12 1 6 ≡ 12)
    × (gather_refusal (plan 1) 12 2 6 ≡ 13)
    × (gather_refusal (plan 1) 12 2 5 ≡ 0)
    × (gathering (plan 1) work 2 (replicate 5 (pos 9)) ≡ (pos 6 ∷ pos 17 ∷ negsuc 17 ∷ pos 27 ∷ negsuc 0 ∷ []))
    × (gathering (plan 1) work 5 (replicate 1 (pos 9)) ≡ (pos 6 ∷ []))
    × (gathering (plan 1) work 2 (replicate 6 (pos 9)) ≡ replicate 6 (pos 9))
unfolding computing plan work
gathers = (refl, refl, refl, refl, refl, refl, refl)
