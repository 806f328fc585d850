-- A part of demand 3's claim about a whole list of calls (run_claims states it over the calls themselves): by what the entry's definition answers and leaves.
use Prim.Native.Nat.{ℕ, zero, suc, ◌+◌, ◌≤◌, ◌<◌}
use mathlib.Core.Path.{◌≡◌, sym, ◌∙◌, refl, ap, ap₂}
use mathlib.Core.Bool.{Bool}
use mathlib.Core.Option.{Option, none, some}
use mathlib.Core.List.{List, [], ◌∷◌}
use native.Mathlib.Omega.{arith}
use borrow.Author.Tests.{ne_eqb}
use lib.Dec.{eqb}
use lib.ListN.{length, get_elem?}
use lib.IntN.{ℤ}
use Rattle.cube_spec.specs.Boxes.{pick}
use Rattle.plan_spec.specs.Plans.{Sound, moved, board_count, step_count, lists_of}
use Rattle.plan_spec.specs.declared.types.Plan.{Plan}
use Rattle.rack_spec.specs.Grids.{Grid, grid_of}
use Rattle.rack_spec.specs.Steps.{TreeStep, steps}
use Rattle.rack_spec.specs.Answers.{reported_by}
use Rattle.rack_spec.specs.Held.{held}
use Rattle.rack_spec.proofs.Claim as Claim
use Rattle.rack_spec.proofs.Claim.{answers, moves}
use Rattle.run_spec.specs.Entries.{Outcome, taken, step_or, step_refusal, stepping}

-- what a call is lent
pub record Lent : Type 0 where
  pub array : List ℤ
  pub work : List ℤ

-- "The first gets position 0, each later one the position as it stood after the call before": the position after the calls, and the values that their answers report
unfoldable pub reached : Plan → ℕ → List Lent → ℕ
reached q at [] = at
reached q at (c ∷ l) = reached q (stepping q c.array c.work at).position l

unfoldable pub reported : Plan → ℕ → List Lent → ℕ
reported q at [] = 0
reported q at (c ∷ l) = reported_by (stepping q c.array c.work at).says + reported q (stepping q c.array c.work at).position l

-- ---- one call: refused, or the step at its position

module _ (q : Plan) (c : Lent) (at : ℕ) where
  abbrev g : Grid
  g = grid_of (lists_of q)

  -- is the call accepted?
  pub accepts : Bool
  accepts = eqb (step_refusal q (length c.array) (length c.work) at) 0

  record Call (o : Outcome) (t : Bool) : Type 0 where
    goes : o.position ≡ pick t (moves at (get_elem? (steps g) at)) at
    tells : reported_by o.says ≡ pick t (reported_by (answers g (get_elem? (steps g) at))) 0

  call : Call (stepping q c.array c.work at) accepts
  unfolding stepping accepts
  call = go (step_refusal q (length c.array) (length c.work) at)
    where
      step : (o : Option TreeStep) → ((taken g c.array c.work at o).position ≡ moves at o) × (reported_by (taken g c.array c.work at o).says ≡ reported_by (answers g o))
      step none = unfold taken in (refl, refl)
      step (some m) = unfold taken in (refl, refl)

      go : (n : ℕ) → Call (step_or n g c.array c.work at) (eqb n 0)
      go zero = unfold step_or in (let s = step (get_elem? (steps g) at) in record { goes = s.0; tells = s.1 })
      go (suc n) = unfold step_or in rw (ne_eqb (suc n) 0 (λ z. omega arith)) (record { goes = refl; tells = refl })

-- the calls as accepted and refused ones
unfoldable pub accepted : Plan → ℕ → List Lent → List Bool
accepted q at [] = []
accepted q at (c ∷ l) = accepts q c at ∷ accepted q (stepping q c.array c.work at).position l

pub reached_so : (q : Plan) (at : ℕ) (l : List Lent) → reached q at l ≡ Claim.reached (grid_of (lists_of q)) at (accepted q at l)
unfolding reached accepted Claim.reached
reached_so q at [] = refl
reached_so q at (c ∷ l) = reached_so q (stepping q c.array c.work at).position l ∙ ap (λ n. Claim.reached (grid_of (lists_of q)) n (accepted q (stepping q c.array c.work at).position l)) (call q c at).goes

pub reported_so : (q : Plan) (at : ℕ) (l : List Lent) → reported q at l ≡ Claim.reported (grid_of (lists_of q)) at (accepted q at l)
unfolding reported accepted Claim.reported
reported_so q at [] = refl
reported_so q at (c ∷ l) =
    ap₂ ◌+◌ (call q c at).tells (reported_so q (stepping q c.array c.work at).position l ∙ ap (λ n. Claim.reported (grid_of (lists_of q)) n (accepted q (stepping q c.array c.work at).position l)) (call q c at).goes)

-- THE CLAIM: over any list of step calls on one plan from position 0
module _ (q : Plan) (sound : Sound (lists_of q)) (axes : 0 < length (lists_of q).lengths) (l : List Lent) where
  -- no call passes T
  pub claim_within : reached q 0 l ≤ step_count (lists_of q)
  claim_within = rw (reached_so q 0 l) (Claim.claim_within (lists_of q) sound axes (accepted q 0 l))

  -- the transfers report at most the plan's values moved
  pub claim_moved : reported q 0 l ≤ moved (lists_of q)
  claim_moved = rw (reported_so q 0 l) (Claim.claim_moved (lists_of q) sound axes (accepted q 0 l))

  -- and exactly these when the last step is taken
  pub claim_all : reached q 0 l ≡ step_count (lists_of q) → reported q 0 l ≡ moved (lists_of q)
  claim_all e = reported_so q 0 l ∙ Claim.claim_all (lists_of q) sound axes (accepted q 0 l) (sym (reached_so q 0 l) ∙ e)

  -- and no board below 2^p holds more than at position 1
  pub claim_held : (b : ℕ) → b < board_count (lists_of q) → held (grid_of (lists_of q)) (reached q 0 l) b ≤ held (grid_of (lists_of q)) 1 b
  claim_held b h = rw (reached_so q 0 l) (Claim.claim_held (lists_of q) sound axes (accepted q 0 l) b h)
