-- What an accepted plan guarantees, and accepted lengths with a p that they can be divided for, in plain facts: what no refusal leaves over.
use Rattle.std.specs.Prelude.{ℕ, ◌≤◌, ◌<◌, ◌≡◌, List, length, get_or}
use Rattle.cube_spec.specs.Limits.{axis_limit, length_limit, point_limit, power_limit}
use Rattle.cube_spec.specs.Choices.{points, length_of}
use Rattle.cube_spec.specs.Ways.{room}
use Rattle.plan_spec.specs.declared.types.Plan.{Plan}
use Rattle.plan_spec.specs.Plans.{Sound, lists_of}

-- the lengths ds pass checks 3 to 5
pub record LengthsAccepted (ds : List ℕ) : Type 0 where
  pub axes : 1 ≤ length ds
  pub few : length ds ≤ axis_limit
  pub some : (d : ℕ) → d < length ds → 1 ≤ length_of ds d
  pub short : (d : ℕ) → d < length ds → length_of ds d ≤ length_limit
  pub small : points ds ≤ point_limit

-- the planner's rule has a plan for ds and p: they pass checks 3 to 6, and there is a division. So it is of the p used, for whatever planning accepts
pub record PlanningAccepted (ds : List ℕ) (p : ℕ) : Type 0 where
  pub lengths : LengthsAccepted ds
  pub boards : p ≤ power_limit
  pub enough : p ≤ room ds

-- a plan's arrays have their slots, as every plan that a machine holds
abbrev pub HasSlots : Plan → Type 0
HasSlots q = (length q.lengths ≡ axis_limit) × ((length q.order ≡ axis_limit) × (length q.exponents ≡ axis_limit))

-- "Array slots past the last axis are zero."
abbrev pub Spare : ℕ → List ℕ → Type 0
Spare n slots = (d : ℕ) → n ≤ d → get_or slots d 0 ≡ 0

-- a lent plan is accepted: 3 to 6, 8, 9
pub record Accepted (q : Plan) : Type 0 where
  pub axes : length (lists_of q).lengths ≡ q.axes
  pub lengths : LengthsAccepted (lists_of q).lengths
  pub boards : q.p ≤ power_limit
  pub sound : Sound (lists_of q)
  pub spare_lengths : Spare q.axes q.lengths
  pub spare_order : Spare q.axes q.order
  pub spare_exponents : Spare q.axes q.exponents
