-- That of all ways with all divisions the planner's tree with its exponents moves least and adds least, and that its plan is sound.
use Prim.Native.Nat.{ℕ, ◌≤◌, ◌<◌}
use mathlib.Core.List.{List}
use lib.ListN.{length}
use Rattle.cube_spec.specs.Choices.{length_of}
use Rattle.cube_spec.specs.Ways.{room}
use Rattle.plan_spec.specs.Plans.{Sound}
use Rattle.plan_spec.specs.Rule.{plan_of}
use Rattle.plan_spec.specs.Demand.{Least}
use Rattle.plan_spec.proofs.Places.{order_length, order_once}
use Rattle.plan_spec.proofs.Least.{moves_least, adds_least}
use Rattle.plan_spec.proofs.Attained.{tree_way, tree_way_axis, tree_division, tree_division_exponents, moves_attained, adds_attained}
use Rattle.plan_spec.proofs.Room.{room_division}

-- for all lengths but 0, and every p that is not refused
pub demand : (ds : List ℕ) (p : ℕ) → ((d : ℕ) → d < length ds → 1 ≤ length_of ds d) → p ≤ room ds → Least ds p
demand ds p h l =
    let e = room_division ds p h l in
    record {
      division = tree_division ds p e;
      way = tree_way ds;
      exponents = tree_division_exponents ds p e;
      axes = λ mask r. tree_way_axis ds mask;
      moves = moves_attained ds p e;
      adds = adds_attained ds p;
      moves_least = moves_least ds p;
      adds_least = adds_least ds p;
    }

-- the planner's plan is one that can be priced and run
pub plan_sound : (ds : List ℕ) (p : ℕ) → ((d : ℕ) → d < length ds → 1 ≤ length_of ds d) → p ≤ room ds → Sound (plan_of ds p)
unfolding plan_of
plan_sound ds p h l =
    let r = room_division ds p h l in
    let e = tree_division ds p r in
    let q = tree_division_exponents ds p r in
    record { places = order_length ds; once = order_once ds; cut = λ d k. rw q at (e.fits d k); each = rw q at e.each; sums = rw q at e.sums }
