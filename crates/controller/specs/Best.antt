-- What demand 3 says of the controller's result: it holds a lawful plan, and no way with any division over the boards in use moves fewer values
-- or adds fewer cells.
use Rattle.std.specs.Prelude.{ℕ, ◌≤◌, ◌<◌, ◌≡◌, List, length}
use Rattle.cube_spec.specs.Choices.{full_mask, keeps, with_mask}
use Rattle.cube_spec.specs.Tree.{parent_of}
use Rattle.cube_spec.specs.Ways.{Way, Division, cost_by, moved_by, added_by}
use Rattle.plan_spec.specs.Plans.{PlanLists, Sound, moved, added}
use Rattle.plan_spec.specs.Trees.{last_summed}
use Rattle.rack_spec.specs.Grids.{grid_of, mask_of, summed}
use Rattle.rack_spec.specs.Pointed.{HasPoint, Pointed}

-- "Demand 3 compares parents and divisions jointly.": of the lengths ds, the p used and the plan a that the result holds
pub record BestPlan (ds : List ℕ) (p : ℕ) (a : PlanLists) : Type 0 where
  -- it is a lawful plan of these lengths over 2^p boards
  pub lengths : a.lengths ≡ ds
  pub boards : a.p ≡ p
  pub sound : Sound a
  -- no way with any division moves less or adds less; "exactly then each board has a point": nor with exponents of any size that sum to p and
  -- give each of the 2^p boards a point, a moved value at the price 1
  pub moved_least : (e : Division ds p) (w : Way (length ds)) → moved a ≤ moved_by ds e w
  pub pointed_least : (c : Pointed ds p) (w : Way (length ds)) → moved a ≤ cost_by (λ d. 1) ds c.exponents w
  pub added_least : (w : Way (length ds)) → added a ≤ added_by ds w
  -- its exponents are a division and its tree is a way, and they move and add just that
  pub division : Division ds p
  pub way : Way (length ds)
  pub exponents : division.exponents ≡ a.exponents
  pub axes : (mask : ℕ) → mask < full_mask (length ds) → way.axis mask ≡ last_summed (keeps mask) 0 a.order
  pub moves : moved_by ds division way ≡ moved a
  pub adds : added_by ds way ≡ added a
  -- a choice's parent there is the one in the tree of that plan, and each board of it has a point
  pub parents : (mask : ℕ) → mask < full_mask (length ds) → mask_of (grid_of a) (parent_of (summed (grid_of a) mask)) ≡ with_mask mask (way.axis mask)
  pub points : (b : ℕ) → HasPoint (grid_of a) b
