-- What demand 3 says of the planner's answer: no way with any division over the boards in use moves fewer values or adds fewer cells than it says,
-- and the tree and the exponents of the returned plan move and add just that.
use Rattle.std.specs.Prelude.{ℕ, ◌≤◌, ◌<◌, ◌≡◌, true, List, length}
use Rattle.cube_spec.specs.Checks.{gives}
use Rattle.cube_spec.specs.Choices.{full_mask, keeps, with_mask}
use Rattle.cube_spec.specs.Tree.{parent_of}
use Rattle.cube_spec.specs.Ways.{Way, Division, cost_by, moved_by, added_by}
use Rattle.plan_spec.specs.declared.types.Planned.{Planned}
use Rattle.plan_spec.specs.Plans.{Sound, lists_of}
use Rattle.plan_spec.specs.Trees.{last_summed}
use Rattle.plan_spec.specs.Refusals.{plan_refusal}
use Rattle.plan_spec.specs.Answers.{prices_of, pricing}
use Rattle.rack_spec.specs.Grids.{grid_of, mask_of, summed}
use Rattle.rack_spec.specs.Pointed.{HasPoint, Pointed}

-- "Demand 3 compares parents and divisions jointly.": of the lengths l, the p used and what the planner gives, r
pub record Best (l : List ℕ) (p : ℕ) (r : Planned) : Type 0 where
  pub moved_least : (e : Division l p) (w : Way (length l)) → r.prices.moved ≤ moved_by l e w
  pub added_least : (w : Way (length l)) → r.prices.added ≤ added_by l w
  -- "exactly then each board has a point": over exponents of any size that sum to p and give each of the 2^p boards a point, a moved value at the price 1
  pub pointed_least : (c : Pointed l p) (w : Way (length l)) → r.prices.moved ≤ cost_by (λ d. 1) l c.exponents w
  -- the returned plan's exponents are a division, and its tree is a way: a choice's parent has the last axis more, in the returned order, that the
  -- choice sums out
  pub division : Division l p
  pub way : Way (length l)
  pub exponents : division.exponents ≡ (lists_of r.plan).exponents
  pub axes : (mask : ℕ) → mask < full_mask (length l) → way.axis mask ≡ last_summed (keeps mask) 0 (lists_of r.plan).order
  -- that parent is the one in the tree of the returned plan, and each board of that plan has a point
  pub parents : (mask : ℕ) → mask < full_mask (length l)
      → mask_of (grid_of (lists_of r.plan)) (parent_of (summed (grid_of (lists_of r.plan)) mask)) ≡ with_mask mask (way.axis mask)
  pub points : (b : ℕ) → HasPoint (grid_of (lists_of r.plan)) b
  pub moves : moved_by l division way ≡ r.prices.moved
  pub adds : added_by l way ≡ r.prices.added
  -- pricing gives the returned plan the same prices, and the mark "fewest cells added up"
  pub priced : pricing r.plan ≡ gives (record { prices = r.prices; fewest = true })

-- "Any lawful plan can be priced and run.": the returned plan passes every check, and its prices are its own
pub record Runnable (l : List ℕ) (p : ℕ) (r : Planned) : Type 0 where
  pub passed : plan_refusal r.plan ≡ 0
  pub sound : Sound (lists_of r.plan)
  pub some : 0 < length (lists_of r.plan).lengths
  pub same : (lists_of r.plan).lengths ≡ l
  pub boards : (lists_of r.plan).p ≡ p
  pub prices : r.prices ≡ prices_of (lists_of r.plan)
