-- What demand 3 says of plans, by the planner's rule alone: of all ways with all divisions, its tree with its exponents moves least and adds least.
use Rattle.std.specs.Prelude.{ℕ, ◌≤◌, ◌<◌, ◌≡◌, List, length}
use Rattle.cube_spec.specs.Choices.{full_mask}
use Rattle.cube_spec.specs.Ways.{Way, Division, moved_by, added_by}
use Rattle.plan_spec.specs.Plans as Plans
use Rattle.plan_spec.specs.Rule.{exponents, plan_of}
use Rattle.plan_spec.specs.Trees.{tree_axis}

-- "The planner's tree and exponents are one such pair."; "Demand 3 compares parents and divisions jointly."
pub record Least (ds : List ℕ) (p : ℕ) : Type 0 where
  -- the planner's exponents and its tree are a division and a way
  pub division : Division ds p
  pub way : Way (length ds)
  pub exponents : division.exponents ≡ exponents ds p
  pub axes : (mask : ℕ) → mask < full_mask (length ds) → way.axis mask ≡ tree_axis ds mask
  -- they move and add what the plan says
  pub moves : moved_by ds division way ≡ Plans.moved (plan_of ds p)
  pub adds : added_by ds way ≡ Plans.added (plan_of ds p)
  -- no others move less or add less
  pub moves_least : (e : Division ds p) (w : Way (length ds)) → Plans.moved (plan_of ds p) ≤ moved_by ds e w
  pub adds_least : (w : Way (length ds)) → Plans.added (plan_of ds p) ≤ added_by ds w
