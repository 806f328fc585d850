-- What a mark says and means beside the cells that a plan adds up. No exponent and no number of axes plays a part: "This holds for any axis count up to 16
-- and whatever the division."
use Rattle.std.specs.Prelude.{ℕ, ◌≤◌, ◌<◌, ◌≡◌, Bool, true, false, List, eqb, length, get_or}
use Rattle.cube_spec.specs.Choices.{full_mask, keeps, length_of}
use Rattle.cube_spec.specs.Ways.{Way, added_by}
use Rattle.plan_spec.specs.Plans.{added}
use Rattle.plan_spec.specs.Rule.{plan_of}
use Rattle.plan_spec.specs.Trees.{last_summed, tree_axis}
use Rattle.plan_spec.specs.Answers.{never_rise}

-- of a plan by its lengths and its order: the cells that it adds up, and its mark
pub record Marking (ds o : List ℕ) (sum : ℕ) (mark : Bool) : Type 0 where
  -- "It must say yes exactly when lengths never rise along the order"
  pub test : mark ≡ never_rise (length ds) (λ i. length_of ds (get_or o i 0))
  -- the plan's own tree is a way, and adds them up: a choice's parent keeps also the last axis, along the order, that the choice sums out
  pub own : Way (length ds)
  pub own_axes : (choice : ℕ) → choice < full_mask (length ds) → own.axis choice ≡ last_summed (keeps choice) 0 o
  pub own_adds : added_by ds own ≡ sum
  -- the planner's tree is a way that adds up the least of all, and that is what the rule's plan adds up, whatever p
  pub best : Way (length ds)
  pub best_axes : (choice : ℕ) → choice < full_mask (length ds) → best.axis choice ≡ tree_axis ds choice
  pub best_adds : (p : ℕ) → added_by ds best ≡ added (plan_of ds p)
  pub least : (w : Way (length ds)) → added_by ds best ≤ added_by ds w
  -- "yes must mean that no selection of parents, tree or not, adds up fewer, while no means that some selection does": the planner's tree
  pub yes : mark ≡ true → (w : Way (length ds)) → sum ≤ added_by ds w
  pub no : mark ≡ false → added_by ds best < sum
  -- so it is yes exactly where the cells added up are the least over all ways
  pub same : mark ≡ eqb sum (added_by ds best)
