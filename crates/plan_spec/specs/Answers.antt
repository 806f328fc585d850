-- What planning and pricing answer.
use Rattle.std.specs.Prelude.{ℕ, suc, ◌-◌, Bool, List, leb, length}
use Rattle.cube_spec.specs.Limits.{padded}
use Rattle.cube_spec.specs.Checks.{Reply, answered}
use Rattle.plan_spec.specs.declared.types.Plan.{Plan}
use Rattle.plan_spec.specs.declared.types.Prices.{Prices}
use Rattle.plan_spec.specs.declared.types.Marked.{Marked}
use Rattle.plan_spec.specs.declared.types.Planned.{Planned}
use Rattle.plan_spec.specs.Plans.{PlanLists, length_at, moved, added, share_size, lists_of, slotted}
use Rattle.plan_spec.specs.declared.types.Arrangement.{Arrangement}
use Rattle.plan_spec.specs.Rule.{order, ordered_exponents, plan_within, idle_boards}
use Rattle.plan_spec.specs.Refusals.{all, planning_refusal, plan_refusal}

-- a plan's prices
unfoldable pub prices_of : PlanLists → Prices
prices_of a = record { moved = moved a; added = added a; share = share_size a }

-- "lengths never rise along the order": of n lengths, none is more than the one before it
abbrev pub steady_at : (ℕ → ℕ) → ℕ → Bool
steady_at len i = leb (len (suc i)) (len i)

unfoldable pub never_rise : ℕ → (ℕ → ℕ) → Bool
never_rise n len = all (n - 1) (steady_at len)

-- the mark, yes or no to "fewest cells added up": "It must say yes exactly when lengths never rise along the order"
unfoldable pub fewest_added : PlanLists → Bool
fewest_added a = never_rise (length a.lengths) (length_at a)

-- a plan's prices with its mark
unfoldable pub marked_of : PlanLists → Marked
marked_of a = record { prices = prices_of a; fewest = fewest_added a }

-- what pricing answers
unfoldable pub pricing : Plan → Reply Marked
pricing q = answered (plan_refusal q) (marked_of (lists_of q))

-- a plan with its prices, beside which so many boards stand idle
abbrev pub planned_of : ℕ → PlanLists → Planned
planned_of idle a = record { plan = slotted a; prices = prices_of a; idle = idle }

-- what planning answers: "Each gives its number alone", so nothing stands beside a refusal
unfoldable pub planning : List ℕ → ℕ → Reply Planned
planning ds p = answered (planning_refusal ds p) (planned_of (idle_boards ds p) (plan_within ds p))

-- the planner's order and exponents, both in plan order, in slots
unfoldable pub arrangement : List ℕ → ℕ → Arrangement
arrangement ds p = record { order = padded (order ds); exponents = padded (ordered_exponents ds p) }
