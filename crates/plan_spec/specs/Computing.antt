-- Names every definition, so that a fact that computes with them says `unfolding computing`.
use Rattle.std.specs.Prelude.{ℕ}
use Rattle.plan_spec.specs.Plans
use Rattle.plan_spec.specs.Rule
use Rattle.plan_spec.specs.Refusals
use Rattle.plan_spec.specs.Answers
use Rattle.plan_spec.specs.Before
use Rattle.plan_spec.specs.Trees
use Rattle.plan_spec.specs.Choosing
use Rattle.plan_spec.specs.Pricing
use Rattle.cube_spec.specs.Computing as cube_spec

unfoldable pub computing : ℕ
unfolding Plans.count Plans.find Plans.most_at Plans.moved Plans.added Plans.share_size Plans.board_count Plans.step_count Plans.lists_of Plans.slotted Rule.numbered Rule.precedes Rule.insert Rule.sort Rule.numbers Rule.order Rule.ordered_length Rule.entries Rule.price Rule.free Rule.least Rule.raise_at Rule.raise_by Rule.raise Rule.greedy Rule.exps Rule.ordered_exponents Rule.exponents Rule.plan_of Rule.power_used Rule.idle_boards Refusals.all Refusals.some Refusals.bad_axes Refusals.bad_length Refusals.too_many_points Refusals.too_many_boards Refusals.names_each Refusals.slots_used Refusals.bad_order Refusals.bad_exponents Refusals.length_checks Refusals.planning_checks Refusals.plan_checks Refusals.planning_refusal Refusals.plan_refusal Answers.prices_of Answers.never_rise Answers.fewest_added Answers.marked_of Answers.pricing Answers.planning Answers.arrangement Before.refusal_before Before.planning_before Trees.last_summed Trees.tree_axis Choosing.inserted Choosing.place_for Choosing.raised_at Pricing.moved_from Pricing.added_from Pricing.most_of cube_spec.computing
computing = 0
