-- `campaign_slices::plan_from` meets its contract.
use Rattle.std.proofs.Common.{◌∙◌}
use Rattle.campaign_slices.proofs.Racking as racking
use Rattle.campaign_slices.proofs.plan_from.Goals as goal
use Rattle.campaign_slices.proofs.plan_from.Goals.{then-small-ne18-via-then-small-ne18, then-small-ne18-via-else-small-ne18+then-lengths-ne8}

pub returns-then-small-ne18 : goal.returns-then-small-ne18
returns-then-small-ne18 c =
    elim c.then-small-ne18.branch [
      | then-small-ne18-via-then-small-ne18 w ↦ c.no_plan.ensures ∙ racking.no_small c.args.small.now c.args.lengths.now w.if-small-ne18.true
      | then-small-ne18-via-else-small-ne18+then-lengths-ne8 w ↦ c.no_plan.ensures ∙ racking.no_lengths c.args.small.now c.args.lengths.now w.if-small-ne18.false w.if-lengths-ne8.true
    ]

pub returns : goal.returns
returns c = racking.plan_is c.args.small.now c.args.lengths.now c.if-small-ne18.false c.if-lengths-ne8.false _ _ _ c.eight.ensures c.eight-2.ensures c.eight-3.ensures
