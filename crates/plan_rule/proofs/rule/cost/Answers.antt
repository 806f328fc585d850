use Rattle.plan_spec.specs.Rule.{price}
use Rattle.plan_spec.proofs.PricingLaws.{shifted}
use Rattle.plan_rule.proofs.rule.cost.Goals as goal

pub returns : goal.returns
unfolding price
returns c = rw (shifted c.args.entry.exp c.requires.1)
