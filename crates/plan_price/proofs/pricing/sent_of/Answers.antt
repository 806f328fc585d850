use mathlib.Core.Path.{refl}
use Rattle.cube_spec.specs.Tree.{sent}
use Rattle.plan_spec.proofs.PricingLaws.{shifted, sent_small}
use Rattle.plan_price.proofs.pricing.sent_of.Goals as goal

pub returns : goal.returns
unfolding sent
returns c = rw (shifted c.args.k c.requires) (refl, sent_small c.args.k c.requires)
