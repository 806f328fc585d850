-- `link_division::pricing::fare_of` meets its contract.
use Rattle.std.proofs.Common.{refl}
use Rattle.cube_spec.specs.Tree.{sent}
use Rattle.plan_spec.proofs.PricingLaws.{shifted}
use Rattle.link_spec.proofs.Pricing.{fare_small}
use Rattle.link_division.proofs.pricing.fare_of.Goals as goal

pub returns : goal.returns
unfolding sent
returns c = rw (shifted c.args.k c.requires.0, c.from.ensures) (refl, fare_small c.args.k c.args.link c.requires.0 c.requires.1)
