-- `link_division::pricing::division_cost` meets its contract.
use Rattle.std.proofs.Common.{length, ◌∙◌}
use Rattle.link_spec.proofs.Pricing.{rated_priceable, rated_cost}
use Rattle.link_division.proofs.pricing.division_cost.Goals as goal

pub shares_cost-requires : goal.shares_cost-requires
shares_cost-requires c =
    let a = c.args in
    let e = rw c.requires.1 at c.fares.ensures in
    rated_priceable a.lens.now a.exponents.now a.links.now c.fares.result (length a.lens.now) c.requires.2 c.requires.3 e

pub returns : goal.returns
returns c =
    let a = c.args in
    let e = rw c.requires.1 at c.fares.ensures in
    c.shares_cost.ensures ∙ rated_cost a.lens.now a.exponents.now a.links.now c.fares.result (length a.lens.now) c.requires.2 e
