-- `link_search::searching::bad_links` meets its contract.
use Rattle.std.proofs.Common.{rules, refl, ne_eqb}
use Rattle.std.proofs.iter.runs.Made.{chains}
use Rattle.plan_spec.proofs.Chains.{some_is}
use Rattle.link_spec.specs.Search.{bad_link, bad_links}
use Rattle.link_spec.proofs.Deciding.{links_each}
use Rattle.link_search.proofs.searching.bad_links.Goals as goal

pub returns-then-links-axes : goal.returns-then-links-axes
unfolding bad_links
returns-then-links-axes c = rw (ne_eqb _ _ c.if-links-axes.true) refl

pub returns-else-links-axes : goal.returns-else-links-axes
returns-else-links-axes c =
    let a = c.args in
    links_each a.axes a.links.now c.if-links-axes.false c.any.result (some_is bad_link a.links.now c.any.result (search (rules, chains)) (search (rules, chains)))
