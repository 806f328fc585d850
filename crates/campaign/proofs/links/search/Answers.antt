-- `campaign::links::search` meets its contract.
use Rattle.std.proofs.lemmas.Result.{err_from_is_err_and}
use Rattle.campaign_slices.proofs.Linking as linking
use Rattle.campaign.proofs.links.search.Goals as goal

pub returns-in_err-search_links : goal.returns-in_err-search_links
returns-in_err-search_links c =
    let p = err_from_is_err_and c.from_residual.result c.from_residual.ensures.1 in
    rw (p.1, p.2) (linking.refused _ _ _ _ _ c.in_err-search_links.ensures _)

pub returns : goal.returns
returns c = linking.given _ _ _ _ _ c.in_ok-search_links.ensures _ _ _ c.put_searched.ensures
