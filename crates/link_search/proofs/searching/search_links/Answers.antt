-- `link_search::searching::search_links` meets its contract.
use Rattle.std.proofs.Common.{sym, ◌∙◌}
use Rattle.std.proofs.lemmas.Result.{err_from_is_err_and}
use Rattle.link_spec.proofs.Answering.{answer_planning, answer_budget, answer_links, passed, searchable, floor_holds, answer_found}
use Rattle.link_search.proofs.searching.search_links.Goals as goal

pub returns-in_err-planned : goal.returns-in_err-planned
returns-in_err-planned c =
    let a = c.args in
    let p = err_from_is_err_and c.from_residual.result c.from_residual.ensures.1 in
    rw (p.1, p.2) (answer_planning a.lengths.now a.p a.links.now a.budget _ c.in_err-planned.ensures)

pub returns-then-budget-eq0 : goal.returns-then-budget-eq0
returns-then-budget-eq0 c =
    let a = c.args in
    answer_budget a.lengths.now a.p a.links.now a.budget c.in_ok-planned.planned c.in_ok-planned.ensures c.if-budget-eq0.true

pub returns-then-bad_links : goal.returns-then-bad_links
returns-then-bad_links c =
    let a = c.args in
    answer_links a.lengths.now a.p a.links.now a.budget c.in_ok-planned.planned c.in_ok-planned.ensures c.if-budget-eq0.false (sym c.bad_links.ensures ∙ c.if-bad_links.true)

pub try_divisions-found-requires : goal.try_divisions-found-requires
try_divisions-found-requires c =
    searchable (passed _ _ _ _ _ c.in_ok-planned.ensures c.if-budget-eq0.false (sym c.bad_links.ensures ∙ c.if-bad_links.false))

pub distance_of-distance-requires : goal.distance_of-distance-requires
distance_of-distance-requires c =
    floor_holds (passed _ _ _ _ _ c.in_ok-planned.ensures c.if-budget-eq0.false (sym c.bad_links.ensures ∙ c.if-bad_links.false)) _ c.try_divisions-found.ensures _ c.smallest_of.ensures

pub returns : goal.returns
returns c =
    answer_found (passed _ _ _ _ _ c.in_ok-planned.ensures c.if-budget-eq0.false (sym c.bad_links.ensures ∙ c.if-bad_links.false)) _ c.try_divisions-found.ensures _ c.smallest_of.ensures _ c.distance_of-distance.ensures
