-- `link_search::searching::smallest_of` meets its contract.
use Rattle.std.proofs.Common.{sym, ◌∙◌, ap}
use Rattle.std.specs.Prelude.{unwrap_or}
use Rattle.std.proofs.lemmas.Iterator.{YieldsList-from_slice}
use Rattle.std.proofs.lemmas.Iterator.Adapters.{option_map_id}
use Rattle.std.proofs.lemmas.Iterator.Consumers.{YieldsList-from_copied, min_from_yields_List}
use Rattle.link_spec.proofs.Answering.{smallest_is}
use Rattle.link_search.proofs.searching.smallest_of.Goals as goal

pub returns : goal.returns
returns c =
    let l = c.args.links.now in
    let m = min_from_yields_List {v = λ x. x} c.copied.result c.min.result c.min.ensures.ran (YieldsList-from_copied {ys = l} (YieldsList-from_slice l cc)) in
    c.unwrap_or.ensures ∙ ap (λ o. unwrap_or o 0) (sym (option_map_id c.min.result) ∙ m) ∙ smallest_is l
