-- `campaign_slices::put_scan` meets its contract. The stores are the cells of the scan, one after the other.
use Rattle.std.proofs.Common.{◌≡◌, ◌∙◌, rules}
use Rattle.std.proofs.lemmas.Grind.{same_number_lists}
use Rattle.campaign_slices.proofs.Laws as laws
use Rattle.campaign_slices.proofs.put_scan.Goals as goal

pub returns : goal.returns
returns c =
    let wide : c.map.result ≡ c.args.found.lengths = same_number_lists _ _ (search rules) (λ k h. search rules) in
    laws.scan_put _ c.args.found _ _ _ c.requires (search rules) c.from.ensures c.from-2.ensures (c.copy_from_slice.ensures.after ∙ wide)
