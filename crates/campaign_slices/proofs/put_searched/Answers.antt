-- `campaign_slices::put_searched` meets its contract. The stores are the cells of the answer, one after the other.
use Rattle.std.proofs.Common.{◌≡◌, ◌∙◌, rules}
use Rattle.std.proofs.lemmas.Grind.{same_number_lists}
use Rattle.campaign_slices.proofs.Lending.{put_as}
use Rattle.campaign_slices.proofs.Linking.{searched_put, cells_number}
use Rattle.campaign_slices.proofs.put_searched.Goals as goal

pub returns : goal.returns
returns c =
    let f = c.args.found in
    let wide : c.map.result ≡ f.exponents = same_number_lists _ _ (search rules) (λ k h. search rules) in
    put_as _ _ _ _ _ _ (searched_put f _ (search rules) (c.copy_from_slice.ensures.after ∙ wide)) (cells_number f (search rules)) c.put.ensures
