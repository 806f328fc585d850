-- `campaign_slices::put_plan` meets its contract.
use Rattle.std.proofs.Common.{rules}
use Rattle.campaign_slices.proofs.Racking as racking
use Rattle.campaign_slices.proofs.put_plan.Goals as goal

pub returns : goal.returns
returns c =
    let small = racking.put_is c.args.plan (search rules) (search rules) _ _ _ c.requires.0 c.copy_from_slice.ensures.after c.copy_from_slice-2.ensures.after in
    (small, c.copy_from_slice-3.ensures.after)
