-- `campaign_slices::put` meets its contract.
use Rattle.campaign_slices.proofs.Lending as lending
use Rattle.campaign_slices.proofs.put.Goals as goal

pub returns-then-out-cells : goal.returns-then-out-cells
returns-then-out-cells c = lending.wrong _ c.args.out.now _ c.if-out-cells.true

pub returns : goal.returns
returns c = lending.right _ c.args.out.now _ c.if-out-cells.false _ c.copy_from_slice.ensures.after
