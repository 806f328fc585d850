-- `campaign::tapes::scan_tape` meets its contract. The refusals in their order, then the cells.
use Rattle.std.proofs.lemmas.Result.{err_from_is_err_and}
use Rattle.campaign_slices.proofs.Laws as laws
use Rattle.campaign.proofs.tapes.scan_tape.Goals as goal

pub returns-in_err-found : goal.returns-in_err-found
returns-in_err-found c =
    let p = err_from_is_err_and c.from_residual.result c.from_residual.ensures.1 in
    rw (p.1, p.2) (laws.refused _ _ c.in_err-found.ensures _)

pub returns-then-scan-ne-SCAN_CELLS : goal.returns-then-scan-ne-SCAN_CELLS
returns-then-scan-ne-SCAN_CELLS c = laws.wrong _ _ c.in_ok-found.ensures _ c.if-scan-ne-SCAN_CELLS.true

pub returns : goal.returns
returns c = laws.right _ _ c.in_ok-found.ensures _ _ c.if-scan-ne-SCAN_CELLS.false c.put_scan.ensures
