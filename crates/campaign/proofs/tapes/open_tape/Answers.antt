-- `campaign::tapes::open_tape` meets its contract. The refusals in their order, then the points and the cells, by the scan that passed.
use Rattle.std.proofs.lemmas.Result.{err_from_is_err_and}
use Rattle.tape_spec.proofs.Refusing as reading
use Rattle.campaign_slices.proofs.Laws as laws
use Rattle.campaign.proofs.tapes.open_tape.Goals as goal

pub returns-in_err-found : goal.returns-in_err-found
returns-in_err-found c =
    let p = err_from_is_err_and c.from_residual.result c.from_residual.ensures.1 in
    rw (p.1, p.2) (laws.open_refused _ _ c.in_err-found.ensures _ _)

pub returns-then-array-found : goal.returns-then-array-found
returns-then-array-found c = laws.open_short _ _ c.in_ok-found.ensures _ _ c.if-array-found.true

pub returns-then-scan-ne-SCAN_CELLS : goal.returns-then-scan-ne-SCAN_CELLS
returns-then-scan-ne-SCAN_CELLS c = laws.open_wrong _ _ c.in_ok-found.ensures _ _ c.if-array-found.false c.if-scan-ne-SCAN_CELLS.true

pub fill_scanned-requires : goal.fill_scanned-requires
fill_scanned-requires c = reading.fits _ _ c.in_ok-found.ensures _ c.if-array-found.false

pub returns : goal.returns
returns c =
    laws.opens _ _ c.in_ok-found.ensures _ _ c.if-array-found.false _ _ c.if-scan-ne-SCAN_CELLS.false c.fill_scanned.ensures c.put_scan.ensures
