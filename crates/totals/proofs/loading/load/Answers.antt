-- `totals::loading::load` meets its contract. Of a tape that judging takes, the scan passed and the points fit.
use Rattle.totals_check.proofs.Taken as laws
use Rattle.totals.proofs.loading.load.Goals as goal

pub fill_scanned-requires : goal.fill_scanned-requires
fill_scanned-requires c = laws.fillable _ _ (rw c.in-Ok.is at c.requires.0) _ c.requires.1

pub points_of-requires : goal.points_of-requires
points_of-requires c = laws.plan_passed _ _ (rw c.in-Ok.is at c.requires.0)

pub returns : goal.returns
returns c =
    let j = rw c.in-Ok.is at c.requires.0 in
    let f = c.fill_scanned.ensures in
    let n = c.points_of.ensures in
    rw c.in-Ok.is (laws.loaded_fits _ _ j _ _ c.requires.1 f _ n, (laws.loaded _ _ j _ _ c.requires.1 f _ n, f), tt)
