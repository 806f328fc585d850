use Rattle.plan_spec.proofs.Chains.{log2_or}
use Rattle.plan_check.proofs.log2_of.Goals as goal

pub returns : goal.returns
returns c =
    let e = c.checked_ilog2.ensures in
    rw c.unwrap_or.ensures (log2_or c.args.d c.checked_ilog2.result e.none e.power_le e.next_power_gt e.bound)
