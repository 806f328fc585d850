use Rattle.std.proofs.Common.{rules}
use Rattle.std.proofs.iter.runs.Made.{chains}
use Rattle.plan_spec.proofs.Chains.{sum_listed}
use Rattle.plan_check.proofs.exponent_sum.Goals as goal

pub returns : goal.returns
returns c = rw sum_listed (search (rules, chains))
