use Rattle.std.proofs.Common.{rules}
use Rattle.std.proofs.iter.runs.Made.{chains}
use Rattle.plan_spec.proofs.Chains.{count_listed}
use Rattle.plan_check.proofs.count_of.Goals as goal

pub returns : goal.returns
returns c = rw count_listed (search (rules, chains))
