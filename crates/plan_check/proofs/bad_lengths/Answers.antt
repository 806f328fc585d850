use Rattle.std.proofs.Common.{rules}
use Rattle.std.proofs.iter.runs.Made.{chains}
use Rattle.plan_spec.proofs.Chains.{some_is}
use Rattle.plan_spec.specs.Refusals.{bad_length}
use Rattle.plan_check.proofs.bad_lengths.Goals as goal

pub returns : goal.returns
returns c = some_is bad_length c.args.lengths.now c.any.result (search (rules, chains)) (search (rules, chains))
