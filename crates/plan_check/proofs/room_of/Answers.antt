use Rattle.std.proofs.Common.{rules}
use Rattle.std.proofs.iter.runs.Made.{chains}
use Rattle.plan_spec.proofs.Chains.{room_listed}
use Rattle.plan_check.proofs.room_of.Goals as goal

pub returns : goal.returns
returns c = rw room_listed (search (rules, chains))
