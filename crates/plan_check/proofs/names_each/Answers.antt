use Rattle.std.proofs.Common.{rules}
use Rattle.std.proofs.iter.runs.Sources.{ranges}
use lib.Dec.{eqb}
use lib.ListN.{length}
use Rattle.plan_spec.specs.Plans.{count}
use Rattle.plan_spec.specs.Refusals.{names_each}
use Rattle.plan_spec.proofs.Chains.{all_is}
use Rattle.plan_check.proofs.names_each.Goals as goal

pub returns : goal.returns
unfolding names_each
returns c = let o = c.args.order.now in all_is (λ a. eqb (count a o) 1) (length o) c.all.result (search (rules, ranges)) (search (rules, ranges))
