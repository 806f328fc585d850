use Rattle.std.proofs.Common.{rules}
use Rattle.std.proofs.iter.runs.Made.{chains}
use Prim.Native.Nat.{◌-◌}
use lib.ListN.{length}
use Rattle.cube_spec.specs.Choices.{length_of}
use Rattle.plan_spec.specs.Answers.{steady_at, never_rise}
use Rattle.plan_spec.proofs.Chains.{all_is}
use Rattle.plan_price.proofs.pricing.never_rise.Goals as goal

pub returns : goal.returns
unfolding never_rise
returns c =
    let l = c.args.lengths.now in
    all_is (steady_at (length_of l)) (length l - 1) c.all.result (search (rules, chains)) (search (rules, chains))
