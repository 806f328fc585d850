use Rattle.std.proofs.Common.{rules}
use Rattle.std.proofs.iter.runs.Made.{chains}
use Prim.Native.Nat.{◌^◌}
use lib.Dec.{leb}
use lib.ListN.{length, get_or}
use Rattle.cube_spec.specs.Choices.{length_of}
use Rattle.plan_spec.proofs.Chains.{all_is}
use Rattle.plan_check.proofs.cuts_each.Goals as goal

pub returns : goal.returns
returns c =
    let l = c.args.lengths.now in
    let k = c.args.exponents.now in
    all_is (λ d. leb (2 ^ get_or k d 0) (length_of l d)) (length l) c.all.result (search (rules, chains)) (search (rules, chains))
