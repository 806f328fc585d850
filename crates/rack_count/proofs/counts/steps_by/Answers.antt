-- `rack_count::counts::steps_by` meets its contract: T is one more than the steps of the root's walk.
use Prim.Native.Nat.{◌+◌}
use mathlib.Core.Path.{sym, ap, ◌∙◌}
use Rattle.plan_spec.proofs.Accepting.{passed_accepted}
use Rattle.rack_spec.proofs.Tallied.{steps_same}
use borrow.Author.Rules.{rules}
use Rattle.rack_count.proofs.counts.steps_by.Goals as goal

pub returns : goal.returns
returns c =
    let gd = c.well_formed.0.1.1.1.1 in
    let ok = passed_accepted c.args.plan (search rules) (search rules) (search rules) c.requires.0 in
    ap (λ x. x + 1) c.walk_count.ensures.0 ∙ sym (steps_same c.args.plan ok)
