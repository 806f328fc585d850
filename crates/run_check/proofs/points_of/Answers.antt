use Rattle.std.proofs.Common.{◌∙◌, rules}
use Rattle.plan_spec.proofs.Accepting.{passed_accepted}
use Rattle.plan_spec.proofs.PricingLaws.{few_axes}
use Rattle.run_spec.proofs.Refusing.{points_plan}
use Rattle.run_check.proofs.points_of.Goals as goal

pub shared_ref_as_front-cells : goal.shared_ref_as_front-cells
shared_ref_as_front-cells c =
    let w = c.well_formed in
    let ok = passed_accepted c.args.plan (search rules) (search rules) (search rules) c.requires in
    few_axes ok

pub returns : goal.returns
returns c =
    let w = c.well_formed in
    let ok = passed_accepted c.args.plan (search rules) (search rules) (search rules) c.requires in
    let e = rw c.full.ensures at c.cells.ensures in
    e ∙ points_plan c.args.plan ok
