use mathlib.Core.Path.{◌∙◌}
use Rattle.plan_spec.proofs.Accepting.{passed_accepted}
use Rattle.rack_spec.proofs.Planned.{share_plan}
use borrow.Author.Rules.{rules}
use Rattle.rack_grid.proofs.places.share_of.Goals as goal

pub returns : goal.returns
returns c =
    let gd = c.well_formed.0.1.1.1.1 in
    let ok = passed_accepted c.args.plan (search rules) (search rules) (search rules) c.requires in
    (c.region_of.ensures.1 ∙ share_plan c.args.plan ok, c.region_of.ensures.3)
