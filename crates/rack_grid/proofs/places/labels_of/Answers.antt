use mathlib.Core.Path.{ap, ◌∙◌}
use Rattle.cube_spec.specs.Limits.{padded}
use Rattle.cube_spec.specs.Boxes.{table}
use Rattle.plan_spec.proofs.Accepting.{passed_accepted}
use Rattle.rack_spec.specs.Finding.{plan_grid, summed_in, lead_label}
use Rattle.rack_spec.proofs.Planned.{full_leads, full_labels}
use borrow.Author.Rules.{rules}
use Rattle.rack_grid.proofs.places.labels_of.Goals as goal

pub lead_labels-requires : goal.lead_labels-requires
lead_labels-requires c =
    let gd = c.well_formed.0.1.1.1.1 in
    let ok = passed_accepted c.args.plan (search rules) (search rules) (search rules) c.requires.0 in
    (c.requires.0, rw (c.full.ensures, full_leads c.args.plan ok) c.requires.1)

pub returns : goal.returns
returns c =
    let q = c.args.plan in
    let gd = c.well_formed.0.1.1.1.1 in
    let ok = passed_accepted q (search rules) (search rules) (search rules) c.requires.0 in
    c.lead_labels.ensures
    ∙ ap (λ m. padded (table q.axes (lead_label (plan_grid q) (summed_in q m) c.args.board))) c.full.ensures
    ∙ full_labels q ok c.args.board
