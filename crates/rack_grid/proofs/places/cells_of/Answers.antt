use mathlib.Core.Path.{ap, ◌∙◌}
use Rattle.cube_spec.proofs.Slots.{table_slots}
use Rattle.plan_spec.proofs.Accepting.{passed_accepted}
use Rattle.plan_spec.proofs.PricingLaws.{few_axes}
use Rattle.rack_spec.specs.Grids.{cells}
use Rattle.rack_spec.specs.Finding.{plan_grid, summed_in}
use Rattle.rack_spec.proofs.Planned.{own_fit, own_board}
use borrow.Author.Rules.{rules}
use Rattle.rack_grid.proofs.places.cells_of.Goals as goal

pub cells_with-requires : goal.cells_with-requires
cells_with-requires c =
    let q = c.args.plan in
    let gd = c.well_formed.0.1.1.1.1 in
    let ok = passed_accepted q (search rules) (search rules) (search rules) c.requires.0 in
    let own = table_slots q.axes _ c.labels_of.result (few_axes ok) c.labels_of.ensures in
    (c.requires.0, own_fit q ok c.args.board c.requires.1 c.labels_of.result own.1)

pub returns : goal.returns
returns c =
    let q = c.args.plan in
    let l = c.labels_of in
    let gd = c.well_formed.0.1.1.1.1 in
    let ok = passed_accepted q (search rules) (search rules) (search rules) c.requires.0 in
    let own = table_slots q.axes _ l.result (few_axes ok) l.ensures in
    let e = own_board q ok c.args.board c.requires.1 l.result own.1 in
    (c.cells_with.ensures.0 ∙ ap (cells (plan_grid q) (summed_in q c.args.choice.mask)) e, c.cells_with.ensures.1)
