use Rattle.plan_spec.proofs.Accepting.{passed_accepted}
use Rattle.rack_spec.proofs.Planned.{cells_whole}
use borrow.Author.Rules.{rules}
use Rattle.rack_grid.proofs.places.cells_with.Goals as goal

pub returns : goal.returns
returns c = let gd = c.well_formed.0.1.1.1.1 in let ok = passed_accepted c.args.plan (search rules) (search rules) (search rules) c.requires.0 in (cells_whole c.args.plan ok c.args.choice.mask c.args.labels 0 c.cells_between.result c.cells_between.ensures.0, c.cells_between.ensures.1)
