use native.Mathlib.Omega.{arith}
use Rattle.plan_spec.proofs.Accepting.{passed_accepted}
use mathlib.Core.Path.{sym, ◌∙◌}
use Rattle.cube_spec.proofs.Sets.{kept_has, kept_out}
use Rattle.plan_spec.proofs.PricingLaws.{few_axes}
use Rattle.rack_spec.specs.Finding.{plan_grid, summed_in}
use Rattle.rack_spec.proofs.Planned.{axis_kept, axis_summed}
use borrow.Author.Rules.{rules}
use Rattle.rack_grid.proofs.places.kept_parts.Goals as goal

pub bounds-plan-d : goal.bounds-plan-d
bounds-plan-d c = let gd = c.well_formed.0.1.1.1.1 in
    let ok = passed_accepted c.args.plan (search rules) (search rules) (search rules) c.requires.0 in
    let f = few_axes ok in
    omega (arith, c.requires.1)

pub returns-then-keeps : goal.returns-then-keeps
returns-then-keeps c =
    let gd = c.well_formed.0.1.1.1.1 in
    let ok = passed_accepted c.args.plan (search rules) (search rules) (search rules) c.requires.0 in
    let k = axis_kept c.args.plan ok c.args.choice.mask c.args.d c.requires.1 (sym c.keeps.ensures ∙ c.if-keeps.true) in
    (c.parts_of.ensures.0 ∙ sym (kept_out (plan_grid c.args.plan).parts (summed_in c.args.plan c.args.choice.mask) c.args.d k), c.parts_of.ensures.2)

pub returns-else-keeps : goal.returns-else-keeps
returns-else-keeps c =
    let gd = c.well_formed.0.1.1.1.1 in
    let ok = passed_accepted c.args.plan (search rules) (search rules) (search rules) c.requires.0 in
    let k = axis_summed c.args.plan ok c.args.choice.mask c.args.d c.requires.1 (sym c.keeps.ensures ∙ c.if-keeps.false) in
    (sym (kept_has (plan_grid c.args.plan).parts (summed_in c.args.plan c.args.choice.mask) c.args.d k), omega arith)
