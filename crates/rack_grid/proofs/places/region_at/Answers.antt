use mathlib.Core.Path.{◌∙◌, ap₂}
use Prim.Native.Nat.{ℕ, ◌+◌, ◌*◌}
use Rattle.plan_spec.proofs.Accepting.{passed_accepted}
use Rattle.plan_spec.proofs.PricingLaws.{few_axes}
use Rattle.rack_spec.specs.Finding.{plan_grid}
use Rattle.rack_spec.proofs.Planned.{share_plan, start_plan, first_cell, area_fits}
use borrow.Author.Rules.{rules}
use Rattle.rack_grid.proofs.places.region_at.Goals as goal

pub returns : goal.returns
returns c = let r = c.region_of-regions in
    let gd = c.well_formed.0.1.1.1.1 in
    let ok = passed_accepted c.args.plan (search rules) (search rules) (search rules) c.requires.0 in
    let b = area_fits c.args.board r.result.share r.result.start c.args.plan.axes c.args.i c.requires.1 (few_axes ok) c.requires.2 r.ensures.3 r.ensures.2 in
    (ap₂ (λ (a r : ℕ). c.args.board * a + r) (r.ensures.1 ∙ share_plan c.args.plan ok) (r.ensures.0 ∙ start_plan c.args.plan ok c.args.i) ∙ first_cell (plan_grid c.args.plan) c.args.board c.args.i, b)
