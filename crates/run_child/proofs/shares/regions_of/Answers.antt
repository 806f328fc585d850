use mathlib.Core.Path.{refl, ◌∙◌}
use native.Mathlib.Omega.{arith}
use Rattle.cube_spec.specs.Limits.{padded}
use Rattle.cube_spec.specs.Boxes.{table_from}
use Rattle.plan_spec.proofs.Accepting.{passed_accepted}
use Rattle.plan_spec.proofs.PricingLaws.{few_axes}
use Rattle.plan_spec.proofs.Turns.{filled}
use Rattle.rack_spec.specs.Grids.{region_start}
use Rattle.rack_spec.specs.Finding.{plan_grid}
use Rattle.rack_spec.proofs.Planned.{start_plan}
use borrow.Author.Rules.{rules}
use Rattle.run_child.proofs.shares.regions_of.Goals as goal

pub loop-i-init : goal.loop-i-init
loop-i-init c =
    let gd = c.well_formed.0.1.1.1.1 in
    let ok = passed_accepted c.args.plan (search rules) (search rules) (search rules) c.requires in
    (ok, omega arith, unfold padded table_from in refl)

pub loop-i-preserved : goal.loop-i-preserved
loop-i-preserved c =
    let i = c.loop-i.invariant in
    let h = c.loop-i-test.true in
    let f = few_axes i.0 in
    let e = c.region_of.ensures.0 ∙ start_plan c.args.plan i.0 c.loop-i.i in
    (i.0, omega (arith, h), filled (region_start (plan_grid c.args.plan)) c.loop-i.starts c.loop-i.i _ (omega (arith, h)) e i.2)
