use native.Mathlib.Omega.{arith}
use Rattle.plan_spec.proofs.Accepting.{passed_accepted}
use Prim.Native.Nat.{◌<◌}
use mathlib.Core.Path.{◌∙◌}
use native.Mathlib.Nat.{le_refl}
use lib.ListN.{get_or}
use Rattle.rack_spec.proofs.Planned.{cells_begin, cells_turn}
use Rattle.rack_spec.proofs.Tallied.{axis_fits, exponent_small}
use Rattle.plan_portion.proofs.Portioned.{kept_here, label_here}
use borrow.Author.Rules.{rules}
use Rattle.rack_grid.proofs.places.cells_between.Goals as goal

pub loop-d-init : goal.loop-d-init
loop-d-init c = let gd = c.well_formed.0.1.1.1.1 in let ok = passed_accepted c.args.plan (search rules) (search rules) (search rules) c.requires.0 in (ok, le_refl _, c.requires.2, cells_begin c.args.plan c.args.choice.mask c.args.labels c.args.first)

pub bounds-plan-i : goal.bounds-plan-i
bounds-plan-i c = let i = c.loop-d.invariant in let h : c.loop-d.d < c.args.plan.axes = omega (arith, c.requires.3, c.loop-d-test.true) in axis_fits c.args.plan i.0 c.loop-d.d h

pub bounds-plan-i-in-loop-d : goal.bounds-plan-i-in-loop-d
bounds-plan-i-in-loop-d c = let i = c.loop-d.invariant in let h : c.loop-d.d < c.args.plan.axes = omega (arith, c.requires.3, c.loop-d-test.true) in axis_fits c.args.plan i.0 c.loop-d.d h

pub kept_portion-count-requires : goal.kept_portion-count-requires
kept_portion-count-requires c = let i = c.loop-d.invariant in let h : c.loop-d.d < c.args.plan.axes = omega (arith, c.requires.3, c.loop-d-test.true) in (exponent_small c.args.plan i.0 c.loop-d.d h, label_here c.args.plan i.0 c.loop-d.d h c.args.labels c.requires.1)

pub overflow_mul-count : goal.overflow_mul-count
overflow_mul-count c = let i = c.loop-d.invariant in let h : c.loop-d.d < c.args.plan.axes = omega (arith, c.requires.3, c.loop-d-test.true) in let e = c.kept_portion-count.ensures ∙ kept_here c.args.plan i.0 c.loop-d.d h c.args.choice.mask (get_or c.args.labels c.loop-d.d 0) c.keeps.result c.keeps.ensures in let k = cells_turn c.args.plan i.0 c.args.choice.mask c.args.labels c.args.first c.requires.1 c.loop-d.count c.loop-d.d i.1 h i.3 in rw e (let f = k.fits in omega arith)

pub loop-d-preserved : goal.loop-d-preserved
loop-d-preserved c = let i = c.loop-d.invariant in let h : c.loop-d.d < c.args.plan.axes = omega (arith, c.requires.3, c.loop-d-test.true) in let e = c.kept_portion-count.ensures ∙ kept_here c.args.plan i.0 c.loop-d.d h c.args.choice.mask (get_or c.args.labels c.loop-d.d 0) c.keeps.result c.keeps.ensures in let k = cells_turn c.args.plan i.0 c.args.choice.mask c.args.labels c.args.first c.requires.1 c.loop-d.count c.loop-d.d i.1 h i.3 in (i.0, omega (arith, i.1), omega (arith, c.loop-d-test.true), rw e k)
