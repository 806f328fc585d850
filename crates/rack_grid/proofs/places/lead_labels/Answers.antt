use native.Mathlib.Omega.{arith}
use Rattle.plan_spec.proofs.Accepting.{passed_accepted}
use Prim.Native.Nat.{◌-◌, ◌<◌}
use mathlib.Core.Path.{refl, sym, ◌∙◌}
use lib.ListN.{length-set}
use Rattle.rack_spec.proofs.Planned.{ranking_start, ranking_kept, ranking_summed, ranking_end}
use Rattle.rack_spec.proofs.Tallied.{axis_fits, parts_shifted, exponent_small, parts_small}
use borrow.Author.Rules.{rules}
use Rattle.rack_grid.proofs.places.lead_labels.Goals as goal

pub loop-d-init : goal.loop-d-init
loop-d-init c = let gd = c.well_formed.0.1.1.1.1 in let ok = passed_accepted c.args.plan (search rules) (search rules) (search rules) c.requires.0 in (ok, refl, ranking_start c.args.plan ok c.args.choice.mask c.args.rank)

pub bounds-plan-axis : goal.bounds-plan-axis
bounds-plan-axis c = let i = c.loop-d.invariant in let h : c.loop-d.d - 1 < c.args.plan.axes = omega (arith, c.loop-d.auto.d, c.loop-d-test.true) in axis_fits c.args.plan i.0 (c.loop-d.d - 1) h

pub overflow_shl-parts : goal.overflow_shl-parts
overflow_shl-parts c = let i = c.loop-d.invariant in let h : c.loop-d.d - 1 < c.args.plan.axes = omega (arith, c.loop-d.auto.d, c.loop-d-test.true) in let e = exponent_small c.args.plan i.0 (c.loop-d.d - 1) h in omega arith

pub nonzero_rem-labels : goal.nonzero_rem-labels
nonzero_rem-labels c = let i = c.loop-d.invariant in let h : c.loop-d.d - 1 < c.args.plan.axes = omega (arith, c.loop-d.auto.d, c.loop-d-test.true) in rw (parts_shifted c.args.plan i.0 (c.loop-d.d - 1) h) (parts_small c.args.plan i.0 (c.loop-d.d - 1) h).0

pub nonzero_div-rest : goal.nonzero_div-rest
nonzero_div-rest c = let i = c.loop-d.invariant in let h : c.loop-d.d - 1 < c.args.plan.axes = omega (arith, c.loop-d.auto.d, c.loop-d-test.true) in rw (parts_shifted c.args.plan i.0 (c.loop-d.d - 1) h) (parts_small c.args.plan i.0 (c.loop-d.d - 1) h).0

pub loop-d-preserved-then-keeps : goal.loop-d-preserved-then-keeps
loop-d-preserved-then-keeps c = let i = c.loop-d.invariant in let h : c.loop-d.d - 1 < c.args.plan.axes = omega (arith, c.loop-d.auto.d, c.loop-d-test.true) in let e = parts_shifted c.args.plan i.0 (c.loop-d.d - 1) h in (i.0, simp length-set i.1, rw e (ranking_kept c.args.plan i.0 c.args.choice.mask c.args.rank c.requires.1 c.loop-d.labels c.loop-d.rest c.loop-d.d c.loop-d.auto.d c.loop-d-test.true i.1 i.2 (sym c.keeps.ensures ∙ c.if-keeps.true)))

pub loop-d-preserved : goal.loop-d-preserved
loop-d-preserved c = let i = c.loop-d.invariant in (i.0, i.1, ranking_summed c.args.plan i.0 c.args.choice.mask c.args.rank c.requires.1 c.loop-d.labels c.loop-d.rest c.loop-d.d c.loop-d.auto.d c.loop-d-test.true i.2 (sym c.keeps.ensures ∙ c.if-keeps.false))

pub returns : goal.returns
returns c =
    let i = c.loop-d.invariant in
    ranking_end c.args.plan i.0 c.args.choice.mask c.args.rank c.loop-d.labels c.loop-d.rest c.loop-d.d c.loop-d-test.false i.1 i.2
