use borrow.Author.Rules.{rules}
use native.Mathlib.Omega.{arith}
use Rattle.plan_spec.proofs.Accepting.{passed_accepted}
use Prim.Native.Nat.{ℕ}
use mathlib.Core.Path.{refl, ◌∙◌}
use mathlib.Core.List.{List}
use lib.ListN.{get_or}
use Rattle.cube_spec.specs.Limits.{padded}
use Rattle.cube_spec.specs.Boxes.{table_from}
use Rattle.plan_spec.specs.declared.types.Plan.{Plan}
use Rattle.plan_spec.proofs.PricingLaws.{few_axes}
use Rattle.plan_spec.proofs.Turns.{filled}
use Rattle.rack_spec.specs.Grids.{board_with, box}
use Rattle.rack_spec.specs.Finding.{plan_grid, summed_in}
use Rattle.run_spec.proofs.Strided.{order_in, extent_with}
use Rattle.rack_spec.proofs.Tallied.{exponent_small}
use Rattle.plan_portion.proofs.Portioned.{kept_here, label_here}
use Rattle.run_box.proofs.points.extents_of.Goals as goal

abbrev sides : Plan → ℕ → List ℕ → ℕ → ℕ
sides q mask labels = box (plan_grid q) (summed_in q mask) (board_with (plan_grid q) (λ i. get_or labels i 0))

pub loop-d-init : goal.loop-d-init
loop-d-init c = let ok = passed_accepted c.args.plan (search rules) (search rules) (search rules) c.requires.0 in
    (ok, c.requires.1, omega arith, unfold padded table_from in refl)

pub bounds-plan-i : goal.bounds-plan-i
bounds-plan-i c = let i = c.loop-d.invariant in let h = c.loop-d-test.true in omega (arith, few_axes i.0, order_in c.args.plan i.0 c.loop-d.d h)

pub bounds-plan-i-in-loop-d : goal.bounds-plan-i-in-loop-d
bounds-plan-i-in-loop-d c = let i = c.loop-d.invariant in let h = c.loop-d-test.true in omega (arith, few_axes i.0, order_in c.args.plan i.0 c.loop-d.d h)

pub kept_portion-extent-requires : goal.kept_portion-extent-requires
kept_portion-extent-requires c = let i = c.loop-d.invariant in let h = c.loop-d-test.true in (exponent_small c.args.plan i.0 c.loop-d.d h, label_here c.args.plan i.0 c.loop-d.d h c.args.labels i.1)

pub loop-d-preserved : goal.loop-d-preserved
loop-d-preserved c = let k = c.keeps-kept in
    let q = c.args.plan in
    let mask = c.args.choice.mask in
    let labels = c.args.labels in
    let i = c.loop-d.invariant in
    let d = c.loop-d.d in
    let h = c.loop-d-test.true in
    let f = few_axes i.0 in
    let e = c.kept_portion-extent.ensures
    ∙ kept_here q i.0 d h mask (get_or labels d 0) k.result k.ensures
    ∙ extent_with q i.0 mask labels i.1 d h in
    (i.0, i.1, omega (arith, h), filled (sides q mask labels) c.loop-d.extents d _ (omega (arith, h)) e i.3)
