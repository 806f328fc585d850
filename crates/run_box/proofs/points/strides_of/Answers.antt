use borrow.Author.Rules.{rules}
use Prim.Native.Nat.{ℕ}
use mathlib.Core.Path.{refl}
use native.Mathlib.Omega.{arith}
use Rattle.cube_spec.specs.Limits.{padded}
use Rattle.cube_spec.specs.Boxes.{table_from}
use Rattle.plan_spec.specs.declared.types.Plan.{Plan}
use Rattle.plan_spec.proofs.Accepting.{passed_accepted}
use Rattle.plan_spec.proofs.PricingLaws.{few_axes}
use Rattle.plan_spec.proofs.Turns.{filled}
use Rattle.rack_spec.specs.Finding.{plan_grid, summed_in}
use Rattle.run_spec.specs.Copies.{cell_stride}
use Rattle.run_box.proofs.points.strides_of.Goals as goal

abbrev apart : Plan → ℕ → ℕ → ℕ
apart q mask = cell_stride (plan_grid q) (summed_in q mask)

pub loop-d-init : goal.loop-d-init
loop-d-init c = let ok = passed_accepted c.args.plan (search rules) (search rules) (search rules) c.requires in
    (ok, omega arith, unfold padded table_from in refl)

pub loop-d-preserved : goal.loop-d-preserved
loop-d-preserved c =
    let a = c.args in
    let i = c.loop-d.invariant in
    let h = c.loop-d-test.true in
    let f = few_axes i.0 in
    let e = c.stride_of.ensures.0 in
    (i.0, omega (arith, h), filled (apart a.plan a.choice.mask) c.loop-d.strides c.loop-d.d _ (omega (arith, h)) e i.2)
