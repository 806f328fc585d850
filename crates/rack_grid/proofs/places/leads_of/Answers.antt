use Prim.Native.Nat.{◌*◌, ◌≤◌}
use mathlib.Core.Path.{◌≡◌, ◌∙◌, ap, ap₂}
use native.Mathlib.Omega.{arith}
use native.Mathlib.Nat.{mul-le-mul}
use Rattle.cube_spec.specs.Boxes.{product}
use Rattle.cube_spec.specs.Tree.{kept}
use Rattle.plan_spec.proofs.Accepting.{passed_accepted}
use Rattle.rack_spec.specs.Finding.{plan_grid, summed_in}
use Rattle.rack_grid.proofs.Leads.{count_small, count_none, count_turn, count_end}
use borrow.Author.Rules.{rules}
use Rattle.rack_grid.proofs.places.leads_of.Goals as goal

pub loop-d-init : goal.loop-d-init
loop-d-init c = let gd = c.well_formed.0.1.1.1.1 in
    let ok = passed_accepted c.args.plan (search rules) (search rules) (search rules) c.requires in
    (ok, count_none c.args.plan ok c.args.choice.mask)

pub overflow_mul-count : goal.overflow_mul-count
overflow_mul-count c =
    let i = c.loop-d.invariant in
    let a = count_small c.args.plan i.0 c.args.choice.mask c.loop-d.d c.loop-d.auto.d-end in
    let b : c.loop-d.count ≤ 1024 = (let e = i.1 in omega arith) in
    let m = mul-le-mul b c.kept_parts-count.ensures.1 in
    omega arith

pub loop-d-preserved : goal.loop-d-preserved
loop-d-preserved c =
    let i = c.loop-d.invariant in
    (i.0, ap₂ ◌*◌ i.1 c.kept_parts-count.ensures.0 ∙ count_turn c.args.plan i.0 c.args.choice.mask c.loop-d.d)

pub returns : goal.returns
returns c =
    let i = c.loop-d.invariant in
    let e : c.loop-d.d ≡ c.args.plan.axes = omega (arith, c.loop-d.auto.d-end, c.loop-d-test.false) in
    let a = count_small c.args.plan i.0 c.args.choice.mask c.loop-d.d c.loop-d.auto.d-end in
    let b = i.1 in
    (i.1 ∙ ap (λ n. product (kept (summed_in c.args.plan c.args.choice.mask) (plan_grid c.args.plan).parts) n 0) e ∙ count_end c.args.plan i.0 c.args.choice.mask, omega arith)
