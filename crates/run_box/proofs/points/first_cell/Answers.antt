use borrow.Author.Rules.{rules}
use native.Mathlib.Omega.{arith}
use mathlib.Core.List.{List}
use Prim.Native.Nat.{ℕ, ◌^◌, ◌<◌, ◌+◌, ◌*◌, ◌≤◌}
use mathlib.Core.Path.{◌≡◌, refl, sym, ap, ap₂, ◌∙◌}
use lib.ListN.{get_or}
use Rattle.cube_spec.specs.Boxes.{sum_n}
use Rattle.cube_spec.specs.Portions.{portion_start}
use Rattle.cube_spec.specs.Limits.{point_limit}
use Rattle.cube_spec.proofs.Naturals.{sum_n_cong, sum_n_last}
use Rattle.plan_spec.proofs.Accepting.{passed_accepted}
use Rattle.plan_spec.proofs.PricingLaws.{few_axes}
use Rattle.rack_spec.specs.Finding.{plan_grid, Labels}
use Rattle.rack_spec.proofs.Tallied.{exponent_small}
use Rattle.rack_spec.proofs.Planned.{start_small}
use Rattle.plan_portion.proofs.Portioned.{start_here, label_here}
use Rattle.run_spec.proofs.Strided.{order_in, stride_small, term_fits}
use Rattle.run_spec.specs.Expansions.{Strides}
use Rattle.plan_spec.specs.Accepted.{Accepted}
use Rattle.plan_spec.specs.declared.types.Plan.{Plan}
use Rattle.run_box.proofs.points.first_cell.Goals as goal

-- the term that axis d adds, and how large it is
term : (q : Plan) (ok : Accepted q) (mask : ℕ) (strides labels : List ℕ) → Strides q mask strides → Labels q labels → (d : ℕ) → d < q.axes
    → (s : ℕ) → s ≡ portion_start (get_or q.lengths (get_or q.order d 0) 0) (2 ^ get_or q.exponents (get_or q.order d 0) 0) (get_or labels d 0)
    → (s ≡ (plan_grid q).start d (get_or labels d 0)) × (s * get_or strides d 0 ≤ 1099511627776)
term q ok mask strides labels t l d h s e =
    let g = e ∙ start_here q ok d h (get_or labels d 0) in
    let r : get_or labels d 0 ≤ (plan_grid q).parts d = (let b = l d h in omega arith) in
    let b : get_or strides d 0 ≤ point_limit = rw (t.1 d h) (stride_small q ok mask d h) in
    (g, term_fits s (get_or strides d 0) (rw g (start_small q ok d (get_or labels d 0) h r)) b)

pub loop-d-init : goal.loop-d-init
unfolding sum_n
loop-d-init c = let ok = passed_accepted c.args.plan (search rules) (search rules) (search rules) c.requires.0 in (ok, c.requires.1, omega arith, refl, omega arith)

pub bounds-plan-i : goal.bounds-plan-i
bounds-plan-i c = let i = c.loop-d.invariant in let h = c.loop-d-test.true in omega (arith, few_axes i.0, order_in c.args.plan i.0 c.loop-d.d h)

pub bounds-plan-i-in-loop-d : goal.bounds-plan-i-in-loop-d
bounds-plan-i-in-loop-d c = let i = c.loop-d.invariant in let h = c.loop-d-test.true in omega (arith, few_axes i.0, order_in c.args.plan i.0 c.loop-d.d h)

pub portion_start-start-requires : goal.portion_start-start-requires
portion_start-start-requires c = let i = c.loop-d.invariant in let h = c.loop-d-test.true in let l = label_here c.args.plan i.0 c.loop-d.d h c.args.labels i.1 in (exponent_small c.args.plan i.0 c.loop-d.d h, omega arith)

pub overflow_mul-at : goal.overflow_mul-at
overflow_mul-at c =
    let i = c.loop-d.invariant in
    let t = term c.args.plan i.0 c.args.choice.mask c.args.strides c.args.labels c.requires.2 i.1 c.loop-d.d c.loop-d-test.true _ c.portion_start-start.ensures in
    omega (arith, t.1)

pub overflow_add-at : goal.overflow_add-at
overflow_add-at c =
    let i = c.loop-d.invariant in
    let t = term c.args.plan i.0 c.args.choice.mask c.args.strides c.args.labels c.requires.2 i.1 c.loop-d.d c.loop-d-test.true _ c.portion_start-start.ensures in
    omega (arith, t.1, i.4, few_axes i.0)

pub loop-d-preserved : goal.loop-d-preserved
loop-d-preserved c =
    let i = c.loop-d.invariant in
    let d = c.loop-d.d in
    let a = c.args in
    let t = term a.plan i.0 a.choice.mask a.strides a.labels c.requires.2 i.1 d c.loop-d-test.true _ c.portion_start-start.ensures in (
      i.0,
      i.1,
      omega (arith, c.loop-d-test.true),
      ap₂ ◌+◌ i.3 (ap (λ x. x * get_or a.strides d 0) t.0) ∙ sym (sum_n_last d (λ d. (plan_grid a.plan).start d (get_or a.labels d 0) * get_or a.strides d 0)),
      omega (arith, i.4, t.1),
    )

pub returns : goal.returns
returns c =
    let i = c.loop-d.invariant in
    let a = c.args in
    let e : c.loop-d.d ≡ a.plan.axes = omega (arith, i.2, c.loop-d-test.false) in
    i.3 ∙ ap (λ n. sum_n n (λ d. (plan_grid a.plan).start d (get_or a.labels d 0) * get_or a.strides d 0)) e
    ∙ sum_n_cong a.plan.axes (λ d h. ap (λ x. (plan_grid a.plan).start d (get_or a.labels d 0) * x) (c.requires.2.1 d h))
