-- `run_child::forming::form_cells` meets its contract.
use Prim.Native.Nat.{◌-◌, ◌<◌}
use mathlib.Core.Path.{ap, ◌∙◌}
use native.Mathlib.Nat.{le_refl}
use native.Mathlib.Omega.{arith}
use Rattle.plan_spec.proofs.Accepting.{passed_accepted}
use Rattle.plan_spec.proofs.PricingLaws.{few_axes}
use Rattle.rack_spec.specs.Grids.{index}
use Rattle.rack_spec.specs.Finding.{plan_grid, summed_in}
use Rattle.rack_spec.proofs.Tallied.{lawful, boards_few}
use Rattle.rack_spec.proofs.Planned.{own_fit}
use Rattle.run_spec.proofs.Formed.{down_of, place_in, room_in, outer_is, inner_is, extent_is, region_small, region_is, sums_fit, sums_formed}
use borrow.Author.Rules.{rules}
use Rattle.run_child.proofs.forming.form_cells.Goals as goal

pub cells_between-outer-requires : goal.cells_between-outer-requires
cells_between-outer-requires c =
    let gd = c.well_formed.0.1.1.1.1 in
    let ok = passed_accepted c.args.plan (search rules) (search rules) (search rules) c.requires.1.passed in
    let f = c.requires.1 in
    let fit = own_fit c.args.plan ok c.args.board f.board c.args.labels c.requires.0 in
    let i = f.inside in (f.passed, fit, omega arith, omega arith)

pub bounds-labels-j : goal.bounds-labels-j
bounds-labels-j c =
    let gd = c.well_formed.0.1.1.1.1 in
    let ok = passed_accepted c.args.plan (search rules) (search rules) (search rules) c.requires.1.passed in
    let f = c.requires.1 in
    let n = few_axes ok in let i = f.inside in omega arith

pub extent_of-extent-requires : goal.extent_of-extent-requires
extent_of-extent-requires c =
    let gd = c.well_formed.0.1.1.1.1 in
    let ok = passed_accepted c.args.plan (search rules) (search rules) (search rules) c.requires.1.passed in
    let f = c.requires.1 in
    let fit = own_fit c.args.plan ok c.args.board f.board c.args.labels c.requires.0 in
    (f.passed, f.inside, fit c.args.j f.inside)

pub cells_between-inner-requires : goal.cells_between-inner-requires
cells_between-inner-requires c =
    let gd = c.well_formed.0.1.1.1.1 in
    let ok = passed_accepted c.args.plan (search rules) (search rules) (search rules) c.requires.1.passed in
    let f = c.requires.1 in
    let fit = own_fit c.args.plan ok c.args.board f.board c.args.labels c.requires.0 in
    let i = f.inside in (f.passed, fit, omega arith, le_refl _)

pub region_in-src-requires : goal.region_in-src-requires
region_in-src-requires c =
    let gd = c.well_formed.0.1.1.1.1 in
    let ok = passed_accepted c.args.plan (search rules) (search rules) (search rules) c.requires.1.passed in
    let f = c.requires.1 in
    let i = f.inside in
    let l = f.later in
    let e = c.requires.2 in
    let p = c.requires.3 in
    let n : c.args.next - 1 < c.args.plan.axes = omega arith in
    let r = region_small ok c.requires.4 (c.args.next - 1) n in let b = boards_few c.args.plan ok in (omega (arith, f.board), r.0, r.1, r.2)

pub region_in-dst-requires : goal.region_in-dst-requires
region_in-dst-requires c =
    let gd = c.well_formed.0.1.1.1.1 in
    let ok = passed_accepted c.args.plan (search rules) (search rules) (search rules) c.requires.1.passed in
    let f = c.requires.1 in
    let r = region_small ok c.requires.4 c.args.j f.inside in let b = boards_few c.args.plan ok in (omega (arith, f.board), r.0, r.1, r.2)

pub sum_axis-requires : goal.sum_axis-requires
sum_axis-requires c =
    let gd = c.well_formed.0.1.1.1.1 in
    let ok = passed_accepted c.args.plan (search rules) (search rules) (search rules) c.requires.1.passed in
    let f = c.requires.1 in
    let i = f.inside in
    let l = f.later in
    let e = c.requires.2 in
    let p = c.requires.3 in
    let n : c.args.next - 1 < c.args.plan.axes = omega arith in
    let src = region_is ok c.requires.4 (c.args.next - 1) n c.args.board _ c.region_in-src.ensures.0 ∙ ap (λ p. index (plan_grid c.args.plan) c.args.board (p - 1) 0) e in
    let dst = region_is ok c.requires.4 c.args.j i c.args.board _ c.region_in-dst.ensures.0 in
    sums_fit (plan_grid c.args.plan) (lawful c.args.plan ok) c.args.board c.args.j f.board (place_in ok f) (summed_in c.args.plan c.args.choice.mask) (omega (arith, e, p)) (down_of ok f) f.later _ _ _ _ _ _ src dst
    (outer_is ok f c.args.labels c.requires.0 _ c.cells_between-outer.ensures.0)
    (extent_is ok f c.args.labels c.requires.0 _ c.extent_of-extent.ensures.0)
    (inner_is ok f c.args.labels c.requires.0 _ c.cells_between-inner.ensures.0)
    (room_in ok f)

pub returns : goal.returns
returns c =
    let gd = c.well_formed.0.1.1.1.1 in
    let ok = passed_accepted c.args.plan (search rules) (search rules) (search rules) c.requires.1.passed in
    let f = c.requires.1 in
    let i = f.inside in
    let l = f.later in
    let e = c.requires.2 in
    let p = c.requires.3 in
    let n : c.args.next - 1 < c.args.plan.axes = omega arith in
    let src = region_is ok c.requires.4 (c.args.next - 1) n c.args.board _ c.region_in-src.ensures.0 ∙ ap (λ p. index (plan_grid c.args.plan) c.args.board (p - 1) 0) e in
    let dst = region_is ok c.requires.4 c.args.j i c.args.board _ c.region_in-dst.ensures.0 in
    c.sum_axis.ensures ∙ sums_formed (plan_grid c.args.plan) (lawful c.args.plan ok) c.args.board c.args.j f.board (place_in ok f) (summed_in c.args.plan c.args.choice.mask) (omega (arith, e, p)) (down_of ok f) f.later _ _ _ _ _ _ src dst
    (outer_is ok f c.args.labels c.requires.0 _ c.cells_between-outer.ensures.0)
    (extent_is ok f c.args.labels c.requires.0 _ c.extent_of-extent.ensures.0)
    (inner_is ok f c.args.labels c.requires.0 _ c.cells_between-inner.ensures.0)
    (room_in ok f)
