-- `run_child::forming::form_points` meets its contract.
use mathlib.Core.Path.{sym, ap, ◌∙◌}
use native.Mathlib.Omega.{arith}
use lib.ListN.{length, get_or}
use Rattle.cube_spec.specs.Boxes.{table}
use Rattle.plan_spec.specs.Plans.{lists_of}
use Rattle.plan_spec.proofs.Accepting.{passed_accepted}
use Rattle.plan_spec.proofs.PricingLaws.{few_axes}
use Rattle.rack_spec.specs.Finding.{plan_grid, summed_in}
use Rattle.rack_spec.proofs.Tallied.{axes_same, boards_few}
use Rattle.cell_spec.proofs.Summing.{sums_same, sums_written}
use Rattle.run_spec.specs.Memory.{read}
use Rattle.run_spec.specs.Expansions.{one_child}
use Rattle.run_spec.proofs.Formed.{place_in, room_in, region_small, region_is}
use Rattle.run_spec.proofs.Rooted.{root_sums, root_formed}
use Rattle.run_spec.proofs.Strided.{child_box, child_slots, child_merges, root_count, root_step, next_empty}
use borrow.Author.Rules.{rules}
use Rattle.run_child.proofs.forming.form_points.Goals as goal

pub region_in-to-requires : goal.region_in-to-requires
region_in-to-requires c =
    let gd = c.well_formed.0.1.1.1.1 in
    let ok = passed_accepted c.args.plan (search rules) (search rules) (search rules) c.requires.0.passed in
    let f = c.requires.0 in
    let r = region_small ok c.requires.3 c.args.j f.inside in let b = boards_few c.args.plan ok in (omega (arith, f.board), r.0, r.1, r.2)

pub bounds-extents-j : goal.bounds-extents-j
bounds-extents-j c =
    let gd = c.well_formed.0.1.1.1.1 in
    let ok = passed_accepted c.args.plan (search rules) (search rules) (search rules) c.requires.0.passed in
    let f = c.requires.0 in
    let n8 = few_axes ok in let i = f.inside in omega arith

pub bounds-strides-j : goal.bounds-strides-j
bounds-strides-j c =
    let gd = c.well_formed.0.1.1.1.1 in
    let ok = passed_accepted c.args.plan (search rules) (search rules) (search rules) c.requires.0.passed in
    let f = c.requires.0 in
    let n8 = few_axes ok in let i = f.inside in omega arith

pub bounds-sides-j : goal.bounds-sides-j
bounds-sides-j c =
    let gd = c.well_formed.0.1.1.1.1 in
    let ok = passed_accepted c.args.plan (search rules) (search rules) (search rules) c.requires.0.passed in
    let f = c.requires.0 in
    let n8 = few_axes ok in let i = f.inside in omega arith

pub merge-d-requires : goal.merge-d-requires
merge-d-requires c =
    let gd = c.well_formed.0.1.1.1.1 in
    let ok = passed_accepted c.args.plan (search rules) (search rules) (search rules) c.requires.0.passed in
    let f = c.requires.0 in
    let y = next_empty (summed_in c.args.plan c.args.root.mask) c.requires.1 in
    let pl = place_in ok f in
    child_merges c.args.plan ok c.args.board f.board c.args.j pl c.args.root.mask y c.requires.4

pub sum_box-requires : goal.sum_box-requires
sum_box-requires c =
    let gd = c.well_formed.0.1.1.1.1 in
    let ok = passed_accepted c.args.plan (search rules) (search rules) (search rules) c.requires.0.passed in
    let f = c.requires.0 in
    let y = next_empty (summed_in c.args.plan c.args.root.mask) c.requires.1 in
    let pl = place_in ok f in
    let x = axes_same c.args.plan ok in
    let bx = child_box c.args.plan ok c.args.board f.board c.args.j pl c.args.root.mask y c.requires.4 in
    let sl = child_slots c.args.plan ok c.args.board f.board c.args.j pl c.args.root.mask y c.requires.4 in
    let n8 = few_axes ok in
    let m = c.merge-d.ensures in
    let dst = region_is ok c.requires.3 c.args.j f.inside c.args.board _ c.region_in-to.ensures.0 in
    sums_same m.same (omega (arith, m.axes, m.extents, sl.0)) (omega (arith, m.axes, m.strides, sl.1))
    (root_sums (lists_of c.args.plan) ok.sound c.args.board f.board c.args.j pl bx c.args.plan.axes (sym x) _ (root_count c.args.plan ok c.args.board f.board c.args.j pl c.args.root.mask y c.requires.4) _ (root_step c.args.plan ok c.args.board f.board c.args.j pl c.args.root.mask y c.requires.4 c.args.j pl) _ dst _ c.args.array.now c.requires.2 sl.0 sl.1 (room_in ok f))

pub returns : goal.returns
returns c =
    let gd = c.well_formed.0.1.1.1.1 in
    let ok = passed_accepted c.args.plan (search rules) (search rules) (search rules) c.requires.0.passed in
    let f = c.requires.0 in
    let y = next_empty (summed_in c.args.plan c.args.root.mask) c.requires.1 in
    let pl = place_in ok f in
    let x = axes_same c.args.plan ok in
    let bx = child_box c.args.plan ok c.args.board f.board c.args.j pl c.args.root.mask y c.requires.4 in
    let sl = child_slots c.args.plan ok c.args.board f.board c.args.j pl c.args.root.mask y c.requires.4 in
    let n8 = few_axes ok in
    let m = c.merge-d.ensures in
    let dst = region_is ok c.requires.3 c.args.j f.inside c.args.board _ c.region_in-to.ensures.0 in
    c.sum_box.ensures.1
    ∙ sym (sums_written m.same c.args.work.now c.args.array.now c.args.first (get_or c.args.extents c.args.j 0) (get_or c.args.strides c.args.j 0) c.region_in-to.result)
    ∙ root_formed (lists_of c.args.plan) ok.sound c.args.board f.board c.args.j pl bx c.args.plan.axes (sym x) _ (root_count c.args.plan ok c.args.board f.board c.args.j pl c.args.root.mask y c.requires.4) _ (root_step c.args.plan ok c.args.board f.board c.args.j pl c.args.root.mask y c.requires.4 c.args.j pl) _ dst c.args.work.now c.args.array.now (room_in ok f)
    ∙ sym (ap (λ Y. table (length c.args.work.now) (one_child (plan_grid c.args.plan) (read c.args.array.now) Y c.args.board c.args.j (read c.args.work.now))) y)
