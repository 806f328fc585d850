use mathlib.Core.Path.{sym, ◌∙◌}
use Rattle.cube_spec.proofs.Slots.{table_slots}
use Rattle.plan_spec.proofs.Accepting.{passed_accepted}
use Rattle.plan_spec.proofs.PricingLaws.{few_axes}
use Rattle.rack_spec.proofs.Tallied.{axes_same}
use Rattle.rack_spec.proofs.Planned.{own_fit}
use Rattle.cell_spec.proofs.Merging.{merged_boxed, merged_placed}
use Rattle.run_spec.proofs.Gathers.{lead_mergeable, lead_boxed, lead_copied}
use borrow.Author.Rules.{rules}
use Rattle.run_copy.proofs.copy_lead.Goals as goal

pub extents_of-extents-requires : goal.extents_of-extents-requires
extents_of-extents-requires c = let gd = c.well_formed.0.1.1.1.1 in let ok = passed_accepted c.args.plan (search rules) (search rules) (search rules) c.requires.0.passed in let fit = own_fit c.args.plan ok c.args.board c.requires.1 c.args.labels c.requires.3 in (c.requires.0.passed, fit)

pub first_cell-at-requires : goal.first_cell-at-requires
first_cell-at-requires c = let gd = c.well_formed.0.1.1.1.1 in let ok = passed_accepted c.args.plan (search rules) (search rules) (search rules) c.requires.0.passed in let fit = own_fit c.args.plan ok c.args.board c.requires.1 c.args.labels c.requires.3 in (c.requires.0.passed, fit, c.requires.4)

pub merge-k-requires : goal.merge-k-requires
merge-k-requires c =
    let q = c.args.plan in
    let gd = c.well_formed.0.1.1.1.1 in
    let ok = passed_accepted q (search rules) (search rules) (search rules) c.requires.0.passed in
    let sides = table_slots q.axes _ c.extents_of-extents.result (few_axes ok) c.extents_of-extents.ensures in
    let a = c.args in
    let p = c.requires in
    let e = c.extents_of-extents.result in
    let k = c.first_cell-at in
    lead_mergeable q ok a.choice.mask a.board p.1 p.2 a.labels e a.strides k.result p.3 sides.1 p.4.1 k.ensures
    sides.0 p.4.0 (few_axes ok)

pub put_box-requires : goal.put_box-requires
put_box-requires c =
    let q = c.args.plan in
    let gd = c.well_formed.0.1.1.1.1 in
    let ok = passed_accepted q (search rules) (search rules) (search rules) c.requires.0.passed in
    let sides = table_slots q.axes _ c.extents_of-extents.result (few_axes ok) c.extents_of-extents.ensures in
    let a = c.args in
    let p = c.requires in
    let e = c.extents_of-extents.result in
    let k = c.first_cell-at in
    merged_boxed c.merge-k.ensures
    (lead_boxed q ok a.choice.mask a.board p.1 p.2 a.labels e a.strides k.result p.3 sides.1 p.4.1 k.ensures
    q.axes (sym (axes_same q ok)) sides.0 p.4.0
    (few_axes ok) a.src p.5 a.work.now a.res.now p.0)

pub returns : goal.returns
returns c =
    let q = c.args.plan in
    let gd = c.well_formed.0.1.1.1.1 in
    let ok = passed_accepted q (search rules) (search rules) (search rules) c.requires.0.passed in
    let sides = table_slots q.axes _ c.extents_of-extents.result (few_axes ok) c.extents_of-extents.ensures in
    let a = c.args in
    let p = c.requires in
    let e = c.extents_of-extents.result in
    let k = c.first_cell-at in
    c.put_box.ensures.1 ∙ merged_placed c.merge-k.ensures _ _ _
    ∙ lead_copied q ok a.choice.mask a.board p.1 p.2 a.labels e a.strides k.result p.3 sides.1 p.4.1 k.ensures
    q.axes (sym (axes_same q ok)) sides.0 p.4.0
    (few_axes ok) a.src p.5 a.work.now a.res.now p.0
