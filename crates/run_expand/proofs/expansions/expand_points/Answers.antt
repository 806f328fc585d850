use mathlib.Core.Path.{sym, ap, ◌∙◌}
use native.Mathlib.Omega.{arith}
use lib.ListN.{length}
use Rattle.cube_spec.specs.Boxes.{table}
use Rattle.cube_spec.proofs.Slots.{table_slots}
use Rattle.plan_spec.proofs.Accepting.{passed_accepted}
use Rattle.plan_spec.proofs.PricingLaws.{few_axes}
use Rattle.rack_spec.specs.Finding.{plan_grid, summed_in}
use Rattle.rack_spec.proofs.Planned.{own_fit}
use Rattle.run_spec.specs.Memory.{read}
use Rattle.run_spec.specs.Expansions.{children_to}
use Rattle.run_spec.proofs.Expanded.{children_begin, children_form, children_turn, children_done}
use Rattle.run_spec.proofs.Ranked.{root_lead}
use Rattle.run_spec.proofs.Strided.{board_box, next_empty}
use borrow.Author.Rules.{rules}
use Rattle.run_expand.proofs.expansions.expand_points.Goals as goal

pub labels_of-labels-requires : goal.labels_of-labels-requires
labels_of-labels-requires c =
    let gd = c.well_formed.0.1.1.1.1 in
    let ok = passed_accepted c.args.plan (search rules) (search rules) (search rules) c.requires.0.passed in
    let r = root_lead (plan_grid c.args.plan) (summed_in c.args.plan c.args.root.mask) c.args.board (next_empty (summed_in c.args.plan c.args.root.mask) c.requires.1) c.requires.0.below in
    (c.requires.0.passed, r.0)

pub extents_of-extents-requires : goal.extents_of-extents-requires
extents_of-extents-requires c =
    let gd = c.well_formed.0.1.1.1.1 in
    let ok = passed_accepted c.args.plan (search rules) (search rules) (search rules) c.requires.0.passed in
    let r = root_lead (plan_grid c.args.plan) (summed_in c.args.plan c.args.root.mask) c.args.board (next_empty (summed_in c.args.plan c.args.root.mask) c.requires.1) c.requires.0.below in
    let own = (table_slots c.args.plan.axes _ c.labels_of-labels.result (few_axes ok) c.labels_of-labels.ensures).1 in
    (c.requires.0.passed, own_fit c.args.plan ok c.args.board r.0 c.labels_of-labels.result own)

pub first_cell-first-requires : goal.first_cell-first-requires
first_cell-first-requires c =
    let gd = c.well_formed.0.1.1.1.1 in
    let ok = passed_accepted c.args.plan (search rules) (search rules) (search rules) c.requires.0.passed in
    let r = root_lead (plan_grid c.args.plan) (summed_in c.args.plan c.args.root.mask) c.args.board (next_empty (summed_in c.args.plan c.args.root.mask) c.requires.1) c.requires.0.below in
    let own = (table_slots c.args.plan.axes _ c.labels_of-labels.result (few_axes ok) c.labels_of-labels.ensures).1 in
    (c.requires.0.passed, own_fit c.args.plan ok c.args.board r.0 c.labels_of-labels.result own, c.requires.4)

pub loop-j-init : goal.loop-j-init
loop-j-init c =
    let gd = c.well_formed.0.1.1.1.1 in
    let ok = passed_accepted c.args.plan (search rules) (search rules) (search rules) c.requires.0.passed in
    (ok, children_begin ok c.args.root.mask (read c.args.array.now) c.args.work.now c.requires.0.room _ _ (sym c.requires.1) (omega arith))

pub form_points-requires : goal.form_points-requires
form_points-requires c =
    let i = c.loop-j.invariant in
    let ok = i.0 in
    let r = root_lead (plan_grid c.args.plan) (summed_in c.args.plan c.args.root.mask) c.args.board (next_empty (summed_in c.args.plan c.args.root.mask) c.requires.1) c.requires.0.below in
    let h = c.loop-j-test.true in
    let l = c.labels_of-labels in
    let e = c.extents_of-extents in
    let p = c.first_cell-first in
    let own = (table_slots c.args.plan.axes _ l.result (few_axes ok) l.ensures).1 in
    let sides = table_slots c.args.plan.axes _ e.result (few_axes ok) e.ensures in
    let box = board_box c.args.plan ok c.args.root.mask c.args.board r.0 l.result e.result c.args.strides p.result in (
      children_form ok c.args.root.mask (read c.args.array.now) c.args.work.now c.requires.0.room i.1 c.requires.0.passed r.0 h,
      c.requires.1,
      c.requires.2,
      c.requires.3,
      box own sides.0 sides.1 c.requires.4 p.ensures,
    )

pub loop-j-preserved : goal.loop-j-preserved
loop-j-preserved c =
    let i = c.loop-j.invariant in
    let ok = i.0 in
    let r = root_lead (plan_grid c.args.plan) (summed_in c.args.plan c.args.root.mask) c.args.board (next_empty (summed_in c.args.plan c.args.root.mask) c.requires.1) c.requires.0.below in
    (ok, children_turn ok c.args.root.mask (read c.args.array.now) c.args.work.now c.requires.0.room i.1 r.0 r.1 c.loop-j-test.true _ c.form_points.ensures)

pub returns : goal.returns
returns c =
    let i = c.loop-j.invariant in
    let ok = i.0 in
    let r = root_lead (plan_grid c.args.plan) (summed_in c.args.plan c.args.root.mask) c.args.board (next_empty (summed_in c.args.plan c.args.root.mask) c.requires.1) c.requires.0.below in
    children_done ok c.args.root.mask (read c.args.array.now) c.args.work.now c.requires.0.room i.1 c.loop-j-test.false
    ∙ sym (ap (λ b. table (length c.args.work.now) (children_to (plan_grid c.args.plan) (read c.args.array.now) (summed_in c.args.plan c.args.root.mask) b (plan_grid c.args.plan).axes (read c.args.work.now))) r.2)
