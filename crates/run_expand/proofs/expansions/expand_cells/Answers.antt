use mathlib.Core.Path.{sym, ap, ◌∙◌}
use mathlib.Core.List.{[]}
use lib.ListN.{length}
use Rattle.cube_spec.specs.Boxes.{table}
use Rattle.cube_spec.proofs.Slots.{table_slots}
use Rattle.plan_spec.proofs.Accepting.{passed_accepted}
use Rattle.plan_spec.proofs.PricingLaws.{few_axes}
use Rattle.rack_spec.specs.Grids.{label}
use Rattle.rack_spec.specs.Finding.{plan_grid, summed_in}
use Rattle.run_spec.specs.Memory.{read}
use Rattle.run_spec.specs.Expansions.{one_child, Forms}
use Rattle.run_spec.proofs.Expanded.{children_begin, children_form, children_turn, children_done}
use Rattle.run_spec.proofs.Ranked.{ranked_inside, ranked_lead, ranked_own, ranked_labels, ranked_board}
use borrow.Author.Rules.{rules}
use Rattle.run_expand.proofs.expansions.expand_cells.Goals as goal

pub board_of-board-requires : goal.board_of-board-requires
board_of-board-requires c =
    let gd = c.well_formed.0.1.1.1.1 in
    let ok = passed_accepted c.args.plan (search rules) (search rules) (search rules) c.requires.0.passed in
    let own = (table_slots c.args.plan.axes _ c.lead_labels-labels.result (few_axes ok) c.lead_labels-labels.ensures).1 in
    (c.requires.0.passed, ranked_labels ok c.args.choice.mask c.args.rank c.requires.0.below c.lead_labels-labels.result own)

pub loop-j-init : goal.loop-j-init
loop-j-init c =
    let gd = c.well_formed.0.1.1.1.1 in
    let ok = passed_accepted c.args.plan (search rules) (search rules) (search rules) c.requires.0.passed in
    (ok, children_begin ok c.args.choice.mask (read []) c.args.work.now c.requires.0.room _ _ c.requires.1 c.requires.3)

pub form_cells-requires : goal.form_cells-requires
form_cells-requires c =
    let i = c.loop-j.invariant in
    let ok = i.0 in
    let l = c.lead_labels-labels in
    let own = (table_slots c.args.plan.axes _ l.result (few_axes ok) l.ensures).1 in
    let e = c.board_of-board.ensures.0 ∙ ranked_board ok c.args.choice.mask c.args.rank c.requires.0.below l.result own in
    let on = ranked_inside ok c.args.choice.mask c.args.rank c.requires.0.below in
    let h = c.loop-j-test.true in
    let f : Forms c.args.plan c.args.choice.mask c.board_of-board.result c.loop-j.j (length c.loop-j.work) = rw e (children_form ok c.args.choice.mask (read []) c.args.work.now c.requires.0.room i.1 c.requires.0.passed on h) in
    let at = ranked_own ok c.args.choice.mask c.args.rank c.requires.0.below l.result own in
    (λ d u. at d u ∙ ap (λ b. label (plan_grid c.args.plan) b d) (sym e), f, c.requires.1, c.requires.2, c.requires.4)

pub loop-j-preserved : goal.loop-j-preserved
loop-j-preserved c =
    let i = c.loop-j.invariant in
    let ok = i.0 in
    let l = c.lead_labels-labels in
    let own = (table_slots c.args.plan.axes _ l.result (few_axes ok) l.ensures).1 in
    let e = c.board_of-board.ensures.0 ∙ ranked_board ok c.args.choice.mask c.args.rank c.requires.0.below l.result own in
    let on = ranked_inside ok c.args.choice.mask c.args.rank c.requires.0.below in
    let w = c.loop-j.work in
    (ok, children_turn ok c.args.choice.mask (read []) c.args.work.now c.requires.0.room i.1 on (ranked_lead ok c.args.choice.mask c.args.rank c.requires.0.below) c.loop-j-test.true _ (c.form_cells.ensures ∙ ap (λ b. table (length w) (one_child (plan_grid c.args.plan) (read []) (summed_in c.args.plan c.args.choice.mask) b c.loop-j.j (read w))) e))

pub returns : goal.returns
returns c =
    let i = c.loop-j.invariant in
    let ok = i.0 in
    children_done ok c.args.choice.mask (read []) c.args.work.now c.requires.0.room i.1 c.loop-j-test.false
