use native.Mathlib.Omega.{arith}
use Rattle.plan_spec.proofs.Accepting.{passed_accepted}
use Rattle.cube_spec.proofs.Slots.{table_slots}
use Rattle.plan_spec.proofs.PricingLaws.{few_axes}
use Rattle.rack_spec.proofs.Found.{lead_fits, sender_fits, sent_told}
use borrow.Author.Rules.{rules}
use Rattle.rack_find.proofs.steps.sending.Goals as goal

pub board_of-receiver-requires : goal.board_of-receiver-requires
board_of-receiver-requires c =
    let l = c.lead_labels-labels in
    let gd = c.well_formed.0.1.1.1.1 in
    let ok = passed_accepted c.args.plan (search rules) (search rules) (search rules) c.requires.passed in
    let own = table_slots c.args.plan.axes _ l.result (few_axes ok) l.ensures in
    (c.requires.passed, lead_fits ok c.requires l.result (rw (← c.parts_of-others.ensures.0) own.1))

pub bounds-labels-d : goal.bounds-labels-d
bounds-labels-d c = let gd = c.well_formed.0.1.1.1.1 in let ok = passed_accepted c.args.plan (search rules) (search rules) (search rules) c.requires.passed in let f = few_axes ok in omega (arith, c.requires.within)

pub board_of-sender-requires : goal.board_of-sender-requires
board_of-sender-requires c =
    let l = c.lead_labels-labels in
    let p = c.parts_of-others.ensures.0 in
    let gd = c.well_formed.0.1.1.1.1 in
    let ok = passed_accepted c.args.plan (search rules) (search rules) (search rules) c.requires.passed in
    let own = table_slots c.args.plan.axes _ l.result (few_axes ok) l.ensures in
    (c.requires.passed, rw p (sender_fits ok c.requires l.result own.0 (rw (← p) own.1)))

pub cells_with-requires : goal.cells_with-requires
cells_with-requires c =
    let l = c.lead_labels-labels in
    let p = c.parts_of-others.ensures.0 in
    let gd = c.well_formed.0.1.1.1.1 in
    let ok = passed_accepted c.args.plan (search rules) (search rules) (search rules) c.requires.passed in
    let own = table_slots c.args.plan.axes _ l.result (few_axes ok) l.ensures in
    (c.requires.passed, rw p (sender_fits ok c.requires l.result own.0 (rw (← p) own.1)))

pub returns : goal.returns
returns c =
    let l = c.lead_labels-labels in
    let p = c.parts_of-others.ensures.0 in
    let gd = c.well_formed.0.1.1.1.1 in
    let ok = passed_accepted c.args.plan (search rules) (search rules) (search rules) c.requires.passed in
    let own = table_slots c.args.plan.axes _ l.result (few_axes ok) l.ensures in
    let to = c.board_of-receiver.ensures.0 in
    sent_told ok c.requires l.result own.0 (rw (← p) own.1) to (rw (← p) c.board_of-sender.ensures.0) (rw (← p) c.cells_with.ensures.0)
