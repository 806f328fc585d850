use Prim.Native.Nat.{◌+◌, ◌-◌, ◌*◌}
use mathlib.Core.Path.{sym, ◌∙◌, ap, ap₂}
use Rattle.cube_spec.specs.Tree.{next}
use Rattle.cube_spec.proofs.Slots.{table_slots}
use Rattle.plan_spec.specs.Plans.{lists_of}
use Rattle.plan_spec.proofs.Accepting.{passed_accepted}
use Rattle.plan_spec.proofs.PricingLaws.{few_axes}
use Rattle.rack_spec.specs.Grids.{label}
use Rattle.rack_spec.specs.Finding.{plan_grid, summed_in}
use Rattle.rack_spec.proofs.Planned.{first_cell}
use Rattle.run_spec.specs.Copies.{one_board}
use Rattle.run_spec.specs.Memory.{read}
use Rattle.run_spec.proofs.Ranked.{ranked_inside, ranked_lead, ranked_own, ranked_labels, ranked_board}
use borrow.Author.Rules.{rules}
use Rattle.run_copy.proofs.copy_rank.Goals as goal

pub board_of-board-requires : goal.board_of-board-requires
board_of-board-requires c =
    let l = c.lead_labels-labels in
    let q = c.args.plan in
    let mask = c.args.choice.mask in
    let gd = c.well_formed.0.1.1.1.1 in
    let ok = passed_accepted q (search rules) (search rules) (search rules) c.requires.0.passed in
    let own = (table_slots q.axes _ l.result (few_axes ok) l.ensures).1 in
    (c.requires.0.passed, ranked_labels ok mask c.args.rank c.requires.1 l.result own)

pub copy_lead-requires : goal.copy_lead-requires
copy_lead-requires c =
    let l = c.lead_labels-labels in
    let q = c.args.plan in
    let mask = c.args.choice.mask in
    let gd = c.well_formed.0.1.1.1.1 in
    let ok = passed_accepted q (search rules) (search rules) (search rules) c.requires.0.passed in
    let own = (table_slots q.axes _ l.result (few_axes ok) l.ensures).1 in
    let b = c.board_of-board.result in
    let e = c.board_of-board.ensures.0 ∙ ranked_board ok mask c.args.rank c.requires.1 l.result own in
    let src = ap₂ (λ a t. b * a + t) c.requires.3 c.requires.4 ∙ first_cell (plan_grid q) b (next (summed_in q mask) - 1) in (
      c.requires.0,
      rw e (ranked_inside ok mask c.args.rank c.requires.1),
      rw e (ranked_lead ok mask c.args.rank c.requires.1),
      λ d u. ranked_own ok mask c.args.rank c.requires.1 l.result own d u ∙ ap (λ b. label (plan_grid q) b d) (sym e),
      c.requires.2,
      src,
    )

pub returns : goal.returns
returns c =
    let l = c.lead_labels-labels in
    let q = c.args.plan in
    let mask = c.args.choice.mask in
    let gd = c.well_formed.0.1.1.1.1 in
    let ok = passed_accepted q (search rules) (search rules) (search rules) c.requires.0.passed in
    let own = (table_slots q.axes _ l.result (few_axes ok) l.ensures).1 in
    let e = c.board_of-board.ensures.0 ∙ ranked_board ok mask c.args.rank c.requires.1 l.result own in
    c.copy_lead.ensures
    ∙ ap (λ b. one_board (lists_of q).lengths (plan_grid q) (summed_in q mask) b (read c.args.work.now) c.args.res.now) e
