use native.Mathlib.Omega.{arith}
use Rattle.plan_spec.proofs.Accepting.{passed_accepted}
use mathlib.Core.Path.{◌∙◌}
use Rattle.rack_spec.specs.Finding.{plan_grid}
use Rattle.rack_spec.proofs.Tallied.{lawful, axes_same, boards_few}
use Rattle.rack_spec.proofs.Told.{known_step}
use Rattle.run_spec.proofs.Refusing.{area_boards}
use Rattle.run_spec.proofs.Moved.{sender_in, next_place, found_at, rows_fit, moved_cells}
use borrow.Author.Rules.{rules}
use Rattle.run_move.proofs.move_cells.Goals as goal

pub overflow_sub-next : goal.overflow_sub-next
overflow_sub-next c = let gd = c.well_formed.0.1.1.1.1 in let ok = passed_accepted c.args.plan (search rules) (search rules) (search rules) c.requires.passed in let k = known_step (plan_grid c.args.plan) c.requires.at _ _ _ _ c.requires.listed in let law = lawful c.args.plan ok in rw (c.next_of-next.ensures.0, next_place (plan_grid c.args.plan) law k) (omega arith)

pub region_at-src-requires : goal.region_at-src-requires
region_at-src-requires c = let gd = c.well_formed.0.1.1.1.1 in let ok = passed_accepted c.args.plan (search rules) (search rules) (search rules) c.requires.passed in let k = known_step (plan_grid c.args.plan) c.requires.at _ _ _ _ c.requires.listed in let law = lawful c.args.plan ok in let e = axes_same c.args.plan ok in let b = boards_few c.args.plan ok in let i = sender_in (plan_grid c.args.plan) law k in (c.requires.passed, omega (arith, i, b), let n = c.next_of-next.ensures.1 in omega arith)

pub overflow_sub-next-2 : goal.overflow_sub-next-2
overflow_sub-next-2 c = let gd = c.well_formed.0.1.1.1.1 in let ok = passed_accepted c.args.plan (search rules) (search rules) (search rules) c.requires.passed in let k = known_step (plan_grid c.args.plan) c.requires.at _ _ _ _ c.requires.listed in let law = lawful c.args.plan ok in rw (c.next_of-next.ensures.0, next_place (plan_grid c.args.plan) law k) (omega arith)

pub region_at-dst-requires : goal.region_at-dst-requires
region_at-dst-requires c = let gd = c.well_formed.0.1.1.1.1 in let ok = passed_accepted c.args.plan (search rules) (search rules) (search rules) c.requires.passed in let k = known_step (plan_grid c.args.plan) c.requires.at _ _ _ _ c.requires.listed in let law = lawful c.args.plan ok in let e = axes_same c.args.plan ok in let b = boards_few c.args.plan ok in let i = k.receiver in (c.requires.passed, omega (arith, i, b), let n = c.next_of-next.ensures.1 in omega arith)

pub add_row-requires : goal.add_row-requires
add_row-requires c = let gd = c.well_formed.0.1.1.1.1 in let ok = passed_accepted c.args.plan (search rules) (search rules) (search rules) c.requires.passed in let k = known_step (plan_grid c.args.plan) c.requires.at _ _ _ _ c.requires.listed in let law = lawful c.args.plan ok in let h = rw (area_boards c.args.plan ok) at c.requires.room in rows_fit (plan_grid c.args.plan) law k _ _ _ (found_at (plan_grid c.args.plan) law k c.args.t.sender c.next_of-next.result _ c.next_of-next.ensures.0 c.region_at-src.ensures.0) (found_at (plan_grid c.args.plan) law k c.args.t.receiver c.next_of-next.result _ c.next_of-next.ensures.0 c.region_at-dst.ensures.0) h

pub returns : goal.returns
returns c = let gd = c.well_formed.0.1.1.1.1 in let ok = passed_accepted c.args.plan (search rules) (search rules) (search rules) c.requires.passed in let k = known_step (plan_grid c.args.plan) c.requires.at _ _ _ _ c.requires.listed in let law = lawful c.args.plan ok in let h = rw (area_boards c.args.plan ok) at c.requires.room in let e = found_at (plan_grid c.args.plan) law k c.args.t.sender c.next_of-next.result _ c.next_of-next.ensures.0 c.region_at-src.ensures.0 in let f = found_at (plan_grid c.args.plan) law k c.args.t.receiver c.next_of-next.result _ c.next_of-next.ensures.0 c.region_at-dst.ensures.0 in (rw (e, f) at c.add_row.ensures) ∙ moved_cells (plan_grid c.args.plan) law k _ h
