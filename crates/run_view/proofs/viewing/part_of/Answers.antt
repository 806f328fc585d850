-- `run_view::viewing::part_of` meets its contract.
use Prim.Native.Nat.{ℕ, ◌-◌, ◌*◌, ◌≤◌, ◌<◌}
use mathlib.Core.Path.{sym, ap, ◌∙◌}
use native.Mathlib.Omega.{arith}
use Rattle.plan_spec.specs.declared.types.Plan.{Plan}
use Rattle.plan_spec.specs.Plans.{lists_of, board_count}
use Rattle.plan_spec.specs.Accepted.{Accepted}
use Rattle.plan_spec.proofs.Accepting.{passed_accepted}
use Rattle.rack_spec.proofs.Counting.{board_count_lem}
use Rattle.rack_spec.specs.Grids.{boards, share, index}
use Rattle.rack_spec.specs.Finding.{plan_grid, summed_in}
use Rattle.rack_spec.proofs.Tallied.{lawful, boards_few}
use Rattle.rack_spec.proofs.Told.{not_finish}
use Rattle.run_spec.proofs.Shown.{finished_is, other_none, finished_some, cells_room}
use Rattle.run_view.proofs.Placed as placed
use borrow.Author.Rules.{rules}
use Rattle.run_view.proofs.viewing.part_of.Goals as goal

-- a board below 2^p is one of the grid's
on_rack : (q : Plan) → Accepted q → (b : ℕ) → b < board_count (lists_of q) → b < boards (plan_grid q)
on_rack q ok b h = rw (board_count_lem (lists_of q) ok.sound) h

-- the position follows no finish
pub returns-in_default : goal.returns-in_default
returns-in_default c =
    let g = plan_grid c.args.plan in
    let e = other_none g c.args.position _ c.step_before.ensures (not_finish c.step_before.result (search rules)) in
    (placed.part_none g c.args.position c.args.board e, search rules, search rules)

pub is_lead-requires : goal.is_lead-requires
is_lead-requires c =
    let q = c.args.plan in
    let ok = passed_accepted q (search rules) (search rules) (search rules) c.requires.0 in
    (c.requires.0, rw c.from-board.ensures (on_rack q ok c.args.board c.requires.1))

-- no lead
pub returns-then-not-is_lead : goal.returns-then-not-is_lead
returns-then-not-is_lead c =
    let q = c.args.plan in
    let ok = passed_accepted q (search rules) (search rules) (search rules) c.requires.0 in
    let e = finished_is (plan_grid q) (lawful q ok) c.args.position _ c.in-Finish.ensures in
    (placed.part_other (plan_grid q) c.args.position c.args.board _ e.0 (rw c.from-board.ensures at (sym c.if-not-is_lead.ensures)), search rules, search rules)

pub overflow_sub-next_of : goal.overflow_sub-next_of
overflow_sub-next_of c =
    let q = c.args.plan in
    let ok = passed_accepted q (search rules) (search rules) (search rules) c.requires.0 in
    let e = finished_is (plan_grid q) (lawful q ok) c.args.position _ c.in-Finish.ensures in
    rw c.next_of.ensures.0 (finished_some (plan_grid q) c.args.position _ e.0)

pub region_at-requires : goal.region_at-requires
region_at-requires c =
    let q = c.args.plan in
    let ok = passed_accepted q (search rules) (search rules) (search rules) c.requires.0 in
    let b = boards_few q ok in
    let on = on_rack q ok c.args.board c.requires.1 in
    let f = c.from-board.ensures in
    let n = c.next_of.ensures.1 in
    (c.requires.0, omega arith, omega arith)

pub cells_of-requires : goal.cells_of-requires
cells_of-requires c =
    let q = c.args.plan in
    let ok = passed_accepted q (search rules) (search rules) (search rules) c.requires.0 in
    (c.requires.0, rw c.from-board.ensures (on_rack q ok c.args.board c.requires.1))

-- a lead's part, which lies within its share
pub returns : goal.returns
returns c =
    let q = c.args.plan in
    let ok = passed_accepted q (search rules) (search rules) (search rules) c.requires.0 in
    let g = plan_grid q in
    let b = c.args.board in
    let law = lawful q ok in
    let e = finished_is g law c.args.position _ c.in-Finish.ensures in
    let Y = summed_in q c.in-Finish.choice.mask in
    let room : boards g * share g ≤ boards g * share g = omega arith in
    let cr = cells_room g law b Y (boards g * share g) (finished_some g c.args.position Y e.0) e.1 (on_rack q ok b c.requires.1) room in
    let f = c.from-board.ensures in
    let r = rw f at c.region_at.ensures.0 in
    let a = r ∙ ap (λ i. index g b (i - 1) 0) c.next_of.ensures.0 ∙ ap (λ i. index g b i 0) cr.0 in
    let k = rw f at c.cells_of.ensures.0 in
    let l = rw f at (sym c.if-not-is_lead.ensures) in
    (placed.part_lead g c.args.position b Y e.0 l _ _ a k, rw (a, k) cr.1, omega (arith, c.region_at.ensures.1, c.cells_of.ensures.1))
