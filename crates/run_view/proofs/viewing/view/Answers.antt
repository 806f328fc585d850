use Rattle.std.proofs.Common.{◌≡◌, ◌+◌, ◌-◌, arith, rules, sym}
use Rattle.plan_spec.proofs.Accepting.{passed_accepted}
use Rattle.rack_spec.proofs.Refusing.{not_ok}
use Rattle.run_spec.proofs.Refusing.{area_boards}
use Rattle.run_spec.proofs.Shown.{showing, shown_refused}
use Rattle.run_view.proofs.Placed as placed
use Rattle.run_view.proofs.viewing.view.Goals as goal

pub returns-in_default : goal.returns-in_default
returns-in_default c =
    shown_refused c.args.plan c.args.work.now c.args.position c.args.board _ c.check_view.ensures (not_ok c.check_view.result (search rules))

pub part_of-part-requires : goal.part_of-part-requires
part_of-part-requires c =
    let p = showing c.args.plan _ c.args.position c.args.board (sym c.in-Ok.ensures) in
    (p.plan, p.board)

pub slice_bounds-result-end-2 : goal.slice_bounds-result-end-2
slice_bounds-result-end-2 c =
    let q = c.args.plan in
    let p = showing q _ c.args.position c.args.board (sym c.in-Ok.ensures) in
    let ok = passed_accepted q (search rules) (search rules) (search rules) p.plan in
    let room = rw (area_boards q ok) at p.room in
    let within = c.part_of-part.ensures.1 in
    omega arith

pub returns : goal.returns
returns c =
    let q = c.args.plan in
    let part = c.part_of-part.result in
    let d : part.start + part.cells - part.start ≡ part.cells = omega arith in
    rw (d, c.part_of-part.ensures.0) (placed.shown_part q c.args.work.now c.args.position c.args.board (sym c.in-Ok.ensures))
