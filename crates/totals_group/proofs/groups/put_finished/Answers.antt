-- `totals_group::groups::put_finished` meets its contract: the cells fit the slice, and the line is that of what was gathered.
use mathlib.Core.Path.{◌∙◌, ap}
use native.Mathlib.Omega.{arith}
use borrow.Author.Rules.{rules}
use lib.ListN.{length}
use lib.Seq.{sets}
use Rattle.plan_spec.proofs.Accepting.{passed_accepted}
use Rattle.totals_group.proofs.Counted.{count_fits, part_length, gathered_line}
use Rattle.totals_group.proofs.groups.put_finished.Goals as goal

pub shared_ref_as_front-cells : goal.shared_ref_as_front-cells
shared_ref_as_front-cells c =
    let ok = passed_accepted c.args.plan (search rules) (search rules) (search rules) c.requires.0 in
    let e = ok.axes in
    let f = ok.lengths.few in
    omega arith

pub slice_bounds-part-end : goal.slice_bounds-part-end
slice_bounds-part-end c =
    let ok = passed_accepted c.args.plan (search rules) (search rules) (search rules) c.requires.0 in
    count_fits c.args.plan ok c.args.choice.mask c.cells-n.result c.cells-n.ensures c.args.cells.now c.requires.1

pub slice_bounds-part-end-2 : goal.slice_bounds-part-end-2
slice_bounds-part-end-2 c =
    let ok = passed_accepted c.args.plan (search rules) (search rules) (search rules) c.requires.0 in
    part_length c.args.plan ok c.args.choice.mask c.cells-n.result c.cells-n.ensures c.args.cells.now c.requires.1

pub returns : goal.returns
returns c =
    let ok = passed_accepted c.args.plan (search rules) (search rules) (search rules) c.requires.0 in
    let g = c.gather-gathered in
    let e = gathered_line c.args.plan ok c.args.choice.mask c.cells-n.result c.cells-n.ensures c.args.cells.now c.requires.1 c.args.work.now c.args.position g.new.res g.ensures.1 in
    let p = c.put_group.ensures in
    (p.0 ∙ ap length e, p.1, p.2 ∙ ap (λ l. sets c.args.out.now 0 l) e)
