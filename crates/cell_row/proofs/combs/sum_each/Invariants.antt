-- the first i sums are written
use Rattle.std.proofs.Common.{◌≡◌, map}
use Rattle.cell_spec.specs.Rows.{written}
use Rattle.cell_row.specs.Combs.{sums}
use Rattle.cell_row.proofs.combs.sum_each.Given as goal

abbrev pub invariant-loop-i : goal.invariant-loop-i
invariant-loop-i g l = l.work ≡ written l.initial.work l.dst l.i (sums l.comb (map g.T.Addend.value l.values))
