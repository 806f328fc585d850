-- the first 4 k sums are written
use Rattle.std.proofs.Common.{◌≡◌, ◌*◌, map}
use Rattle.cell_spec.specs.Rows.{written}
use Rattle.cell_row.specs.Combs.{sums}
use Rattle.cell_row.proofs.combs.sum_combs.Given as goal

abbrev pub invariant-loop-k : goal.invariant-loop-k
invariant-loop-k g l = l.work ≡ written l.initial.work l.dst (4 * l.k) (sums l.comb (map g.T.Addend.value l.values))
