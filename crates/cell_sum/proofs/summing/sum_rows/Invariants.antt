-- the first 4 k rows are summed, and then the first m
use Rattle.std.proofs.Common.{◌≡◌, ◌*◌}
use Rattle.cell_spec.specs.Rows.{written, combs}
use Rattle.cell_sum.proofs.summing.sum_rows.Given as goal

abbrev pub invariant-loop-k : goal.invariant-loop-k
invariant-loop-k l = l.work ≡ written l.fn.work l.dst l.n (combs l.array l.comb.first 1 (4 * l.k) l.t)

abbrev pub invariant-loop-m : goal.invariant-loop-m
invariant-loop-m l = l.work ≡ written l.fn.work l.dst l.n (combs l.array l.comb.first 1 l.m l.t)
