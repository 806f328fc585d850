-- the first i cells have their four points
use Rattle.std.proofs.Common.{◌≡◌}
use Rattle.cell_spec.specs.Rows.{written, added_to, combs}
use Rattle.cell_sum.proofs.summing.add_four.Given as goal

abbrev pub invariant-loop-i : goal.invariant-loop-i
invariant-loop-i l = l.work ≡ written l.initial.work l.dst l.i (added_to l.initial.work l.dst (combs l.array l.at 1 4 l.t))
