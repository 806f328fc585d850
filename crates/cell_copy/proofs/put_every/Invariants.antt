-- the first i cells are copied
use Rattle.std.proofs.Common.{◌≡◌, ◌+◌, ◌*◌}
use Rattle.cell_spec.specs.Rows.{from, placed}
use Rattle.cell_copy.proofs.put_every.Given as goal

abbrev pub invariant-loop-i : goal.invariant-loop-i
invariant-loop-i l = l.res ≡ placed l.initial.res l.i (λ i. l.at + i * l.step) (from l.work l.src)
