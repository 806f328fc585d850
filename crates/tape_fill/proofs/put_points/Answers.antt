-- `tape_fill::put_points` meets its contract: one cell more holds the point.
use Rattle.std.proofs.Common.{arith}
use Rattle.tape_spec.proofs.Filling.{stored_on}
use Rattle.tape_fill.proofs.put_points.Goals as goal

pub loop-i-preserved : goal.loop-i-preserved
loop-i-preserved c = rw c.loop-i.invariant (stored_on _ _ c.loop-i.i _ (omega arith))
