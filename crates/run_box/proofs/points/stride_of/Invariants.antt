use Prim.Native.Nat.{◌+◌, ◌≤◌, ◌<◌}
use lib.ListN.{get_or}
use Rattle.plan_spec.specs.Accepted.{Accepted}
use Rattle.run_spec.proofs.Strided.{StrideTo}
use Rattle.run_box.proofs.points.stride_of.Given as goal

abbrev pub invariant-loop-a : goal.invariant-loop-a
invariant-loop-a l = (Accepted l.plan) × (l.d < l.plan.axes) × (get_or l.plan.order l.d 0 + 1 ≤ l.a) × (l.a ≤ l.plan.axes) × StrideTo l.plan l.choice.mask (get_or l.plan.order l.d 0 + 1) l.count l.a
