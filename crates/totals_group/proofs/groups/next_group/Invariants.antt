-- `totals_group::groups::next_group` meets its contract. The invariant: the run is ready, and no group was printed since the call began.
use Prim.Native.Nat.{◌-◌}
use mathlib.Core.Path.{◌≡◌}
use lib.ListN.{length}
use Rattle.plan_spec.specs.Plans.{step_count, lists_of}
use Rattle.plan_spec.specs.Accepted.{Accepted}
use Rattle.totals_group.specs.Grouped.{Ready, groups_before}
use Rattle.totals_group.proofs.groups.next_group.Given as goal

abbrev pub invariant-loop-position : goal.invariant-loop-position
invariant-loop-position l = (Accepted l.plan) × (l.total ≡ step_count (lists_of l.plan)) × Ready l.plan l.points l.work l.position × (groups_before l.plan l.points l.position ≡ groups_before l.plan l.points l.initial.position) × (length l.cells ≡ 8192) × (l.out ≡ l.initial.out)

abbrev pub decreases-loop-position : goal.decreases-loop-position
decreases-loop-position l = l.total - l.position
