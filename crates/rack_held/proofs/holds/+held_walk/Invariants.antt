-- The walk over the axes left, board by board.
use Prim.Native.Nat.{◌-◌}
use Rattle.rack_held.proofs.holds.+held_walk.Given as goal

abbrev pub decreases-held_walk : goal.decreases-held_walk
decreases-held_walk l = l.plan.now.axes - l.d
