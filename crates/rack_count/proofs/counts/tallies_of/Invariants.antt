-- The places from d on are filled.
use Rattle.std.proofs.Common.{◌≡◌, length}
use Rattle.plan_spec.specs.Accepted.{Accepted}
use Rattle.rack_count.proofs.Tallying.{Filled}
use Rattle.rack_count.proofs.counts.tallies_of.Given as goal

abbrev pub invariant-loop-d : goal.invariant-loop-d
invariant-loop-d l = (Accepted l.plan) × (length l.places ≡ 9) × Filled l.plan l.places l.d
