-- `tape_fill::fill_scanned` meets its contract. The invariant: the slice is as it was, and what is ahead has the readings of the whole tape, which passed.
use Rattle.std.proofs.Common.{◌≡◌, ◌-◌, length, drop}
use Rattle.tape_spec.proofs.Filling.{ahead}
use Rattle.tape_fill.proofs.fill_scanned.Given as goal

abbrev pub invariant-loop-command : goal.invariant-loop-command
invariant-loop-command l = (l.slice ≡ l.initial.slice) × (ahead (drop l.at l.tape) ≡ ahead l.tape)

abbrev pub decreases-loop-command : goal.decreases-loop-command
decreases-loop-command l = length l.tape - l.at
