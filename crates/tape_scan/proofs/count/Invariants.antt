-- `tape_scan::count` meets its contract. The invariant: what has been counted with the commands that are left gives the count of all, and it is few enough for the machine.
use Rattle.std.proofs.Common.{◌≡◌, ◌+◌, ◌-◌, ◌*◌, ◌≤◌, length, drop}
use Rattle.cube_spec.specs.Refusals.{refused_by}
use Rattle.tape_spec.specs.Tapes.{commands}
use Rattle.tape_spec.specs.Decoding.{counted}
use Rattle.tape_scan.proofs.count.Given as goal

abbrev pub invariant-loop-command : goal.invariant-loop-command
invariant-loop-command l =
    (l.points + 65536 * (length l.tape - l.at) ≤ 65536 * length l.tape)
    × (l.read ≤ l.at)
    × (l.at ≤ length l.tape)
    × (counted 0 l.before 0 (commands (drop l.start l.tape)) ≡ counted l.points l.read (refused_by l.judged) (commands (drop l.at l.tape)))

abbrev pub decreases-loop-command : goal.decreases-loop-command
decreases-loop-command l = length l.tape - l.at
