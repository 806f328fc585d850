-- `tape_scan::scan` meets its contract. The invariant: the axes and lengths so far with the commands that are left give the scan.
use Rattle.std.proofs.Common.{◌≡◌, ◌-◌, ◌≤◌, length, drop}
use Rattle.cube_spec.specs.Limits.{axis_limit}
use Rattle.tape_spec.specs.Tapes.{commands}
use Rattle.tape_spec.specs.Reading.{scanning}
use Rattle.tape_spec.proofs.Scanning.{judged}
use Rattle.tape_scan.proofs.scan.Given as goal

abbrev pub invariant-loop-command : goal.invariant-loop-command
invariant-loop-command l =
    (l.axes ≤ l.at) × (l.read ≤ l.at) × (l.at ≤ length l.tape) × (length l.lengths ≡ axis_limit) × (scanning l.tape ≡ judged l.axes l.lengths l.read (commands (drop l.at l.tape)))

abbrev pub decreases-loop-command : goal.decreases-loop-command
decreases-loop-command l = length l.tape - l.at
