-- `tape_fill::store` meets its contract. The invariant: storing what is left from here on gives the same slice as storing all from the start, and what is left passed the scan too.
use Rattle.std.proofs.Common.{◌≡◌, ◌+◌, ◌-◌, ◌≤◌, length, drop}
use Rattle.std.proofs.lemmas.List.Edits.{sets}
use Rattle.tape_spec.specs.Decoding.{left, Passed, points_in}
use Rattle.tape_fill.proofs.store.Given as goal

abbrev pub invariant-loop-command : goal.invariant-loop-command
invariant-loop-command l =
    (length l.slice ≡ length l.initial.slice)
    × (l.done + length (points_in (left (drop l.at l.tape))) ≤ length l.slice)
    × Passed (left (drop l.at l.tape))
    × (sets l.initial.slice 0 (points_in (left (drop l.start l.tape))) ≡ sets l.slice l.done (points_in (left (drop l.at l.tape))))

abbrev pub decreases-loop-command : goal.decreases-loop-command
decreases-loop-command l = length l.tape - l.at
