-- `tape_fill::put_points` meets its contract. The invariant: the cells up to i are stored.
use Rattle.std.proofs.Common.{◌≡◌, ◌+◌, ◌-◌, replicate}
use Rattle.std.proofs.lemmas.List.Edits.{sets}
use Rattle.tape_fill.proofs.put_points.Given as goal

abbrev pub invariant-loop-i : goal.invariant-loop-i
invariant-loop-i l = l.slice ≡ sets l.initial.slice (l.at + 1) (replicate (l.i - (l.at + 1)) l.v)
