-- `put_axes` puts a 41 for each length. The invariant: those of the first d lengths are put, three bytes each.
use Rattle.std.proofs.Common.{◌≡◌, take}
use Rattle.std.proofs.lemmas.List.Edits.{sets}
use Rattle.tape_spec.specs.Writing.{axis_command, each}
use Rattle.practice_draw.proofs.tapes.put_axes.Given as goal

abbrev pub invariant-loop-d : goal.invariant-loop-d
invariant-loop-d l = l.out ≡ sets l.initial.out 0 (each axis_command (take l.d l.lengths))
