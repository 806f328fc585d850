-- `put_points` puts a 56 for each draw. The invariant: i draws are made from the start, and their commands are put, five bytes each.
use Rattle.std.proofs.Common.{◌≡◌, ◌+◌, ◌*◌}
use Rattle.std.proofs.lemmas.List.Edits.{sets}
use Rattle.tape_spec.specs.Writing.{point_command, each}
use Rattle.practice_spec.specs.Draws.{after, drawn, point_by}
use Rattle.practice_draw.proofs.tapes.put_points.Given as goal

abbrev pub invariant-loop-i : goal.invariant-loop-i
invariant-loop-i l = (l.at ≡ l.from + 5 * l._i) × (l.state ≡ after l._i l.start) × (l.out ≡ sets l.initial.out l.from (each point_command (drawn point_by l._i l.start)))
