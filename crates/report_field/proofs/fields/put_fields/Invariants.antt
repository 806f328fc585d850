use Rattle.std.proofs.Common.{◌≡◌, ◌+◌, ◌*◌, ◌≤◌, length}
use Rattle.std.proofs.lemmas.List.Edits.{sets}
use Rattle.report_field.proofs.Spelling.{front}
use Rattle.report_field.proofs.fields.put_fields.Given as goal

abbrev pub invariant-loop-n : goal.invariant-loop-n
invariant-loop-n g l =
    (l.next ≡ l.at + length (front g.T.Spelled.spelling l.numbers l.n-index)) × (l.next ≤ l.at + 21 * l.n-index)
    × (l.out ≡ sets l.initial.out l.at (front g.T.Spelled.spelling l.numbers l.n-index))
