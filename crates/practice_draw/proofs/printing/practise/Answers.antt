-- `practise` prints the tape of the seed, or the line of the refusal.
use Rattle.std.proofs.Common.{length, sym, ap, ◌∙◌}
use Rattle.std.proofs.lemmas.List.Edits.{sets}
use Rattle.practice_spec.proofs.Reading.{prints_by}
use Rattle.practice_draw.proofs.printing.practise.Goals as goal

pub returns-in-Ok : goal.returns-in-Ok
returns-in-Ok c =
    let s = c.args in
    let r = c.put_tape in
    let e = sym (prints_by s.input.now _ c.in-Ok.ensures) in
    (r.ensures.0 ∙ ap length e, r.ensures.1, r.ensures.2 ∙ ap (sets s.out.now 0) e)

pub returns-in-Err : goal.returns-in-Err
returns-in-Err c =
    let s = c.args in
    let r = rw c.number.ensures at c.refused_line.ensures in
    let e = sym (prints_by s.input.now _ c.in-Err.ensures) in
    (r.0 ∙ ap length e, r.1, r.2 ∙ ap (sets s.out.now 0) e)
