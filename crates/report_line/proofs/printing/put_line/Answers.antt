use Rattle.std.proofs.Common.{◌∙◌, ap, set, arith}
use Rattle.std.proofs.lemmas.List.Edits.{sets}
use Rattle.report_field.proofs.Spelling.{line_put, numbers_are}
use Rattle.report_field.specs.Spread.{spread}
use Rattle.report_spec.specs.Printed.{numbers}
use lib.ListN.{length-set}
use Rattle.report_line.proofs.printing.put_line.Goals as goal

pub returns : goal.returns
returns c =
    let a = c.args in
    let w = c.put_word-first.ensures in
    let e = rw (numbers_are a.values.now) at c.put_fields-end.ensures in
    let L = line_put a.out.now a.word.now (numbers a.values.now) c.put_word-first.result c.put_fields-end.result w.0 e.0 in (
      L.1,
      omega (arith, length-set c.put_fields-end.new.out c.put_fields-end.result 10),
      ap (λ x. set x c.put_fields-end.result 10) (e.2 ∙ ap (λ x. sets x c.put_word-first.result (spread (numbers a.values.now))) w.1) ∙ L.0,
    )
