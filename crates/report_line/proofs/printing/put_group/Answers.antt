use Rattle.std.proofs.Common.{◌∙◌, ap, set, arith, ◌∷◌, ◌++◌, ◌≡◌}
use Rattle.std.proofs.lemmas.List.Edits.{sets}
use Rattle.report_field.proofs.Spelling.{line_put, signeds_are, byte_short, spread_first}
use Rattle.report_field.specs.Spread.{spread}
use Rattle.report_spec.specs.Printed.{signeds}
use Rattle.report_spec.specs.Text.{text, decimal}
use lib.ListN.{length-set}
use Rattle.report_line.proofs.printing.put_group.Goals as goal

pub put_field-next-requires : goal.put_field-next-requires
put_field-next-requires c = rw c.from.ensures (omega (arith, byte_short c.args.mask (omega arith)))

pub put_fields-end-requires : goal.put_fields-end-requires
put_fields-end-requires c = let k = rw c.from.ensures at c.put_field-next.ensures in omega (arith, k.0, byte_short c.args.mask (omega arith))

pub bounds-out-end : goal.bounds-out-end
bounds-out-end c = let k = rw c.from.ensures at c.put_field-next.ensures in omega (arith, k.0, byte_short c.args.mask (omega arith))

pub overflow_add-result : goal.overflow_add-result
overflow_add-result c = let k = rw c.from.ensures at c.put_field-next.ensures in omega (arith, k.0, byte_short c.args.mask (omega arith))

pub returns : goal.returns
unfolding text
returns c =
    let a = c.args in
    let l = decimal a.mask ∷ signeds a.cells.now in
    let w = c.put_word-first.ensures in
    let k = rw c.from.ensures at c.put_field-next.ensures in
    let e = rw (signeds_are a.cells.now) at c.put_fields-end.ensures in
    let F = spread_first (decimal a.mask) (signeds a.cells.now) (sets a.out.now 0 (text "group")) c.put_word-first.result c.put_field-next.result k.0 in
    let L = line_put a.out.now (text "group") l c.put_word-first.result c.put_fields-end.result w.0 (e.0 ∙ F.1) in
    let chain : c.put_fields-end.new.out ≡ sets (sets a.out.now 0 (text "group")) c.put_word-first.result (spread l) =
    e.2 ∙ ap (λ x. sets x c.put_field-next.result (spread (signeds a.cells.now))) (k.1 ∙ ap (λ x. sets x c.put_word-first.result (text " " ++ decimal a.mask)) w.1) ∙ F.0 in (
      L.1,
      omega (arith, k.0, byte_short a.mask (omega arith), length-set c.put_fields-end.new.out c.put_fields-end.result 10),
      ap (λ x. set x c.put_fields-end.result 10) chain ∙ L.0,
    )
