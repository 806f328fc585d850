use Rattle.std.proofs.Common.{sym, ◌∙◌, arith}
use Rattle.practice_spec.proofs.Lines.{digit_is}
use Rattle.practice.proofs.Opened.{turn_ended, turn_last, turn_on, stops_full}
use Rattle.practice.proofs.reading.read_line.Goals as goal
use Rattle.practice.proofs.reading.read_line.Goals.{then-opening-via-then-opening, then-opening-via-else-opening+then-not-is_ascii_digit}

pub returns-then-opening : goal.returns-then-opening
returns-then-opening c =
    let p = c.put_byte-opening in
    let w = c.loop-used.invariant in
    elim c.then-opening.branch [ then-opening-via-then-opening x ↦ turn_ended _ _ _ _ _ _ _ w (omega arith) p.ensures.0 p.ensures.1 x.if-opening.true | then-opening-via-else-opening+then-not-is_ascii_digit x ↦ turn_last _ _ _ _ _ _ _ w (omega arith) p.ensures.0 p.ensures.1 x.if-opening.false (digit_is _ ∙ sym x.is_ascii_digit.ensures.value ∙ x.if-not-is_ascii_digit.true) ]

pub loop-used-preserved : goal.loop-used-preserved
loop-used-preserved c =
    let p = c.put_byte-opening in
    let d = digit_is _ ∙ sym c.is_ascii_digit.ensures.value ∙ c.if-not-is_ascii_digit.false in
    turn_on _ _ _ _ _ _ _ c.loop-used.invariant (omega arith) p.ensures.0 p.ensures.1 c.if-opening.false d

pub returns : goal.returns
returns c = stops_full c.loop-used.invariant _ (omega arith) (omega arith)
