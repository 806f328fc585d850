use Rattle.std.proofs.Common.{◌-◌, get_or, sym, ◌∙◌, arith, rules, inl, inr}
use Rattle.practice_spec.proofs.Reading.{left_start, reads_zero, reads_large, reads_whole, reads_other, reads_digit, reads_long, reads_end, next_value}
use Rattle.practice_spec.proofs.Lines.{true_digit, digit_is}
use Rattle.practice_draw.proofs.seeds.seed_of.Goals as goal

pub loop-i-init : goal.loop-i-init
loop-i-init c = (search rules, search rules, left_start c.args.input.now)

pub returns-then-value-eq0 : goal.returns-then-value-eq0
returns-then-value-eq0 c =
    let l = c.loop-i in
    elim c.then-value-eq0.either [ inl z ↦ reads_zero c.args.input.now l.i l.value c.loop-i-test.true l.invariant.2 c.if-b-eq10.true z | inr k ↦ reads_large c.args.input.now l.i l.value c.loop-i-test.true l.invariant.2 c.if-b-eq10.true k.1 ]

pub returns-then-b-eq10 : goal.returns-then-b-eq10
returns-then-b-eq10 c =
    let l = c.loop-i in
    reads_whole c.args.input.now l.i l.value c.loop-i-test.true l.invariant.2 c.if-b-eq10.true (omega (arith, c.if-value-eq0.false)) l.invariant.1 l.invariant.0 c.if-value-gt-LAST_SEED.false

pub returns-then-not-is_ascii_digit : goal.returns-then-not-is_ascii_digit
returns-then-not-is_ascii_digit c =
    let l = c.loop-i in
    let d = digit_is (get_or c.args.input.now l.i 0) ∙ sym c.is_ascii_digit.ensures.value in
    elim c.then-not-is_ascii_digit.either [ inl f ↦ reads_other c.args.input.now l.i l.value c.loop-i-test.true l.invariant.2 (d ∙ f) c.if-b-eq10.false | inr k ↦ reads_long c.args.input.now l.i l.value c.loop-i-test.true l.invariant.2 (d ∙ k.0) k.1 ]

pub loop-i-preserved : goal.loop-i-preserved
loop-i-preserved c =
    let l = c.loop-i in
    let a = c.args.input.now in
    let e = digit_is (get_or a l.i 0) ∙ sym c.is_ascii_digit.ensures.value ∙ c.if-not-is_ascii_digit.false in
    let d = true_digit (get_or a l.i 0) e in
    rw c.from.ensures (omega (arith, c.if-i-eq-SEED_DIGITS.false), next_value l.i l.value (get_or a l.i 0 - 48) l.invariant.1 (omega arith), reads_digit a l.i l.value c.loop-i-test.true l.invariant.2 e)

pub returns : goal.returns
returns c = let l = c.loop-i in reads_end c.args.input.now l.i l.value l.invariant.2 (omega arith)
