use mathlib.Core.Path.{◌≡◌, refl}
use mathlib.Core.Bool.{false}
use native.Mathlib.Omega.{arith}
use Rattle.totals_line.proofs.Lined.{begins, lines_few, line_some}
use Rattle.totals.proofs.Handed.{line_there}
use Rattle.totals.proofs.Stopping.{ends_whole, ends_cut}
use borrow.Author.Rules.{rules}
use Rattle.totals.proofs.writing.print_lines.Goals as goal

pub loop-judged-init : goal.loop-judged-init
loop-judged-init c =
    let a = c.args in
    (begins a.tape.now a.judged c.requires.0 a.points.now a.work.now c.requires.1 c.requires.2 c.requires.3, omega arith, refl, c.requires.4, c.requires.5)

pub returns-then-used-eq0 : goal.returns-then-used-eq0
returns-then-used-eq0 c = let nl = c.next_line-used in
    let tape = c.args.tape.now in
    ends_whole tape c.loop-judged.lines nl.result c.loop-judged.invariant.1 nl.ensures.0 c.if-used-eq0.true

pub write-taken-requires : goal.write-taken-requires
write-taken-requires c = let nl = c.next_line-used in
    let tape = c.args.tape.now in
    (omega (arith, nl.ensures.1), line_there tape c.loop-judged.lines c.loop-judged.out nl.new.out nl.result nl.ensures.0 nl.ensures.1 nl.ensures.2)

pub returns-then-not-taken : goal.returns-then-not-taken
returns-then-not-taken c = let nl = c.next_line-used in
    let tape = c.args.tape.now in
    let q : c.write-taken.result ≡ false = c.if-not-taken.true in
    ends_cut tape c.loop-judged.lines nl.result _ nl.ensures.0 c.if-used-eq0.false q

pub overflow_add-lines : goal.overflow_add-lines
overflow_add-lines c = let nl = c.next_line-used in
    let tape = c.args.tape.now in
    let l = line_some tape c.loop-judged.lines nl.result nl.ensures.0 c.if-used-eq0.false in
    let f = lines_few tape in
    record { fits = omega arith }

pub loop-judged-smaller : goal.loop-judged-smaller
loop-judged-smaller c = let nl = c.next_line-used in
    let tape = c.args.tape.now in
    let l = line_some tape c.loop-judged.lines nl.result nl.ensures.0 c.if-used-eq0.false in
    omega arith

pub loop-judged-preserved : goal.loop-judged-preserved
loop-judged-preserved c = let nl = c.next_line-used in
    let tape = c.args.tape.now in
    let l = line_some tape c.loop-judged.lines nl.result nl.ensures.0 c.if-used-eq0.false in
    (nl.ensures.3, omega arith, search rules, search rules, search rules)
