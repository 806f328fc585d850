-- `tape_scan::count` meets its contract: each command that is read moves the count on by its law.
use Rattle.std.proofs.Common.{◌≡◌, ◌∙◌, sym, arith, rules}
use mathlib.Core.Logic.{⊎_elim}
use Rattle.cube_spec.specs.Checks.{refuses}
use Rattle.cube_spec.specs.Refusals.{number_of, refused_by, reply_of}
use Rattle.cube_spec.proofs.Numbers.{number_positive}
use Rattle.cube_spec.proofs.Answered.{given}
use Rattle.tape_spec.proofs.Decoding.{tells}
use Rattle.tape_spec.proofs.Scanning as laws
use Rattle.tape_scan.proofs.count.Goals as goal

pub loop-command-smaller-in-Points : goal.loop-command-smaller-in-Points
loop-command-smaller-in-Points c = let m = tells c.args.tape.now c.loop-command.at (rw c.in-Points.is at c.in-Some.ensures.0) in omega arith

pub loop-command-preserved-in-Points : goal.loop-command-preserved-in-Points
loop-command-preserved-in-Points c =
    let e = rw c.in-Points.is at c.in-Some.ensures.0 in
    let m = tells c.args.tape.now c.loop-command.at e in
    let n = rw c.in-Points.is at c.in-Some.ensures.1 in
    (omega arith, omega arith, omega arith, c.loop-command.invariant.3 ∙ laws.centimetres_more c.args.tape.now _ _ _ (refused_by c.loop-command.judged) _ _ _ e)

pub loop-command-smaller : goal.loop-command-smaller
loop-command-smaller c = let m = tells c.args.tape.now c.loop-command.at (rw c.in-Float.is at c.in-Some.ensures.0) in omega arith

pub loop-command-preserved : goal.loop-command-preserved
loop-command-preserved c =
    let e = rw c.in-Float.is at c.in-Some.ensures.0 in
    let m = tells c.args.tape.now c.loop-command.at e in
    (omega arith, omega arith, omega arith, rw c.sooner-judged.ensures (c.loop-command.invariant.3 ∙ laws.points_more c.args.tape.now _ _ _ (refused_by c.loop-command.judged) _ _ _ e))

pub returns-then-next-tape : goal.returns-then-next-tape
returns-then-next-tape c = laws.before_end _ _ _ _ (refused_by c.loop-command.judged) _ (rw c.in-End.is at c.in-Some.ensures.0) c.if-next-tape.true ∙ sym c.loop-command.invariant.3

pub returns-in_err-judged-in-End : goal.returns-in_err-judged-in-End
returns-in_err-judged-in-End c =
    let n = number_of c.in_err-judged-in-End.field-0.0 in
    let q : reply_of c.from_residual.result ≡ refuses n = search rules in
    let b : n ≡ refused_by c.loop-command.judged = rw c.in_err-judged-in-End.was in
    q ∙ laws.at_end_refused _ _ _ _ (refused_by c.loop-command.judged) _ n (rw c.in-End.is at c.in-Some.ensures.0) c.if-next-tape.false (number_positive _) b ∙ sym c.loop-command.invariant.3

pub returns-in-End : goal.returns-in-End
returns-in-End c =
    let q : refused_by c.loop-command.judged ≡ 0 = rw c.in_ok-judged-in-End.was in
    given (refused_by c.loop-command.judged) _ q ∙ laws.at_end _ _ _ _ (refused_by c.loop-command.judged) _ (rw c.in-End.is at c.in-Some.ensures.0) c.if-next-tape.false ∙ sym c.loop-command.invariant.3

pub returns-in-Axis : goal.returns-in-Axis
returns-in-Axis c =
    ⊎_elim
    (λ (d, next, is). laws.axis_late _ _ _ _ (refused_by c.loop-command.judged) d next (rw is at c.in-Some.ensures.0))
    (λ (p, next, is). laws.boards_late _ _ _ _ (refused_by c.loop-command.judged) p next (rw is at c.in-Some.ensures.0))
    c.in-Axis.is ∙ sym c.loop-command.invariant.3

pub returns : goal.returns
returns c = laws.no_command _ _ _ _ (refused_by c.loop-command.judged) c.in_default.ensures.0 ∙ sym c.loop-command.invariant.3
