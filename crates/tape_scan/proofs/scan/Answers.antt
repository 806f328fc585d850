-- `tape_scan::scan` meets its contract: each command that is read moves the scan on by its law.
use Rattle.std.proofs.Common.{◌≡◌, ◌∙◌, refl, sym, set, arith, rules}
use Rattle.std.proofs.lemmas.List.{set_past, length-set}
use Rattle.cube_spec.specs.Checks.{refuses}
use Rattle.cube_spec.specs.Refusals.{number_of, reply_of}
use Rattle.tape_spec.proofs.Decoding.{tells}
use Rattle.tape_spec.proofs.Scanning as laws
use Rattle.tape_scan.proofs.scan.Goals as goal
use Rattle.tape_scan.proofs.scan.Goals.{then-axes-lt8, else-axes-lt8}

pub returns-then-tape-gt65536 : goal.returns-then-tape-gt65536
returns-then-tape-gt65536 c = laws.too_long_lem _ c.if-tape-gt65536.true

pub loop-command-init : goal.loop-command-init
loop-command-init c = (omega arith, omega arith, omega arith, refl, laws.no_axis_yet _ c.if-tape-gt65536.false)

pub loop-command-smaller : goal.loop-command-smaller
loop-command-smaller c = let m = tells c.args.tape.now c.loop-command.at (rw c.in-Axis.is at c.in-Some.ensures.0) in omega arith

pub loop-command-preserved : goal.loop-command-preserved
loop-command-preserved c =
    let e = rw c.in-Axis.is at c.in-Some.ensures.0 in
    let m = tells c.args.tape.now c.loop-command.at e in
    let s : c.if-axes-lt8.lengths ≡ set c.loop-command.lengths c.loop-command.axes c.in-Axis.d =
    elim c.if-axes-lt8.branch [ then-axes-lt8 w ↦ search rules | else-axes-lt8 w ↦ w.lengths-is ∙ sym (set_past _ _ _ (omega arith)) ] in
    let l = length-set c.loop-command.lengths c.loop-command.axes c.in-Axis.d in
    (omega arith, omega arith, omega arith, rw s (omega arith), rw s (c.loop-command.invariant.4 ∙ laws.axis_more c.args.tape.now _ _ _ _ _ _ e))

pub count-requires : goal.count-requires
count-requires c = let m = tells c.args.tape.now c.loop-command.at (rw c.in-Boards.is at c.in-Some.ensures.0) in (omega arith, omega arith, omega arith)

pub returns-in_err-points-in-Boards : goal.returns-in_err-points-in-Boards
returns-in_err-points-in-Boards c =
    let n = number_of c.in_err-points-in-Boards.field-0.0 in
    let q : reply_of c.from_residual.result ≡ refuses n = search rules in
    q ∙ laws.boards_refused _ _ _ _ _ _ _ (rw c.in-Boards.is at c.in-Some.ensures.0) n c.in_err-points-in-Boards.ensures ∙ sym c.loop-command.invariant.4

pub returns-in-Boards : goal.returns-in-Boards
returns-in-Boards c = laws.boards_whole _ _ _ _ _ _ _ (rw c.in-Boards.is at c.in-Some.ensures.0) _ _ c.in_ok-points-in-Boards.ensures ∙ sym c.loop-command.invariant.4

pub returns-in_default-command : goal.returns-in_default-command
returns-in_default-command c =
    let d = c.in_default-command in
    laws.no_length _ _ _ _ _ _ d.not-Axis d.not-Boards c.in-Some.ensures.0 ∙ sym c.loop-command.invariant.4

pub returns : goal.returns
returns c = laws.no_command_yet _ _ _ _ _ c.in_default.ensures.0 ∙ sym c.loop-command.invariant.4
