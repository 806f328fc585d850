-- `tape_fill::fill_scanned` meets its contract: 41s leave what is ahead as it is, and the 42 begins it.
use Rattle.std.proofs.Common.{◌∙◌, sym, arith}
use Rattle.tape_spec.proofs.Decoding.{tells}
use Rattle.tape_spec.proofs.Filling as laws
use Rattle.tape_spec.proofs.Refusing as refusing
use Rattle.tape_fill.proofs.fill_scanned.Goals as goal

pub loop-command-smaller : goal.loop-command-smaller
loop-command-smaller c = let m = tells _ c.loop-command.at (rw c.in-Axis.is at c.in-Some.ensures.0) in omega arith

pub loop-command-preserved : goal.loop-command-preserved
loop-command-preserved c = (c.loop-command.invariant.0, sym (laws.axis_passed _ _ _ _ (rw c.in-Axis.is at c.in-Some.ensures.0)) ∙ c.loop-command.invariant.1)

pub store-requires : goal.store-requires
store-requires c =
    let i = c.loop-command.invariant in
    let p = refusing.passes c.args.tape.now c.args.slice.now c.requires in
    let q = sym (laws.boards_passed _ _ _ _ (rw c.in-Boards.is at c.in-Some.ensures.0)) ∙ i.1 in
    let w = laws.scanned _ p.0 in
    (rw q w.0, rw (q, w.1, i.0) p.1)

pub returns-in-Boards : goal.returns-in-Boards
returns-in-Boards c =
    let i = c.loop-command.invariant in
    let q = sym (laws.boards_passed _ _ _ _ (rw c.in-Boards.is at c.in-Some.ensures.0)) ∙ i.1 in
    let w = laws.scanned _ (refusing.passes c.args.tape.now c.args.slice.now c.requires).0 in
    (rw (q, w.1, i.0) at c.store.ensures) ∙ refusing.fills c.args.tape.now c.args.slice.now c.requires

pub returns-in_default-command : goal.returns-in_default-command
returns-in_default-command c =
    let i = c.loop-command.invariant in
    let d = c.in_default-command in
    let w = laws.scanned _ (refusing.passes c.args.tape.now c.args.slice.now c.requires).0 in
    absurd (laws.none_ahead _ _ _ d.not-Axis d.not-Boards c.in-Some.ensures.0 (rw i.1 w.0))

pub returns : goal.returns
returns c =
    let i = c.loop-command.invariant in
    let w = laws.scanned _ (refusing.passes c.args.tape.now c.args.slice.now c.requires).0 in
    absurd (laws.no_end_ahead _ _ c.in_default.ensures.0 (rw i.1 w.0))
