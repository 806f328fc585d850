-- `print` hands on what was read: it prints as the input does that it was read of.
use mathlib.Core.Path.{◌∙◌, ap}
use lib.ListN.{length}
use lib.Seq.{sets}
use Rattle.practice.proofs.Opened.{told}
use Rattle.practice.proofs.writing.print.Goals as goal

pub returns : goal.returns
returns c =
    let p = c.print_for in
    λ input h.
    let e = told input c.args.space.now c.args.opening c.requires.0 c.requires.1 h in
    let q = p.ensures in
    (q.0 ∙ ap length e, q.1 ∙ ap (sets c.args.out.now 0) e)
