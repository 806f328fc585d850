use mathlib.Core.Path.{◌≡◌}
use native.Mathlib.Omega.{arith}
use lib.ListN.{length, take}
use lib.Seq.{length-take-le}
use Rattle.plan_spec.proofs.Judging.{bad_exponents_lem}
use Rattle.plan_check.proofs.bad_exponents.Goals as goal

pub returns-then-not-cuts_each : goal.returns-then-not-cuts_each
returns-then-not-cuts_each c =
    let q = c.args.plan in
    let n : length (take q.axes q.lengths) ≡ q.axes = length-take-le q.axes q.lengths (omega arith) in
    rw (bad_exponents_lem q (omega arith) c.requires, ← rw n at c.cuts_each.ensures, c.if-not-cuts_each.true)

pub returns-else-not-cuts_each : goal.returns-else-not-cuts_each
returns-else-not-cuts_each c =
    let q = c.args.plan in
    let n : length (take q.axes q.lengths) ≡ q.axes = length-take-le q.axes q.lengths (omega arith) in
    rw (bad_exponents_lem q (omega arith) c.requires, ← rw n at c.cuts_each.ensures, c.if-not-cuts_each.false, ← c.exponent_sum.ensures, ← c.from.ensures)
