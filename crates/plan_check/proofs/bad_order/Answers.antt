use mathlib.Core.Path.{◌≡◌}
use native.Mathlib.Omega.{arith}
use lib.ListN.{length, take}
use lib.Seq.{length-take-le}
use Rattle.plan_spec.proofs.Judging.{bad_order_lem}
use Rattle.plan_check.proofs.bad_order.Goals as goal

pub returns-then-not-names_each : goal.returns-then-not-names_each
returns-then-not-names_each c =
    let q = c.args.plan in
    let n : length (take q.axes q.order) ≡ q.axes = length-take-le q.axes q.order (omega arith) in
    rw (bad_order_lem q, ← rw n at c.names_each.ensures, c.if-not-names_each.true)

pub returns-else-not-names_each : goal.returns-else-not-names_each
returns-else-not-names_each c =
    let q = c.args.plan in
    let n : length (take q.axes q.order) ≡ q.axes = length-take-le q.axes q.order (omega arith) in
    rw (bad_order_lem q, ← rw n at c.names_each.ensures, c.if-not-names_each.false) c.slots_used.ensures
