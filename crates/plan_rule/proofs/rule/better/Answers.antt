use mathlib.Core.Path.{◌≡◌, ◌∙◌}
use mathlib.Core.Bool.{true, false}
use borrow.Author.Tests.{le-leb, lt-leb}
use Rattle.plan_spec.specs.Rule.{free}
use Rattle.plan_spec.proofs.Raising.{room_free}
use Rattle.plan_rule.proofs.rule.better.Goals as goal

pub returns-then-room-from : goal.returns-then-room-from
returns-then-room-from c =
    let e = c.args.entry in
    let f : free e ≡ true = room_free e c.requires.1 ∙ le-leb _ _ (rw c.from.ensures at c.if-room-from.true) in
    rw (f, c.cost.ensures)

pub returns-else-room-from : goal.returns-else-room-from
returns-else-room-from c =
    let e = c.args.entry in
    let t = lt-leb _ _ (rw c.from.ensures at c.if-room-from.false) in
    let f : free e ≡ false = room_free e c.requires.1 ∙ t in
    rw (f, c.from.ensures) t
