-- `controller::asked` meets its contract.
use Prim.Native.Nat.{◌+◌, ◌/◌}
use mathlib.Core.Path.{◌≡◌, ◌∙◌, ap, sym}
use native.Mathlib.Omega.{arith}
use lib.ListN.{length}
use Rattle.std.proofs.lemmas.Result.{err_from_is_err_and}
use Rattle.cube_spec.specs.declared.refusals.Refusal.TheVariants as Refusal'
use Rattle.plan_spec.specs.Rule.{power_used}
use Rattle.plan_spec.specs.Refusals.{planning_refusal}
use Rattle.plan_spec.proofs.Accepting.{used_le, planning_passed}
use Rattle.controller.proofs.Pairing.{taken_back, asks_odd, asks_planning, asks_many, asked_error, asked_given}
use Rattle.controller.proofs.asked.Goals as goal
use Rattle.controller.proofs.asked.Goals.{then-lengths-eq1-via-then-lengths-eq1, then-lengths-eq1-via-else-lengths-eq1+then-n-gt8}

pub returns-then-lengths-eq1 : goal.returns-then-lengths-eq1
returns-then-lengths-eq1 c =
    let b = c.args.lengths.now in
    asked_error b c.args.p Refusal'.Axes (elim c.then-lengths-eq1.branch [
      | then-lengths-eq1-via-then-lengths-eq1 w ↦ asks_odd b c.args.p w.if-lengths-eq1.true
      | then-lengths-eq1-via-else-lengths-eq1+then-n-gt8 w ↦
          let o = w.if-lengths-eq1.false in
          asks_many b c.args.p (length b / 2) (omega (arith, o)) w.if-n-gt8.true
    ])

pub returns-in_err-check_planning : goal.returns-in_err-check_planning
returns-in_err-check_planning c =
    let b = c.args.lengths.now in
    let o = c.if-lengths-eq1.false in
    let even : length b ≡ length b / 2 + length b / 2 = omega (arith, o) in
    let t = taken_back (length b / 2) b _ even c.if-n-gt8.false c.lengths_of-slots.ensures in
    let p = err_from_is_err_and c.from_residual.result c.from_residual.ensures.1 in
    let e = c.in_err-check_planning.ensures ∙ ap (λ l. planning_refusal l c.args.p) t ∙ asks_planning b c.args.p (length b / 2) even in
    rw (p.1, p.2) (asked_error b c.args.p c.in_err-check_planning.field-0.0 e)

pub idle_of-requires : goal.idle_of-requires
idle_of-requires c = (rw c.power_used-used.ensures (used_le _ c.args.p), (planning_passed _ c.args.p (sym c.in_ok-check_planning.ensures)).1)

pub returns : goal.returns
returns c =
    let b = c.args.lengths.now in
    let o = c.if-lengths-eq1.false in
    let even : length b ≡ length b / 2 + length b / 2 = omega (arith, o) in
    let t = taken_back (length b / 2) b _ even c.if-n-gt8.false c.lengths_of-slots.ensures in
    let judged = c.in_ok-check_planning.ensures ∙ ap (λ l. planning_refusal l c.args.p) t ∙ asks_planning b c.args.p (length b / 2) even in
    let used = c.power_used-used.ensures ∙ ap (λ l. power_used l c.args.p) t in
    asked_given b c.args.p (sym judged) _ _ _ used c.idle_of.ensures c.lengths_of-slots.ensures
