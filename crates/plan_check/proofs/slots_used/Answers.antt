use mathlib.Core.Path.{sym, ◌∙◌}
use native.Mathlib.Omega.{arith}
use Rattle.plan_spec.proofs.Judging.{or_true, slots_hit, slots_miss, slots_end}
use Rattle.plan_check.proofs.slots_used.Goals as goal
use Rattle.plan_check.proofs.slots_used.Goals.{then-plan-slot-ne0-via-then-plan-slot-ne0, then-plan-slot-ne0-via-else-plan-slot-ne0+then-plan-slot-ne0-2, then-plan-slot-ne0-via-else-plan-slot-ne0+else-plan-slot-ne0-2+then-plan-slot-ne0-3}

pub returns-then-plan-slot-ne0 : goal.returns-then-plan-slot-ne0
returns-then-plan-slot-ne0 c =
    let p = c.args.plan in
    let d = c.loop-slot.slot in
    let i = c.loop-slot.invariant in
    elim c.then-plan-slot-ne0.branch [
      | then-plan-slot-ne0-via-then-plan-slot-ne0 w ↦ rw (i.0 ∙ slots_hit p.lengths d (omega arith) w.if-plan-slot-ne0.true)
      | then-plan-slot-ne0-via-else-plan-slot-ne0+then-plan-slot-ne0-2 w ↦ rw (i.1 ∙ slots_hit p.order d (omega arith) w.if-plan-slot-ne0-2.true) (sym (or_true _))
      | then-plan-slot-ne0-via-else-plan-slot-ne0+else-plan-slot-ne0-2+then-plan-slot-ne0-3 w ↦ rw (i.2 ∙ slots_hit p.exponents d (omega arith) w.if-plan-slot-ne0-3.true, or_true) (sym (or_true _))
    ]

pub loop-slot-preserved : goal.loop-slot-preserved
loop-slot-preserved c =
    let p = c.args.plan in
    let d = c.loop-slot.slot in
    let i = c.loop-slot.invariant in (
      i.0 ∙ slots_miss p.lengths d (omega arith) c.if-plan-slot-ne0.false,
      i.1 ∙ slots_miss p.order d (omega arith) c.if-plan-slot-ne0-2.false,
      i.2 ∙ slots_miss p.exponents d (omega arith) c.if-plan-slot-ne0-3.false,
    )

pub returns : goal.returns
returns c =
    let p = c.args.plan in
    let d = c.loop-slot.slot in
    let i = c.loop-slot.invariant in
    rw (i.0 ∙ slots_end p.lengths d (omega arith), i.1 ∙ slots_end p.order d (omega arith), i.2 ∙ slots_end p.exponents d (omega arith))
