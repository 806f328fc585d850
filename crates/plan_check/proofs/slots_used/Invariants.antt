use mathlib.Core.Path.{◌≡◌}
use Rattle.plan_spec.specs.Refusals.{slots_used}
use Rattle.plan_check.proofs.slots_used.Given as goal

-- the slots before this one are zero
abbrev pub invariant-loop-slot : goal.invariant-loop-slot
invariant-loop-slot l =
    (slots_used l.plan.axes l.plan.lengths ≡ slots_used l.slot l.plan.lengths)
    × (slots_used l.plan.axes l.plan.order ≡ slots_used l.slot l.plan.order)
    × (slots_used l.plan.axes l.plan.exponents ≡ slots_used l.slot l.plan.exponents)
