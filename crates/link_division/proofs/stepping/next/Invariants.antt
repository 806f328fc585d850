-- `link_division::stepping::next` meets its contract.
use Rattle.std.proofs.Common.{◌≡◌}
use Rattle.link_spec.proofs.Stepping.{Stuck}
use Rattle.link_division.proofs.stepping.next.Given as goal

abbrev pub invariant-loop-i : goal.invariant-loop-i
invariant-loop-i l = (l.exponents ≡ l.initial.exponents) × Stuck l.exponents l.caps l.i l.rest
