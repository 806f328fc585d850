-- `link_division::stepping::fill` meets its contract.
use Rattle.link_spec.proofs.Stepping.{Filling}
use Rattle.link_division.proofs.stepping.fill.Given as goal

abbrev pub invariant-loop-i : goal.invariant-loop-i
invariant-loop-i l = Filling l.initial.exponents l.caps l.amount l.i l.exponents l.left
