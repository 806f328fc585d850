-- `link_division::pricing::shares_cost` meets its contract.
use Rattle.std.proofs.Common.{length}
use Rattle.link_spec.proofs.Pricing.{Summed}
use Rattle.link_division.proofs.pricing.shares_cost.Given as goal

abbrev pub invariant-loop-i : goal.invariant-loop-i
invariant-loop-i l = Summed l.lens l.fares (length l.lens) l.i l.sum
