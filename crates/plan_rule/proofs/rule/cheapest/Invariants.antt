-- the place, of the entries from i on
use mathlib.Core.Path.{◌≡◌}
use Prim.Native.Nat.{◌+◌, ◌<◌}
use lib.ListN.{length, drop}
use Rattle.std.specs.Prelude.{IfSome, unwrap_or}
use Rattle.plan_spec.specs.Rule as Rule
use Rattle.plan_spec.proofs.Raising.{chosen, least_or}
use Rattle.plan_rule.proofs.rule.cheapest.Given as goal

abbrev pub invariant-loop-i : goal.invariant-loop-i
invariant-loop-i l =
    (unwrap_or l.best (length l.entries) ≡ l.i + chosen (drop l.i l.entries)) × (l.least ≡ least_or (Rule.least (drop l.i l.entries))) × IfSome l.best (λ k. k < length l.entries)
