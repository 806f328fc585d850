-- `totals::loading::bounded` meets its contract: each point that is read is within its type.
use Prim.Native.Nat.{ℕ, ◌^◌, ◌≤◌, ◌<◌}
use lib.IntN.{nat_abs}
use Rattle.run_spec.specs.Memory.{read}
use Rattle.totals.proofs.loading.bounded.Given as goal

abbrev pub invariant-loop-point : goal.invariant-loop-point
invariant-loop-point l = (j : ℕ) → j < l._point-index → nat_abs (read l.points j) ≤ 2 ^ 31
