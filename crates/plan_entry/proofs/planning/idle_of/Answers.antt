-- `plan_entry::planning::idle_of` meets its contract: neither power passes the word, and the smaller one is taken off.
use Prim.Native.Nat.{ℕ, ◌*◌, ◌%◌, ◌^◌, ◌≤◌}
use mathlib.Core.Path.{◌≡◌}
use native.Mathlib.Omega.{arith}
use native.Mathlib.Nat.{le_trans}
use lib.Pow.{pow_mono}
use Rattle.cube_spec.specs.Limits.{power_limit}
use Rattle.plan_spec.proofs.PricingLaws.{shift_in}
use Rattle.plan_entry.proofs.planning.idle_of.Goals as goal

word : (k : ℕ) → k ≤ power_limit → (1 * 2 ^ k) % 4294967296 ≡ 2 ^ k
word k h = shift_in 4294967296 k (omega arith) h

pub overflow_sub-result : goal.overflow_sub-result
overflow_sub-result c = rw (word c.args.p c.requires.1, word c.args.used (le_trans c.requires.0 c.requires.1)) (pow_mono c.requires.0)
