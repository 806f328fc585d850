-- What holds of a request that is not refused, in plain facts.
use Rattle.std.specs.Prelude.{ℕ, ◌≤◌, ◌<◌, ◌≡◌, List, length}
use Rattle.cube_spec.specs.Limits.{power_limit}
use Rattle.plan_spec.specs.Accepted.{LengthsAccepted}
use Rattle.link_spec.specs.Costs.{link_of}
use Rattle.link_spec.specs.Search.{link_limit}

pub record SearchAccepted (ds : List ℕ) (p : ℕ) (links : List ℕ) (budget : ℕ) : Type 0 where
  pub lengths : LengthsAccepted ds
  pub boards : p ≤ power_limit
  pub pays : 1 ≤ budget
  pub each : length links ≡ length ds
  pub positive : (d : ℕ) → d < length ds → 1 ≤ link_of links d
  pub most : (d : ℕ) → d < length ds → link_of links d ≤ link_limit
