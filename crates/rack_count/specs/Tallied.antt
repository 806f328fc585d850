-- What the tallies of a plan tell at each of their nine places; past the last axis nothing is left to label or to send.
use Rattle.std.specs.Prelude.{ℕ, ◌+◌, ◌-◌, ◌≡◌}
use Rattle.cube_spec.specs.Limits.{axis_limit}
use Rattle.cube_spec.specs.Boxes.{table}
use Rattle.plan_spec.specs.declared.types.Plan.{Plan}
use Rattle.rack_spec.specs.Counts.{span, sendings}
use Rattle.rack_spec.specs.Finding.{plan_grid}
use Rattle.rack_count.specs.declared.counts.Tally.{Tally}
use Rattle.rack_count.specs.declared.counts.Tallies.{Tallies}

-- what is counted of the axes from place d on
abbrev pub tally : Plan → ℕ → Tally
tally q d = record { span = span (plan_grid q) (q.axes - d) d; sent = sendings (plan_grid q) (q.axes - d) d }

pub record Tallied (q : Plan) (t : Tallies) : Type 0 where
  pub all : t.places ≡ table (axis_limit + 1) (tally q)
