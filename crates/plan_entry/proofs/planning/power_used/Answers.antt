-- `plan_entry::planning::power_used` meets its contract.
use Rattle.plan_spec.specs.Rule.{power_used}
use Rattle.plan_entry.proofs.planning.power_used.Goals as goal

pub returns : goal.returns
unfolding power_used
returns c = rw (c.min.ensures, c.from.ensures, c.room_of.ensures)
