use Rattle.std.proofs.Common.{◌-◌, length}
use Rattle.plan_price.proofs.pricing.+choices_from.Given as goal

abbrev pub decreases-choices_from : goal.decreases-choices_from
decreases-choices_from l = length l.lengths.now - l.i
