-- The visit of a choice and the walk over its children call each other, and the walk itself over the axes left.
-- The measure: twice the axes left, and one more for the visit.
use Rattle.std.proofs.Common.{◌+◌, ◌-◌}
use Rattle.rack_find.proofs.steps.+visit_walk.Given as goal

abbrev pub decreases-visit : goal.decreases-visit
decreases-visit l = (l.plan.now.axes - l.place.d) + (l.plan.now.axes - l.place.d) + 1

abbrev pub decreases-walk : goal.decreases-walk
decreases-walk l = (l.plan.now.axes - l.place.d) + (l.plan.now.axes - l.place.d)
