use Rattle.std.proofs.Common.{SFits, w64, to_z-of_z, ◌∙◌, rules}
use Rattle.cube_spec.proofs.Shots.{value_none, value_some}
use Rattle.cell_pair.proofs.Shooting.{marked, unmarked}
use Rattle.cell_pair.proofs.points.value.Goals as goal

pub returns-then-x-eqminus2147483648 : goal.returns-then-x-eqminus2147483648
returns-then-x-eqminus2147483648 c = value_none _ (marked _ c.ranges.x c.if-x-eqminus2147483648.true)

pub returns-else-x-eqminus2147483648 : goal.returns-else-x-eqminus2147483648
returns-else-x-eqminus2147483648 c =
    let f : SFits w64 c.from.result = search rules in
    rw (to_z-of_z f) (rw (to_z-of_z c.ranges.x) at c.from.ensures ∙ value_some _ (unmarked _ c.ranges.x c.if-x-eqminus2147483648.false))
