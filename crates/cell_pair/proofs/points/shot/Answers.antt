use Rattle.std.proofs.Common.{SFits, w64, to_z-of_z, ◌∙◌, rules}
use Rattle.cell_pair.proofs.Shooting.{tested}
use Rattle.cell_pair.proofs.points.shot.Goals as goal

pub returns : goal.returns
returns c = let f : SFits w64 c.from.result = search rules in rw (to_z-of_z f) (c.from.ensures ∙ tested _ c.ranges.x)
