use Rattle.std.proofs.Common.{to_z-of_z}
use Rattle.cell_pair.proofs.Shooting.{raised_bits}
use Rattle.cell_pair.proofs.points.raised.Goals as goal

pub returns : goal.returns
returns c = rw (c.cast_unsigned.ensures, to_z-of_z c.ranges.x) (raised_bits _ c.ranges.x)
