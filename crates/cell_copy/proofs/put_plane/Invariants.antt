-- the first rows are copied
use Rattle.std.proofs.Common.{◌≡◌, ◌+◌, ◌*◌, get_or}
use Rattle.cell_spec.specs.Rows.{from, placed}
use Rattle.cell_spec.specs.Strides.{box_place}
use Rattle.cell_copy.proofs.put_plane.Given as goal

abbrev pub invariant-loop-row : goal.invariant-loop-row
invariant-loop-row l = l.res ≡ placed l.initial.res (l.row * get_or l.extents (l.d + 1) 0) (box_place l.extents l.strides 2 l.d l.at) (from l.work l.src)
