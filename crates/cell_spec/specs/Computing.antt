-- Names every definition, so that a fact that computes with them says `unfolding computing`.
use Rattle.std.specs.Prelude.{ℕ}
use Rattle.cell_spec.specs.Wrapped
use Rattle.cell_spec.specs.Rows
use Rattle.cell_spec.specs.Strides
use Rattle.cube_spec.specs.Computing as cube_spec

unfoldable pub computing : ℕ
unfolding Wrapped.residue Wrapped.wrapped Rows.from Rows.every Rows.placed Rows.written Rows.zeros Rows.added_to Rows.axis_sums Rows.row_sums Rows.combs Strides.box_size Strides.offset Strides.box_place Strides.box_cell Strides.box_sums cube_spec.computing
computing = 0
