-- Names every definition, so that a fact that computes with them says `unfolding computing`.
use Rattle.std.specs.Prelude.{ℕ}
use Rattle.cube_spec.specs.Limits
use Rattle.cube_spec.specs.Bytes
use Rattle.cube_spec.specs.Boxes
use Rattle.cube_spec.specs.Shots
use Rattle.cube_spec.specs.Choices
use Rattle.cube_spec.specs.Portions
use Rattle.cube_spec.specs.Before
use Rattle.cube_spec.specs.Tree
use Rattle.cube_spec.specs.Ways
use Rattle.cube_spec.specs.Checks

unfoldable pub computing : ℕ
unfolding Limits.padded Bytes.little Boxes.sum_n Boxes.sum_z Boxes.table_from Boxes.put Boxes.product Boxes.place Boxes.position Shots.unshot Shots.value_of Shots.shot_of Shots.values Shots.shots Choices.keeps Choices.full_mask Choices.without_mask Choices.with_mask Choices.kept_length Choices.cells Choices.points Choices.counted_cells Choices.point_position Choices.cell_position Choices.agrees Choices.total Choices.totals Choices.shot_sum Choices.shot_count Choices.sums Choices.counts Portions.portion_extent Portions.portion_start Portions.ceiling Before.floor_start Tree.has Tree.children_from Tree.children Tree.kept Tree.choice_cells Tree.over_sets_from Tree.sent Tree.moved Tree.added Tree.weight Tree.weighted Tree.region_size Tree.region_start Tree.share_size Tree.sum_over Tree.step_count Ways.sum_list Ways.cost_by Ways.moved_by Ways.added_by Ways.halvings Ways.log2 Ways.room Checks.first Checks.answered
computing = 0
