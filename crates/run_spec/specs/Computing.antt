-- Names every definition, so that a fact that computes with them says `unfolding computing`.
use Rattle.std.specs.Prelude.{ℕ}
use Rattle.run_spec.specs.Memory
use Rattle.run_spec.specs.Plain
use Rattle.run_spec.specs.Gather
use Rattle.run_spec.specs.Entries
use Rattle.run_spec.specs.Taking
use Rattle.run_spec.specs.Expansions
use Rattle.run_spec.specs.Copies
use Rattle.cell_spec.specs.Computing as cell_spec
use Rattle.rack_spec.specs.Computing as rack_spec

unfoldable pub computing : ℕ
unfolding Memory.point_at Memory.source Memory.formed Memory.forms Memory.after Memory.stepped Memory.ran Plain.plain Plain.plain_stepped Plain.plain_ran Gather.portion_from Gather.portion_of Gather.owner Gather.local Gather.gathered_position Gather.gathered Gather.viewed Entries.bad_array Entries.work_cells Entries.small_area Entries.no_finish Entries.wrong_result Entries.step_checks Entries.taken Entries.step_or Entries.step_refusal Entries.stepping Entries.view_checks Entries.view_refusal Entries.view_or Entries.viewing Entries.gather_checks Entries.gather_refusal Entries.gather_or Entries.gathering Taking.told_before Expansions.one_child Expansions.children_to Expansions.ranks_to Expansions.stride Copies.cell_stride Copies.due_at Copies.owner_of Copies.one_board Copies.rank_of Copies.leads_to cell_spec.computing rack_spec.computing
computing = 0
