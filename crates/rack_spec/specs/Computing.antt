-- Names every definition, so that a fact that computes with them says `unfolding computing`.
use Rattle.std.specs.Prelude.{ℕ}
use Rattle.rack_spec.specs.Grids
use Rattle.rack_spec.specs.Steps
use Rattle.rack_spec.specs.Held
use Rattle.rack_spec.specs.Recut
use Rattle.rack_spec.specs.Counts
use Rattle.rack_spec.specs.Finding
use Rattle.rack_spec.specs.Answers
use Rattle.plan_spec.specs.Computing as plan_spec

unfoldable pub computing : ℕ
unfolding Grids.grid_of Grids.mask_of Grids.set_of Grids.summed_by Grids.summed Grids.boards Grids.label Grids.board_with Grids.with_label Grids.lead Grids.extent Grids.box Grids.cells Grids.global Grids.region_size Grids.region_start Grids.share Grids.index Grids.region_from Grids.board_of Grids.region_of Grids.cell_of Grids.cell_at Steps.each Steps.sends Steps.transfers Steps.walk Steps.steps Steps.values Steps.times_finished Held.same Held.expansions Held.finishes Held.own Held.held_after Held.held Held.finished_at Recut.uncounted_all Counts.span Counts.labellings Counts.sendings Counts.marks Counts.walk_count Finding.leads Finding.lead_label Finding.lead_at Finding.found Finding.held_walk Answers.told_at Answers.past_end Answers.no_board Answers.held_checks Answers.held_refusal Answers.holding Answers.counting plan_spec.computing
computing = 0
