-- Names every definition, so that a fact that computes with them says `unfolding computing`.
use Rattle.std.specs.Prelude.{ℕ}
use Rattle.campaign_slices.specs.Lent
use Rattle.campaign_slices.specs.Scans
use Rattle.campaign_slices.specs.Racks
use Rattle.campaign_slices.specs.Links
use Rattle.tape_spec.specs.Computing as tape_spec
use Rattle.rack_spec.specs.Computing as rack_spec
use Rattle.link_spec.specs.Computing as link_spec

unfoldable pub computing : ℕ
unfolding Lent.lent_refusal Lent.written_or Scans.cells_of Scans.lent_scan_refusal Scans.lent_scan Scans.open_refusal Scans.opened_array Scans.opened_scan Racks.no_plan Racks.plan_from Racks.bytes_of Racks.count_refusal Racks.price_refusal Racks.at_checks Racks.at_refusal Racks.hold_refusal Racks.counted Racks.priced Racks.stepped_at Racks.held Links.cells_searched Links.searched_in Links.lent_search_refusal Links.lent_search link_spec.computing tape_spec.computing rack_spec.computing
computing = 0
