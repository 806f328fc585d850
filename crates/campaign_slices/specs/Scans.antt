-- What a scan and an opening answer a caller that lends cells for them, and the cells that they write.
use Rattle.std.specs.Prelude.{ℕ, List, ◌∷◌, length, ℤ}
use Rattle.tape_spec.specs.declared.types.Scan.{Scan}
use Rattle.tape_spec.specs.Tapes.{campaign}
use Rattle.tape_spec.specs.Reading.{or_empty, scan_checks, scan_in, reading_checks, filled_or}
use Rattle.campaign_slices.specs.Lent.{lent_refusal, written_or}

-- the axes, p, the points, the commands and eight lengths
abbrev pub cells : ℕ
cells = 12

unfoldable pub cells_of : Scan → List ℕ
cells_of s = s.axes ∷ s.p ∷ s.points ∷ s.commands ∷ s.lengths

-- ---- scanning

unfoldable pub lent_scan_refusal : List ℕ → ℕ → ℕ
lent_scan_refusal tape out = lent_refusal (scan_checks tape) cells out

unfoldable pub lent_scan : List ℕ → List ℕ → List ℕ
lent_scan tape out = written_or (lent_scan_refusal tape (length out)) (cells_of (scan_in tape)) out

-- ---- opening: the scan's cells and the points, of a slice of `array` cells and one of `out`

unfoldable pub open_refusal : List ℕ → ℕ → ℕ → ℕ
open_refusal tape array out = lent_refusal (reading_checks tape array) cells out

unfoldable pub opened_array : List ℕ → List ℤ → ℕ → List ℤ
opened_array tape array out = filled_or (open_refusal tape (length array) out) (or_empty (campaign tape)).points array

unfoldable pub opened_scan : List ℕ → ℕ → List ℕ → List ℕ
opened_scan tape array out = written_or (open_refusal tape array (length out)) (cells_of (scan_in tape)) out
