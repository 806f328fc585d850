-- Laws of a scan's cells, and of the refusals of scanning and opening.
use Prim.Native.Nat.{ℕ, suc, ◌+◌, ◌≤◌, ◌<◌}
use mathlib.Core.Path.{◌≡◌, sym, ap, ◌∙◌}
use mathlib.Core.List.{List, ◌∷◌, append-nil}
use native.Mathlib.Omega.{arith}
use lib.IntN.{ℤ}
use borrow.Rule.Slice.PartMut.{put_mid}
use lib.ListN.{length, length-set, set, drop_of_length-le}
use lib.Seq.{sets, sets-eq}
use Rattle.cube_spec.specs.Checks.{first, gives, refuses}
use Rattle.cube_spec.specs.Limits.{axis_limit}
use Rattle.tape_spec.specs.declared.types.Scan.{Scan}
use Rattle.tape_spec.specs.Tapes.{campaign}
use Rattle.tape_spec.specs.Reading as reading'
use Rattle.tape_spec.specs.Reading.{or_empty, scan_checks, scan_refusal, scan_in, scanning, reading_checks, reading_refusal, filled_or}
use Rattle.tape_spec.proofs.Refusing as reading
use Rattle.campaign_slices.specs.Scans.{cells, cells_of, lent_scan_refusal, lent_scan, open_refusal, opened_array, opened_scan}
use Rattle.campaign_slices.proofs.Lending as lending

-- ---- cells

pub all_cells : (s : List ℕ) (f : Scan) → length s ≡ cells → length f.lengths ≡ axis_limit
    → sets (set (set (set (set s 0 f.axes) 1 f.p) 2 f.points) 3 f.commands) 4 f.lengths ≡ cells_of f
unfolding cells_of
all_cells s f h k =
    sets-eq (f.axes ∷ f.p ∷ f.points ∷ f.commands ∷ f.lengths) s 0 (omega arith)
    ∙ rw (drop_of_length-le s {i = 0 + suc (suc (suc (suc (length f.lengths))))} (omega arith), append-nil f.lengths)

-- the four numbers and the lengths, stored in turn
pub scan_put : (s : List ℕ) (f : Scan) (a p : ℕ) (l : List ℕ) → length s ≡ cells → length f.lengths ≡ axis_limit → a ≡ f.axes → p ≡ f.p → l ≡ f.lengths
    → put_mid 4 8 (set (set (set (set s 0 a) 1 p) 2 f.points) 3 f.commands) l ≡ cells_of f
scan_put s f a p l h k ea ep el =
    let n = length-set (set (set (set s 0 f.axes) 1 f.p) 2 f.points) 3 f.commands in
    let m = length-set (set (set s 0 f.axes) 1 f.p) 2 f.points in
    let o = length-set (set s 0 f.axes) 1 f.p in
    let q = length-set s 0 f.axes in
    rw (ea, ep) (lending.copied _ l f.lengths 4 8 (omega arith) el k ∙ all_cells s f h k)

-- ---- opening: the refusal, the array and the cells

abbrev Opens : List ℕ → ℕ → List ℤ → List ℤ → List ℕ → List ℕ → Type 0
Opens tape r a b s w = (r ≡ open_refusal tape (length a) (length s)) × (b ≡ opened_array tape a (length s)) × (w ≡ opened_scan tape (length a) s)

-- a refusal of reading comes first
unopened : (tape : List ℕ) (r : ℕ) (a : List ℤ) (s : List ℕ) → r ≡ reading_refusal tape (length a) → (r ≡ 0 → ⊥) → Opens tape r a a s s
unfolding open_refusal opened_array opened_scan reading_refusal
unopened tape r a s q h =
    let l = lending.refused (reading_checks tape (length a)) cells s r q h (cells_of (scan_in tape)) in
    (l.0, sym (reading.left_alone _ _ a (λ z. h (l.0 ∙ z))), l.1)

-- ---- where the scan refuses

module _ (tape : List ℕ) (n : ℕ) (e : refuses n ≡ scanning tape) where
  pub refused : (s : List ℕ) → (n ≡ lent_scan_refusal tape (length s)) × (s ≡ lent_scan tape s)
  unfolding lent_scan_refusal lent_scan scan_refusal
  refused s = lending.refused (scan_checks tape) cells s n (reading.refusal tape n e) (reading.some tape n e) (cells_of (scan_in tape))

  pub open_refused : (a : List ℤ) (s : List ℕ) → Opens tape n a a s s
  open_refused a s = unopened tape n a s (reading.refused tape n e a).0 (reading.some tape n e)

-- ---- where it gives what the tape holds

module _ (tape : List ℕ) (f : Scan) (e : gives f ≡ scanning tape) where
  none_due : first (scan_checks tape) ≡ 0
  unfolding scan_refusal
  none_due = reading.none_due tape f e

  pub wrong : (s : List ℕ) → (length s ≡ cells → ⊥) → (13 ≡ lent_scan_refusal tape (length s)) × (s ≡ lent_scan tape s)
  unfolding lent_scan_refusal lent_scan
  wrong s l = lending.wrong_after (scan_checks tape) cells s (reading.numbered tape) none_due (cells_of (scan_in tape)) l

  pub right : (s w : List ℕ) → length s ≡ cells → w ≡ cells_of f → (0 ≡ lent_scan_refusal tape (length s)) × (w ≡ lent_scan tape s)
  unfolding lent_scan_refusal lent_scan
  right s w l q = lending.right_after (scan_checks tape) cells s (reading.numbered tape) none_due (cells_of (scan_in tape)) l w (q ∙ ap cells_of (reading.scan_is tape f e))

  pub open_short : (a : List ℤ) (s : List ℕ) → length a < f.points → Opens tape 11 a a s s
  open_short a s l = unopened tape 11 a s (reading.short tape f e a l).0 (λ z. omega arith)

  module _ (a : List ℤ) (s : List ℕ) (l : f.points ≤ length a) where
    none_read : first (reading_checks tape (length a)) ≡ 0
    unfolding reading_refusal
    none_read = reading.fits tape f e (length a) l

    pub open_wrong : (length s ≡ cells → ⊥) → Opens tape 13 a a s s
    unfolding open_refusal opened_array opened_scan
    open_wrong k =
        let p = lending.wrong_after (reading_checks tape (length a)) cells s (reading.reading_numbered tape (length a)) none_read (cells_of (scan_in tape)) k in
        (p.0, sym (reading.left_alone _ _ a (λ z. let n : ◌≡◌ {A = ℕ} 13 0 = p.0 ∙ z in omega arith)), p.1)

    pub opens : (b : List ℤ) (w : List ℕ) → length s ≡ cells → b ≡ reading'.reading tape a → w ≡ cells_of f → Opens tape 0 a b s w
    unfolding open_refusal opened_array opened_scan reading_refusal
    opens b w k q c =
        let g = ap cells_of (reading.scan_is tape f e) in
        let p = lending.right_after (reading_checks tape (length a)) cells s (reading.reading_numbered tape (length a)) none_read (cells_of (scan_in tape)) k w (c ∙ g) in
        (p.0, q ∙ sym (reading.fills tape a none_read) ∙ ap (λ n. filled_or n (or_empty (campaign tape)).points a) p.0, p.1)
