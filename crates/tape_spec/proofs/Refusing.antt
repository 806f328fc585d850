-- Laws of the reader's refusals: the scan's come first, then the slice's.
use Prim.Native.Nat.{ℕ, zero, suc, ◌≤◌, ◌<◌}
use mathlib.Core.Path.{◌≡◌, refl, sym, ap, ◌∙◌}
use mathlib.Core.Bool.{true}
use mathlib.Core.List.{List, [], ◌∷◌, ◌++◌}
use native.Mathlib.Omega.{arith}
use borrow.Author.Tests.{lt-ltb, le-ltb, ltb-false}
use lib.ListN.{length}
use lib.IntN.{ℤ}
use Rattle.cube_spec.specs.Checks.{Check, check, first, gives, refuses}
use Rattle.cube_spec.proofs.Answered.{gives_is, refuses_is, refuses_some}
use Rattle.cube_spec.proofs.Dues.{Numbered, numbered_both, first_due, first_passed, none_first, none_both, lacks}
use Rattle.tape_spec.specs.declared.types.Scan.{Scan}
use Rattle.tape_spec.specs.Tapes.{Entry, form, campaign}
use Rattle.tape_spec.specs.Reading.{or_empty, entries_in, entry_checks, scan_checks, scan_refusal, scan_in, scanned_as, scanning, short_slice, reading_checks, reading_refusal, filled_or, reading}

pub left_alone : (n : ℕ) (p s : List ℤ) → (n ≡ 0 → ⊥) → filled_or n p s ≡ s
unfolding filled_or
left_alone zero p s h = absurd (h refl)
left_alone (suc n) p s h = refl

entries_numbered : (es : List Entry) → Numbered (entry_checks es)
unfolding entry_checks
entries_numbered [] = tt
entries_numbered (e ∷ es) = (omega arith, (omega arith, entries_numbered es))

pub numbered : (tape : List ℕ) → Numbered (scan_checks tape)
unfolding scan_checks
numbered tape = (omega arith, (omega arith, entries_numbered (entries_in (form tape))))

-- 7, which request 7/12 retires, is none of the scan's numbers
entries_lack : (es : List Entry) → lacks 7 (entry_checks es) ≡ true
unfolding entry_checks lacks
entries_lack [] = refl
entries_lack (e ∷ es) = entries_lack es

pub scan_lacks : (tape : List ℕ) → lacks 7 (scan_checks tape) ≡ true
unfolding scan_checks lacks
scan_lacks tape = entries_lack (entries_in (form tape))

pub reading_numbered : (tape : List ℕ) (n : ℕ) → Numbered (reading_checks tape n)
unfolding reading_checks
reading_numbered tape n = numbered_both (scan_checks tape) _ (numbered tape) (omega arith, tt)

-- of the scan's checks and others after them none is due: then none of either is
pub none_of_scan : (tape : List ℕ) (r : List Check) → first (scan_checks tape ++ r) ≡ 0 → (first (scan_checks tape) ≡ 0) × (first r ≡ 0)
none_of_scan tape r = none_both (scan_checks tape) r (numbered tape)

pub after_scan : (tape : List ℕ) (r : List Check) → first (scan_checks tape) ≡ 0 → first (scan_checks tape ++ r) ≡ first r
after_scan tape r h = first_passed (scan_checks tape) r (numbered tape) h

-- what is read where nothing is refused
module _ (tape : List ℕ) (s : List ℤ) (h : reading_refusal tape (length s) ≡ 0) where
  pub fills : filled_or 0 (or_empty (campaign tape)).points s ≡ reading tape s
  unfolding reading
  fills = rw h

  pub passes : (scan_refusal tape ≡ 0) × (length (or_empty (campaign tape)).points ≤ length s)
  unfolding scan_refusal short_slice
  passes =
      let n = none_of_scan tape (check 11 (short_slice (or_empty (campaign tape)) (length s)) ∷ []) (unfold reading_refusal reading_checks in h) in
      (n.0, ltb-false (length s) _ (none_first _ [] (omega arith) n.1).0)

-- where the scan refuses, by a number
module _ (tape : List ℕ) (n : ℕ) (e : refuses n ≡ scanning tape) where
  abbrev told : Scan
  told = scan_in tape

  pub refusal : n ≡ scan_refusal tape
  unfolding scanning scanned_as
  refusal = refuses_is (scan_refusal tape) n told e

  pub some : n ≡ 0 → ⊥
  unfolding scanning scanned_as
  some = refuses_some (scan_refusal tape) n told e

  -- no later check counts
  pub scan_first : (r : List Check) → n ≡ first (scan_checks tape ++ r)
  unfolding scan_refusal
  scan_first r = refusal ∙ sym (first_due (scan_checks tape) r (λ z. some (refusal ∙ z)))

  pub refused : (s : List ℤ) → (n ≡ reading_refusal tape (length s)) × (s ≡ reading tape s)
  unfolding reading_refusal reading_checks reading
  refused s =
      let q : n ≡ reading_refusal tape (length s) = scan_first _ in
      (q, sym (left_alone (reading_refusal tape (length s)) _ s (λ z. some (q ∙ z))))

-- where it gives what the tape holds
module _ (tape : List ℕ) (f : Scan) (e : gives f ≡ scanning tape) where
  both : (scan_refusal tape ≡ 0) × (f ≡ scan_in tape)
  unfolding scanning scanned_as
  both = gives_is (scan_refusal tape) (scan_in tape) f e

  pub none_due : scan_refusal tape ≡ 0
  none_due = both.0

  pub scan_is : f ≡ scan_in tape
  scan_is = both.1

  -- the later checks decide
  pub scan_passed : (r : List Check) → first (scan_checks tape ++ r) ≡ first r
  unfolding scan_refusal
  scan_passed r = after_scan tape r none_due

  counts : f.points ≡ length (or_empty (campaign tape)).points
  counts = ap (λ f. f.points) scan_is

  pub fits : (n : ℕ) → f.points ≤ n → reading_refusal tape n ≡ 0
  unfolding reading_refusal reading_checks first short_slice
  fits n l = rw (scan_passed _, le-ltb n _ (rw counts at l))

  pub short : (s : List ℤ) → length s < f.points → (11 ≡ reading_refusal tape (length s)) × (s ≡ reading tape s)
  unfolding reading reading_refusal reading_checks first short_slice filled_or
  short s l = rw (scan_passed _, lt-ltb (length s) _ (rw counts at l)) (refl, refl)

-- what a scan says of reading into a slice
pub ruleset reads = (refused, fits, short)
