-- Laws of the scan's loops: what is left of a tape tells the whole.
use Prim.Native.Nat.{ℕ, zero, suc, ◌+◌, ◌≤◌, ◌<◌}
use mathlib.Core.Path.{◌≡◌, refl, sym, ap, ◌∙◌}
use mathlib.Core.Logic.{inl, inr}
use mathlib.Core.Option.{Option, none, some}
use mathlib.Core.List.{List, [], ◌∷◌, ◌++◌}
use native.Mathlib.Omega.{arith}
use native.Mathlib.Numerals.{add-one}
use native.Mathlib.Nat.{zero-add, add-zero}
use borrow.Author.Tests.{eqb-true, lt-ltb, le-ltb}
use lib.Dec.{eqb}
use lib.IntN.{ℤ}
use lib.ListN.{length, take, drop, set, replicate, length-append, length-replicate, length-drop, drop_of_length-le}
use lib.Seq.{sets, set_out}
use Rattle.cube_spec.specs.Boxes.{pick}
use Rattle.cube_spec.specs.Checks.{first, Reply, gives, refuses, answered}
use Rattle.cube_spec.specs.Limits.{tape_limit, axis_limit, padded}
use Rattle.cube_spec.proofs.Answered.{refused}
use Rattle.cube_spec.proofs.Sums.{by}
use Rattle.cube_spec.proofs.Naturals.{impossible}
use Rattle.tape_reading.specs.declared.types.Reading.{Reading}
use Rattle.tape_reading.specs.declared.types.Reading.TheVariants as Reading'
use Rattle.tape_reading.specs.Readings.{reading_of, centimetres_of, refusal_in, value_in}
use Rattle.tape_reading.proofs.Readings.{Kind, refusal_kind}
use Rattle.tape_spec.specs.declared.types.Command.{Command}
use Rattle.tape_spec.specs.declared.types.Command.TheVariants.{Axis, Boards, Points, Float, End}
use Rattle.tape_spec.specs.declared.types.Count.{Count}
use Rattle.tape_spec.specs.declared.types.Scan.{Scan}
use Rattle.tape_spec.specs.Tapes as Tapes
use Rattle.tape_spec.specs.Tapes.{axis, boards, points, end, prepend, commands, Entry, Form, with_entry, with_length, with_boards, entries_of, form_of, form_in, form, points_of, as_campaign, campaign}
use Rattle.tape_spec.specs.Reading.{too_long, is_none, or_empty, entries_in, entry_checks, scan_checks, scan_refusal, command_count, scanned_as, scanning}
use Rattle.tape_spec.specs.Decoding.{placed, nothing, meant_by, decoding, counted_as, counted}
use Rattle.tape_spec.proofs.Commands.{commands_none}
use Rattle.tape_spec.proofs.Decoding.{tells, some_left, bad_left}

-- ---- counting

-- the refusal of a reading, or else x
pub first_kind : (r x : ℕ) → Kind r → pick (eqb r 14) 14 (pick (eqb r 15) 15 x) ≡ pick (eqb r 0) x r
first_kind r x (inl e) = rw e
first_kind r x (inr (inl e)) = rw e
first_kind r x (inr (inr e)) = rw e

-- the first refusal of a reading and of those after it
sooner : (b r x : ℕ) → Kind r → pick (eqb b 0) (pick (eqb r 14) 14 (pick (eqb r 15) 15 x)) b ≡ pick (eqb (pick (eqb b 0) r b) 0) x (pick (eqb b 0) r b)
sooner b r x k = by (eqb b 0) (λ t. rw t (first_kind r x k)) (λ t. rw (t, t))

-- what is counted
abbrev pub count : ℕ → ℕ → Count
count k m = record { points = k; commands = m }

-- a command more before those that are left
one_more : {A : Type 0} (m : ℕ) (l : List A) → m + suc (length l) ≡ m + 1 + length l
one_more m l = omega arith

module _ (tape : List ℕ) (at k m b : ℕ) where
  pub points_more : (n : ℕ) (v : Reading) (next : ℕ) → placed (points n v) next ≡ decoding tape at
      → counted k m b (commands (drop at tape)) ≡ counted (k + n) (m + 1) (pick (eqb b 0) (refusal_in (centimetres_of v)) b) (commands (drop next tape))
  unfolding entries_of entry_checks first points_of
  points_more n v next e = rw (tells tape at e).is (go (commands (drop next tape)))
    where
      entries : (c : ℕ) (o : Option (List Entry)) → counted_as k c b (with_entry n v o) ≡ counted_as (k + n) c (pick (eqb b 0) (refusal_in (centimetres_of v)) b) o
      entries c none = refl
      entries c (some es) =
          let x = value_in (centimetres_of v) in
          let a = length-append (replicate n x) (points_of es) in
          let r = length-replicate n x in
          let p : k + length (replicate n x ++ points_of es) ≡ k + n + length (points_of es) = omega arith in
          rw p (ap (λ r. answered r (count (k + n + length (points_of es)) c)) (sooner b (refusal_in (centimetres_of v)) (first (entry_checks es)) (refusal_kind v)))

      go : (o : Option (List Tapes.Command)) → counted k m b (prepend (points n v) o) ≡ counted (k + n) (m + 1) (pick (eqb b 0) (refusal_in (centimetres_of v)) b) o
      go none = refl
      go (some cs) = rw (one_more m cs) (entries (m + 1 + length cs) (entries_of cs))

  -- whole centimetres are never refused
  pub centimetres_more : (n : ℕ) (v : ℤ) (next : ℕ) → placed (points n (Reading'.Centimetres v)) next ≡ decoding tape at
      → counted k m b (commands (drop at tape)) ≡ counted (k + n) (m + 1) b (commands (drop next tape))
  unfolding centimetres_of
  centimetres_more n v next e =
      let q : pick (eqb b 0) 0 b ≡ b = by (eqb b 0) (λ t. rw t (sym (eqb-true b 0 t))) (λ t. rw t) in
      points_more n (Reading'.Centimetres v) next e ∙ ap (λ r. counted (k + n) (m + 1) r (commands (drop next tape))) q

  pub at_end : (next : ℕ) → placed end next ≡ decoding tape at → length tape ≤ next → answered b (count k (m + 1)) ≡ counted k m b (commands (drop at tape))
  unfolding entries_of entry_checks first points_of
  at_end next e h = rw ((tells tape at e).is, drop_of_length-le tape h, commands_none, add-zero k) (ap (λ r. answered r (count k (m + 1))) (by (eqb b 0) (λ t. rw t (eqb-true b 0 t)) (λ t. rw t)))

  pub at_end_refused : (next n : ℕ) → placed end next ≡ decoding tape at → length tape ≤ next → 0 < n → n ≡ b → refuses n ≡ counted k m b (commands (drop at tape))
  at_end_refused next n e h s q = refused n (count k (m + 1)) s ∙ ap (λ n. answered n (count k (m + 1))) q ∙ at_end next e h

  pub before_end : (next : ℕ) → placed end next ≡ decoding tape at → next < length tape → refuses 2 ≡ counted k m b (commands (drop at tape))
  unfolding entries_of
  before_end next e h =
      let d = length-drop next tape in
      rw (tells tape at e).is (some_left (drop next tape) (λ o. refuses 2 ≡ counted k m b (prepend end o)) (omega arith) refl (λ c cs. refl))

  -- a 41 or a 42 from the 42 on
  pub axis_late : (d next : ℕ) → placed (axis d) next ≡ decoding tape at → refuses 2 ≡ counted k m b (commands (drop at tape))
  unfolding entries_of
  axis_late d next e = rw (tells tape at e).is (go (commands (drop next tape)))
    where
      go : (o : Option (List Tapes.Command)) → refuses 2 ≡ counted k m b (prepend (axis d) o)
      go none = refl
      go (some cs) = refl

  pub boards_late : (p next : ℕ) → placed (boards p) next ≡ decoding tape at → refuses 2 ≡ counted k m b (commands (drop at tape))
  unfolding entries_of
  boards_late p next e = rw (tells tape at e).is (go (commands (drop next tape)))
    where
      go : (o : Option (List Tapes.Command)) → refuses 2 ≡ counted k m b (prepend (boards p) o)
      go none = refl
      go (some cs) = refl

  pub no_command : nothing ≡ decoding tape at → refuses 2 ≡ counted k m b (commands (drop at tape))
  unfolding entries_of
  no_command e = bad_left tape at (λ o. refuses 2 ≡ counted k m b o) e refl refl

-- ---- scanning

-- what a tape holds
abbrev pub taken : ℕ → List ℕ → ℕ → ℕ → ℕ → Scan
taken k l p n m = record { axes = k; lengths = l; p = p; points = n; commands = m }

-- The scan of a tape that is not too long and has a form, by the first refusal of its readings: k axes and their lengths l being known already, and m commands being there in all.
abbrev judged_as : ℕ → List ℕ → ℕ → Option Form → Reply Scan
judged_as k l m none = refuses 2
judged_as k l m (some f) =
    answered (first (entry_checks f.entries)) (taken (k + length f.lengths) (sets l k f.lengths) f.p (length (points_of f.entries)) m)

-- m commands having been read, and those that are left being these
abbrev pub judged : ℕ → List ℕ → ℕ → Option (List Tapes.Command) → Reply Scan
judged k l m none = refuses 2
judged k l m (some cs) = judged_as k l (m + length cs) (form_of cs)

-- stores past the last slot change nothing
sets_out : (l : List ℕ) (i : ℕ) (ds : List ℕ) → length l ≤ i → sets l i ds ≡ l
sets_out l i [] h = refl
sets_out l i (d ∷ ds) h = rw (set_out l i d h) (sets_out l (suc i) ds (omega arith))

sets_suc : (a : ℕ) (l : List ℕ) (i : ℕ) (ds : List ℕ) → sets (a ∷ l) (suc i) ds ≡ a ∷ sets l i ds
sets_suc a l i [] = refl
sets_suc a l i (d ∷ ds) = sets_suc a (set l i d) (suc i) ds

zeros : (n k : ℕ) → n ≤ k → replicate n 0 ≡ take n (replicate {A = ℕ} k 0)
zeros zero k h = refl
zeros (suc n) zero h = absurd (omega arith)
zeros (suc n) (suc k) h = ap (λ (l : List ℕ). 0 ∷ l) (zeros n k (omega arith))

slots : (n k : ℕ) (ds : List ℕ) → n ≤ k → sets (replicate n 0) 0 ds ≡ take n (ds ++ replicate k 0)
slots n k [] h = zeros n k h
slots zero k (d ∷ ds) h = sets_out [] 1 ds (omega arith)
slots (suc n) k (d ∷ ds) h = sets_suc d (replicate n 0) 0 ds ∙ ap (λ (l : List ℕ). d ∷ l) (slots n k ds (omega arith))

module _ (tape : List ℕ) where
  pub too_long_lem : tape_limit < length tape → refuses 1 ≡ scanning tape
  unfolding answered scanning scanned_as scan_refusal scan_checks too_long first
  too_long_lem h = rw (lt-ltb tape_limit (length tape) h)

  pub no_axis_yet : length tape ≤ tape_limit → scanning tape ≡ judged 0 (replicate axis_limit 0) 0 (commands tape)
  unfolding answered scanning scanned_as scan_refusal scan_checks too_long first form campaign
  no_axis_yet h = rw (le-ltb tape_limit (length tape) h) (go (commands tape))
    where
      by_refusal : (r m : ℕ) (f : Form) → scanned_as r m (or_empty (as_campaign (some f))) ≡ answered r (taken (0 + length f.lengths) (sets (replicate axis_limit 0) 0 f.lengths) f.p (length (points_of f.entries)) m)
      by_refusal zero m f = unfold padded in rw (zero-add (length f.lengths), slots axis_limit axis_limit f.lengths (omega arith))
      by_refusal (suc r) m f = refl

      by_form : (m : ℕ) (o : Option Form) → scanned_as (pick (is_none (as_campaign o)) 2 (first (entry_checks (entries_in o)))) m (or_empty (as_campaign o)) ≡ judged_as 0 (replicate axis_limit 0) m o
      by_form m none = refl
      by_form m (some f) = by_refusal (first (entry_checks f.entries)) m f

      go : (o : Option (List Tapes.Command)) → scanned_as (pick (is_none (as_campaign (form_in o))) 2 (first (entry_checks (entries_in (form_in o))))) (command_count o) (or_empty (as_campaign (form_in o))) ≡ judged 0 (replicate axis_limit 0) 0 o
      go none = refl
      go (some cs) = rw (zero-add (length cs)) (by_form (length cs) (form_of cs))

  module _ (at k : ℕ) (l : List ℕ) (m : ℕ) where
    pub axis_more : (d next : ℕ) → placed (axis d) next ≡ decoding tape at → judged k l m (commands (drop at tape)) ≡ judged (k + 1) (set l k d) (m + 1) (commands (drop next tape))
    unfolding form_of
    axis_more d next e = rw (tells tape at e).is (go (commands (drop next tape)))
      where
        by_form : (c : ℕ) (o : Option Form) → judged_as k l c (with_length d o) ≡ judged_as (k + 1) (set l k d) c o
        by_form c none = refl
        by_form c (some f) = let p : k + suc (length f.lengths) ≡ k + 1 + length f.lengths = omega arith in rw (p, add-one k)

        go : (o : Option (List Tapes.Command)) → judged k l m (prepend (axis d) o) ≡ judged (k + 1) (set l k d) (m + 1) o
        go none = refl
        go (some cs) = rw (one_more m cs) (by_form (m + 1 + length cs) (form_of cs))

    module _ (p next : ℕ) (e : placed (boards p) next ≡ decoding tape at) where
      -- the points are counted, and no reading is refused
      pub boards_whole : (n c : ℕ) → gives (count n c) ≡ counted 0 (m + 1) 0 (commands (drop next tape))
          → gives (taken k l p n c) ≡ judged k l m (commands (drop at tape))
      unfolding form_of answered
      boards_whole n c = rw (tells tape at e).is (go (commands (drop next tape)))
        where
          by_refusal : (r d : ℕ) (es : List Entry) → gives (count n c) ≡ answered r (count (0 + length (points_of es)) d)
              → gives (taken k l p n c) ≡ answered r (taken (k + 0) l p (length (points_of es)) d)
          by_refusal zero d es q =
              let t : count n c ≡ count (0 + length (points_of es)) d = cc in
              let x : n ≡ 0 + length (points_of es) = ap (λ t. t.points) t in
              let y : c ≡ d = ap (λ t. t.commands) t in
              rw (x, y, zero-add (length (points_of es)), add-zero k)
          by_refusal (suc r) d es q = impossible (cc)

          by_form : (d : ℕ) (o : Option (List Entry)) → gives (count n c) ≡ counted_as 0 d 0 o → gives (taken k l p n c) ≡ judged_as k l d (with_boards p o)
          by_form d none q = impossible (cc)
          by_form d (some es) q = by_refusal (first (entry_checks es)) d es q

          go : (o : Option (List Tapes.Command)) → gives (count n c) ≡ counted 0 (m + 1) 0 o → gives (taken k l p n c) ≡ judged k l m (prepend (boards p) o)
          go none q = impossible (cc)
          go (some cs) q = rw (one_more m cs) (by_form (m + 1 + length cs) (entries_of cs) q)

      -- the form is not kept, or a reading is refused
      pub boards_refused : (b : ℕ) → refuses b ≡ counted 0 (m + 1) 0 (commands (drop next tape)) → refuses b ≡ judged k l m (commands (drop at tape))
      unfolding form_of answered
      boards_refused b = rw (tells tape at e).is (go (commands (drop next tape)))
        where
          by_refusal : (r : ℕ) (x : Count) (s : Scan) → refuses b ≡ answered r x → refuses b ≡ answered r s
          by_refusal zero x s q = impossible (cc)
          by_refusal (suc r) x s q = let y : b ≡ suc r = cc in rw y

          by_form : (d e : ℕ) (o : Option (List Entry)) → refuses b ≡ counted_as 0 d 0 o → refuses b ≡ judged_as k l e (with_boards p o)
          by_form d e none q = let y : b ≡ 2 = cc in rw y
          by_form d e (some es) q = by_refusal (first (entry_checks es)) _ _ q

          go : (o : Option (List Tapes.Command)) → refuses b ≡ counted 0 (m + 1) 0 o → refuses b ≡ judged k l m (prepend (boards p) o)
          go none q = let y : b ≡ 2 = cc in rw y
          go (some cs) q = by_form (m + 1 + length cs) (m + suc (length cs)) (entries_of cs) q

    no_reading : (n : ℕ) (v : Reading) (next : ℕ) → placed (points n v) next ≡ decoding tape at → refuses 2 ≡ judged k l m (commands (drop at tape))
    unfolding form_of
    no_reading n v next e = rw (tells tape at e).is (go (commands (drop next tape)))
      where
        go : (o : Option (List Tapes.Command)) → refuses 2 ≡ judged k l m (prepend (points n v) o)
        go none = refl
        go (some cs) = refl

    pub no_length : (c : Command)
        → ((d next : ℕ) → c ≡ Axis d next → ⊥)
        → ((p next : ℕ) → c ≡ Boards p next → ⊥)
        → meant_by c ≡ decoding tape at
        → refuses 2 ≡ judged k l m (commands (drop at tape))
    unfolding form_of
    no_length (Axis d next) x y e = absurd (x d next refl)
    no_length (Boards p next) x y e = absurd (y p next refl)
    no_length (Points n v next) x y e = no_reading n (Reading'.Centimetres v) next e
    no_length (Float c b next) x y e = no_reading 1 (reading_of c b) next e
    no_length (End next) x y e = rw (tells tape at e).is (go (commands (drop next tape)))
      where
        go : (o : Option (List Tapes.Command)) → refuses 2 ≡ judged k l m (prepend end o)
        go none = refl
        go (some cs) = refl

    pub no_command_yet : nothing ≡ decoding tape at → refuses 2 ≡ judged k l m (commands (drop at tape))
    unfolding form_of
    no_command_yet e = bad_left tape at (λ o. refuses 2 ≡ judged k l m o) e refl refl
