-- Laws of the stores: a slice with the points stored so far, and what is left of the tape.
use Prim.Native.Nat.{ℕ, zero, suc, ◌+◌, ◌-◌, ◌≤◌, ◌<◌}
use mathlib.Core.Path.{◌≡◌, refl, sym, ap, ◌∙◌}
use mathlib.Core.Option.{Option, none, some}
use mathlib.Core.List.{List, [], ◌∷◌, ◌++◌}
use native.Mathlib.Omega.{arith}
use native.Mathlib.Numerals.{add-one}
use native.Mathlib.Nat.{zero-add}
use borrow.Author.Tests.{eqb-true, eqb-false}
use lib.Dec.{eqb}
use lib.ListN.{length, drop, set, replicate, length-append, length-replicate}
use lib.Seq.{sets, sets-eq, length-sets}
use lib.IntN.{ℤ}
use Rattle.cube_spec.specs.Boxes.{pick}
use Rattle.cube_spec.specs.Checks.{first}
use Rattle.cube_spec.proofs.Sums.{by}
use Rattle.cube_spec.proofs.Stores.{joined}
use Rattle.tape_reading.specs.declared.types.Reading.{Reading}
use Rattle.tape_reading.specs.declared.types.Reading.TheVariants as Reading'
use Rattle.tape_reading.specs.Readings.{reading_of, centimetres_of, refusal_in, value_in}
use Rattle.tape_reading.proofs.Readings.{Kind, refusal_kind}
use Rattle.tape_spec.specs.declared.types.Command.TheVariants.{Axis, Boards, Points, Float, End}
use Rattle.tape_spec.specs.declared.types.Command as answers
use Rattle.tape_spec.specs.Tapes.{Command, axis, boards, points, end, prepend, commands, Entry, Form, with_entry, with_length, with_boards, entries_of, form_of, form_in, form, points_of, as_campaign, campaign}
use Rattle.tape_spec.specs.Reading.{too_long, is_none, or_empty, entries_in, entry_checks, scan_checks, scan_refusal, filled_or}
use Rattle.tape_spec.specs.Decoding.{placed, nothing, meant_by, decoding, entries_from, left, Passed, points_in}
use Rattle.tape_spec.proofs.Decoding.{tells, bad_left}
use Rattle.tape_spec.proofs.Scanning.{first_kind}

-- ---- stores

replicate_more : (n : ℕ) (v : ℤ) → replicate (n + 1) v ≡ replicate n v ++ (v ∷ [])
replicate_more n v = rw add-one (go n)
  where
    go : (n : ℕ) → replicate (suc n) v ≡ replicate n v ++ (v ∷ [])
    go zero = refl
    go (suc n) = ap (λ (l : List ℤ). v ∷ l) (go n)

-- the same point stored up to a cell, and in that cell too
pub stored_on : (s : List ℤ) (at i : ℕ) (v : ℤ) → at ≤ i → set (sets s at (replicate (i - at) v)) i v ≡ sets s at (replicate (i + 1 - at) v)
stored_on s at i v h =
    let p : i + 1 - at ≡ i - at + 1 = omega arith in
    let q : at + (i - at) ≡ i = omega arith in
    rw (p, replicate_more (i - at) v, joined s at (replicate (i - at) v) (v ∷ []), length-replicate (i - at) v, q)

-- in its first cell, and in those after it
pub first_stored : (s : List ℤ) (at i n : ℕ) (v : ℤ) → 0 < n → i ≡ at + n → sets (set s at v) (at + 1) (replicate (i - (at + 1)) v) ≡ sets s at (replicate n v)
first_stored s at i zero v h e = absurd (omega arith)
first_stored s at i (suc n) v h e = let p : i - (at + 1) ≡ n = omega arith in rw (p, add-one at)

-- the points stored from the start on
pub filled : (points slice : List ℤ) → length points ≤ length slice → sets slice 0 points ≡ filled_or 0 points slice
unfolding filled_or
filled v s h = sets-eq v s 0 (rw zero-add h) ∙ rw zero-add

-- ---- the readings that are left

abbrev pub value_of : Reading → ℤ
value_of v = value_in (centimetres_of v)

-- a reading in front: it is not refused, the others pass too, and its points come first
pub record Turn (n : ℕ) (v : Reading) (o r : Option (List Entry)) : Type 0 where
  pub good : refusal_in (centimetres_of v) ≡ 0
  pub passed : Passed r
  pub is : points_in o ≡ replicate n (value_of v) ++ points_in r

none_refused : (r x : ℕ) → Kind r → pick (eqb r 14) 14 (pick (eqb r 15) 15 x) ≡ 0 → (r ≡ 0) × (x ≡ 0)
none_refused r x k h = by (eqb r 0) (λ t. let q = sym (first_kind r x k) ∙ h in (eqb-true r 0 t, rw t at q)) (λ t. let q = sym (first_kind r x k) ∙ h in let z : r ≡ 0 = rw t at q in absurd (eqb-false r 0 t z))

turn : (n : ℕ) (v : Reading) (r : Option (List Entry)) → Passed (with_entry n v r) → Turn n v (with_entry n v r) r
unfolding entry_checks first points_of
turn n v none h = absurd h
turn n v (some es) h =
    let d = none_refused (refusal_in (centimetres_of v)) (first (entry_checks es)) (refusal_kind v) h in
    record { good = d.0; passed = d.1; is = refl }

left_prepended : (n : ℕ) (v : Reading) (o : Option (List Command)) → entries_from (prepend (points n v) o) ≡ with_entry n v (entries_from o)
unfolding entries_of
left_prepended n v none = refl
left_prepended n v (some cs) = refl

module _ (tape : List ℕ) (at : ℕ) where
  pub reads : (n : ℕ) (v : Reading) (m : ℕ) → placed (points n v) m ≡ decoding tape at → Passed (left (drop at tape)) → Turn n v (left (drop at tape)) (left (drop m tape))
  reads n v m e h =
      let q : left (drop at tape) ≡ with_entry n v (left (drop m tape)) = ap entries_from (tells tape at e).is ∙ left_prepended n v (commands (drop m tape)) in
      rw q (turn n v (left (drop m tape)) (rw q at h))

  pub nothing_left : (c : answers.Command)
      → ((n : ℕ) (v : ℤ) (next : ℕ) → c ≡ Points n v next → ⊥)
      → ((f b next : ℕ) → c ≡ Float f b next → ⊥)
      → meant_by c ≡ decoding tape at
      → points_in (left (drop at tape)) ≡ []
  unfolding entries_of points_of
  nothing_left (Axis d next) x y e = rw (tells tape at e).is (go (commands (drop next tape)))
    where
      go : (o : Option (List Command)) → points_in (entries_from (prepend (axis d) o)) ≡ []
      go none = refl
      go (some cs) = refl
  nothing_left (Boards p next) x y e = rw (tells tape at e).is (go (commands (drop next tape)))
    where
      go : (o : Option (List Command)) → points_in (entries_from (prepend (boards p) o)) ≡ []
      go none = refl
      go (some cs) = refl
  nothing_left (Points n v next) x y e = absurd (x n v next refl)
  nothing_left (Float f b next) x y e = absurd (y f b next refl)
  nothing_left (End next) x y e = rw (tells tape at e).is (go (commands (drop next tape)))
    where
      go : (o : Option (List Command)) → points_in (entries_from (prepend end o)) ≡ []
      go none = refl
      go (some []) = refl
      go (some (c ∷ cs)) = refl

  pub none_left : nothing ≡ decoding tape at → points_in (left (drop at tape)) ≡ []
  unfolding entries_of points_of
  none_left e = bad_left tape at (λ o. points_in (entries_from o) ≡ []) e refl refl

-- a turn that stores n points
module _ (n : ℕ) (v : Reading) (o r : Option (List Entry)) (done : ℕ) (p : Turn n v o r) where
  pub room : (k : ℕ) → done + length (points_in o) ≤ k → done + n + length (points_in r) ≤ k
  room k h =
      let l = ap length p.is ∙ length-append (replicate n (value_of v)) (points_in r) in
      let q = length-replicate n (value_of v) in
      omega arith

  pub stored : (all s₀ s w : List ℤ) → w ≡ sets s done (replicate n (value_of v)) → length s ≡ length s₀ → done + length (points_in o) ≤ length s
      → sets s₀ 0 all ≡ sets s done (points_in o)
      → (length w ≡ length s₀) × (done + n + length (points_in r) ≤ length w) × Passed r × (sets s₀ 0 all ≡ sets w (done + n) (points_in r))
  stored all s₀ s w q k h t =
      let l : length w ≡ length s = ap length q ∙ length-sets s done (replicate n (value_of v)) in (
        l ∙ k,
        rw l (room (length s) h),
        p.passed,
        t ∙ rw (p.is, joined s done (replicate n (value_of v)) (points_in r), length-replicate n (value_of v), q),
      )

-- ---- up to the 42

-- the readings of a form
abbrev held : Option Form → Option (List Entry)
held none = none
held (some f) = some f.entries

-- those of a tape of which 41s have been passed over
abbrev pub ahead : List ℕ → Option (List Entry)
ahead l = held (form_in (commands l))

module _ (tape : List ℕ) where
  -- a tape whose scan passed has the readings of its campaign
  pub scanned : scan_refusal tape ≡ 0 → Passed (ahead tape) × (points_in (ahead tape) ≡ (or_empty (campaign tape)).points)
  unfolding scan_refusal scan_checks first campaign form
  scanned = by (too_long tape) (λ t e. absurd (let z : ◌≡◌ {A = ℕ} 1 0 = rw t at e in omega arith)) (λ t e. go (form_in (commands tape)) (rw t at e))
    where
      go : (o : Option Form) → pick (is_none (as_campaign o)) 2 (first (entry_checks (entries_in o))) ≡ 0 → Passed (held o) × (points_in (held o) ≡ (or_empty (as_campaign o)).points)
      go none e = absurd (omega arith)
      go (some f) e = (e, refl)

  module _ (at : ℕ) where
    pub axis_passed : (d m : ℕ) → placed (axis d) m ≡ decoding tape at → ahead (drop at tape) ≡ ahead (drop m tape)
    unfolding form_of
    axis_passed d m e = rw (tells tape at e).is (go (commands (drop m tape)))
      where
        by_form : (o : Option Form) → held (with_length d o) ≡ held o
        by_form none = refl
        by_form (some f) = refl

        go : (o : Option (List Command)) → held (form_in (prepend (axis d) o)) ≡ held (form_in o)
        go none = refl
        go (some cs) = by_form (form_of cs)

    pub boards_passed : (p m : ℕ) → placed (boards p) m ≡ decoding tape at → ahead (drop at tape) ≡ left (drop m tape)
    unfolding form_of
    boards_passed p m e = rw (tells tape at e).is (go (commands (drop m tape)))
      where
        by_form : (o : Option (List Entry)) → held (with_boards p o) ≡ o
        by_form none = refl
        by_form (some es) = refl

        go : (o : Option (List Command)) → held (form_in (prepend (boards p) o)) ≡ entries_from o
        go none = refl
        go (some cs) = by_form (entries_of cs)

    no_reading : (n : ℕ) (v : Reading) (m : ℕ) → placed (points n v) m ≡ decoding tape at → Passed (ahead (drop at tape)) → ⊥
    unfolding form_of
    no_reading n v m e h = go (commands (drop m tape)) (rw (tells tape at e).is at h)
      where
        go : (o : Option (List Command)) → Passed (held (form_in (prepend (points n v) o))) → ⊥
        go none h = h
        go (some cs) h = h

    -- no other command stands before the 42
    pub none_ahead : (c : answers.Command)
        → ((d next : ℕ) → c ≡ Axis d next → ⊥)
        → ((p next : ℕ) → c ≡ Boards p next → ⊥)
        → meant_by c ≡ decoding tape at
        → Passed (ahead (drop at tape))
        → ⊥
    unfolding form_of
    none_ahead (Axis d next) x y e h = x d next refl
    none_ahead (Boards p next) x y e h = y p next refl
    none_ahead (Points n v next) x y e h = no_reading n (Reading'.Centimetres v) next e h
    none_ahead (Float c b next) x y e h = no_reading 1 (reading_of c b) next e h
    none_ahead (End next) x y e h = go (commands (drop next tape)) (rw (tells tape at e).is at h)
      where
        go : (o : Option (List Command)) → Passed (held (form_in (prepend end o))) → ⊥
        go none h = h
        go (some cs) h = h

    pub no_end_ahead : nothing ≡ decoding tape at → Passed (ahead (drop at tape)) → ⊥
    unfolding form_of
    no_end_ahead e h = bad_left tape at (λ o. Passed (held (form_in o)) → ⊥) e (λ h. h) (λ h. h) h
