-- Laws of decoding: the command at a position is the next of the tape's commands, and the command that a byte begins.
use Prim.Native.Nat.{ℕ, zero, suc, ◌+◌, ◌-◌, ◌%◌, ◌≤◌, ◌<◌}
use mathlib.Core.Path.{◌≡◌, refl, sym, ap, ◌∙◌}
use mathlib.Core.Bool.{true, false}
use mathlib.Core.Logic.{inl, inr}
use mathlib.Core.Option.{Option, none, some}
use mathlib.Core.List.{List, [], ◌∷◌}
use native.Mathlib.Omega.{arith}
use native.Mathlib.Numerals.{add-one}
use borrow.Author.Tests.{eqb-true, eqb-false, ne_eqb, ltb-true, ltb-false, lt-ltb, le-ltb}
use lib.Dec.{eqb, ltb}
use lib.ListN.{length, get_or, drop, take, length-drop, drop_of_length-le}
use lib.Seq.{drop-cons, drop-drop}
use Rattle.cube_spec.specs.Bytes.{little}
use Rattle.cube_spec.proofs.Sums.{by}
use Rattle.cube_spec.proofs.Naturals.{clash, impossible}
use Rattle.tape_reading.specs.Readings.{Floating, reading_of}
use Rattle.tape_spec.specs.Tapes as Tapes
use Rattle.tape_spec.specs.Tapes.{axis, boards, points, end, First, found, bad, operand, single, repeated, first_of, prepend, first_then, commands}
use Rattle.tape_spec.specs.Decoding.{placed, nothing, told, decoding}
use Rattle.tape_spec.proofs.Operands.{one}
use Rattle.tape_spec.proofs.Commands.{Suffix, Follows, past, no_rest, follows, commands_none, commands_next}

-- ---- what decoding says of the tape's commands

module _ (tape : List ℕ) (at : ℕ) {r : List ℕ} (p : Suffix (drop at tape) r) where
  place : length tape - length r ≡ at + p.k
  place =
      let a = length-drop at tape in
      let n : length r ≡ length (drop at tape) - p.k = ap length p.is ∙ length-drop p.k (drop at tape) in
      let w = p.within in
      let z = p.some in
      omega arith

  rest_at : drop (length tape - length r) tape ≡ r
  rest_at = rw place (sym (p.is ∙ drop-drop p.k at tape))

-- the command, the position moved on within the tape, and the commands from here on being it and those from there on
pub record Next (tape : List ℕ) (at : ℕ) (c : Tapes.Command) (n : ℕ) : Type 0 where
  pub more : at < n
  pub within : n ≤ length tape
  pub is : commands (drop at tape) ≡ prepend c (commands (drop n tape))

module _ (tape : List ℕ) (at : ℕ) where
  pub tells : {c : Tapes.Command} {n : ℕ} → placed c n ≡ decoding tape at → Next tape at c n
  unfolding decoding told first_then
  tells {c} {n} e = go (first_of (drop at tape)) refl (follows (drop at tape)) e
    where
      go : (f : First) → first_of (drop at tape) ≡ f → Follows (drop at tape) f → placed c n ≡ told (length tape) f → Next tape at c n
      go (found d r) q (past p) h =
          let z = p.some in
          let w = p.within in
          let l = length-drop at tape in
          let x = place tape at p in
          let y = commands_next (drop at tape) (omega arith) in
          let i : c ≡ d = cc in
          let j : n ≡ length tape - length r = cc in
          rw (i, j) (record { more = omega arith; within = omega arith; is = y ∙ rw (q, rest_at tape at p) })
      go bad q no_rest h = impossible (cc)

  tells_none : nothing ≡ decoding tape at → first_then (first_of (drop at tape)) commands ≡ none
  unfolding decoding told first_then
  tells_none e = go (first_of (drop at tape)) e
    where
      go : (f : First) → nothing ≡ told (length tape) f → first_then f commands ≡ none
      go (found c r) h = impossible (cc)
      go bad h = refl

-- where bytes are left there is a command left, or they are no commands
pub some_left : (l : List ℕ) (P : Option (List Tapes.Command) → Type 0) → 0 < length l → P none → ((c : Tapes.Command) (cs : List Tapes.Command) → P (some (c ∷ cs))) → P (commands l)
unfolding first_then
some_left l P h x y = rw (commands_next l h) (go (first_of l))
  where
    more : (c : Tapes.Command) (o : Option (List Tapes.Command)) → P (prepend c o)
    more c none = x
    more c (some cs) = y c cs

    go : (f : First) → P (first_then f commands)
    go (found c r) = more c (commands r)
    go bad = x

-- where no command begins there are none left, or the bytes are no commands
pub bad_left : (tape : List ℕ) (at : ℕ) (P : Option (List Tapes.Command) → Type 0) → nothing ≡ decoding tape at → P none → P (some []) → P (commands (drop at tape))
bad_left tape at P e x y =
    let h : first_then (first_of (drop at tape)) commands ≡ none = tells_none tape at e in
    by (ltb at (length tape))
    (λ t. let l = ltb-true at (length tape) t in let d = length-drop at tape in rw (commands_next (drop at tape) (omega arith), h) x)
    (λ t. rw (drop_of_length-le tape (ltb-false at (length tape) t), commands_none) y)

-- ---- the command that begins with a byte

-- operands at a position of a tape
module _ (l : List ℕ) (n at : ℕ) (k : ℕ → List ℕ → First) where
  cut : at ≤ length l → length l < at + n → operand n (drop at l) k ≡ bad
  unfolding operand
  cut o h = let d = length-drop at l in rw (lt-ltb (length (drop at l)) n (omega arith))

  whole : at + n ≤ length l → operand n (drop at l) k ≡ k (little (take n (drop at l))) (drop (at + n) l)
  unfolding operand
  whole h = let d = length-drop at l in rw (le-ltb (length (drop at l)) n (omega arith), drop-drop n at l)

-- the three commands of a single reading
by_single : (P : ℕ → Type 0) (c : ℕ) → single c ≡ true → P 0x56 → P 0x4D → P 0x4B → P c
unfolding single
by_single P c t x y z =
    by (eqb c 0x56) (λ a. rw (eqb-true c 0x56 a) x)
    (λ a. by (eqb c 0x4D) (λ b. rw (eqb-true c 0x4D b) y)
    (λ b. by (eqb c 0x4B) (λ d. rw (eqb-true c 0x4B d) z)
    (λ d. clash (sym t ∙ rw (a, b, d)))))

-- the position at which what is left begins
back : (l : List ℕ) (k n : ℕ) → k ≡ n → n ≤ length l → length l - length (drop k l) ≡ n
back l k n e h = let d = length-drop k l in omega arith

module _ (l : List ℕ) (at : ℕ) (h : at < length l) where
  opened : drop at l ≡ get_or l at 0 ∷ drop (at + 1) l
  opened = rw add-one (drop-cons l at 0 h)

  at_41 : get_or l at 0 ≡ 0x41 → first_of (drop at l) ≡ operand 2 (drop (at + 1) l) (λ d s. found (axis d) s)
  unfolding first_of
  at_41 e = rw (opened, e)

  at_42 : get_or l at 0 ≡ 0x42 → first_of (drop at l) ≡ operand 1 (drop (at + 1) l) (λ p s. found (boards p) s)
  unfolding first_of
  at_42 e = rw (opened, e)

  at_single : (c : ℕ) → get_or l at 0 ≡ c → single c ≡ true → first_of (drop at l) ≡ operand 4 (drop (at + 1) l) (λ b s. found (points 1 (reading_of c b)) s)
  unfolding first_of single
  at_single c e t = rw (opened, e) (by_single (λ c. first_of (c ∷ drop (at + 1) l) ≡ operand 4 (drop (at + 1) l) (λ b s. found (points 1 (reading_of c b)) s)) c t refl refl refl)

  at_52 : get_or l at 0 ≡ 0x52 → first_of (drop at l) ≡ operand 2 (drop (at + 1) l) (λ n s. operand 4 s (λ b t. repeated n (reading_of 0x52 b) t))
  unfolding first_of single
  at_52 e = rw (opened, e)

  at_45 : get_or l at 0 ≡ 0x45 → first_of (drop at l) ≡ found end (drop (at + 1) l)
  unfolding first_of single
  at_45 e = rw (opened, e)

  -- ---- the answers of decoding, command by command

  -- a command of one operand, cut short and whole
  module _ (n : ℕ) (c : ℕ → Tapes.Command) (o : first_of (drop at l) ≡ operand n (drop (at + 1) l) (λ x s. found (c x) s)) where
    command_cut : length l - at < n + 1 → nothing ≡ decoding l at
    unfolding decoding told
    command_cut q = rw (o, cut l n (at + 1) (λ x s. found (c x) s) (omega arith) (omega arith))

    command_told : (k : ℕ) → k ≡ n + 1 → k ≤ length l - at → placed (c (little (take n (drop (at + 1) l)))) (at + k) ≡ decoding l at
    unfolding decoding told
    command_told k e q = rw (o, whole l n (at + 1) (λ x s. found (c x) s) (omega arith), back l (at + 1 + n) (at + k) (omega arith) (omega arith))

  pub axis_cut : get_or l at 0 ≡ 0x41 → length l - at < 3 → nothing ≡ decoding l at
  axis_cut e q = command_cut 2 axis (at_41 e) q

  pub axis_told : get_or l at 0 ≡ 0x41 → 3 ≤ length l - at → placed (axis (little (take 2 (drop (at + 1) l)))) (at + 3) ≡ decoding l at
  axis_told e q = command_told 2 axis (at_41 e) 3 refl q

  pub boards_cut : get_or l at 0 ≡ 0x42 → length l - at < 2 → nothing ≡ decoding l at
  boards_cut e q = command_cut 1 boards (at_42 e) q

  pub boards_told : get_or l at 0 ≡ 0x42 → 2 ≤ length l - at → placed (boards (get_or l (at + 1) 0)) (at + 2) ≡ decoding l at
  boards_told e q = rw (← one l (at + 1) (omega arith)) (command_told 1 boards (at_42 e) 2 refl q)

  module _ (c : ℕ) (e : get_or l at 0 ≡ c) (t : single c ≡ true) where
    pub single_cut : length l - at < 5 → nothing ≡ decoding l at
    single_cut q = command_cut 4 (λ b. points 1 (reading_of c b)) (at_single c e t) q

    pub single_told : 5 ≤ length l - at → placed (points 1 (reading_of c (little (take 4 (drop (at + 1) l))))) (at + 5) ≡ decoding l at
    single_told q = command_told 4 (λ b. points 1 (reading_of c b)) (at_single c e t) 5 refl q

  pub point_cut : get_or l at 0 ≡ 0x56 → length l - at < 5 → nothing ≡ decoding l at
  point_cut e q = single_cut 0x56 e (unfold single in refl) q

  pub point_told : get_or l at 0 ≡ 0x56 → 5 ≤ length l - at → placed (points 1 (reading_of 0x56 (little (take 4 (drop (at + 1) l))))) (at + 5) ≡ decoding l at
  point_told e q = single_told 0x56 e (unfold single in refl) q

  module _ (e : get_or l at 0 ≡ 0x52) where
    abbrev reads : ℕ → List ℕ → First
    reads n s = operand 4 s (λ b t. repeated n (reading_of 0x52 b) t)

    pub repeated_cut : length l - at < 7 → nothing ≡ decoding l at
    unfolding decoding told
    repeated_cut q = rw (at_52 e) (by (ltb (length l - at) 3)
        (λ z. let y = ltb-true (length l - at) 3 z in rw (cut l 2 (at + 1) reads (omega arith) (omega arith)))
        (λ z. let y = ltb-false (length l - at) 3 z in rw (whole l 2 (at + 1) reads (omega arith), cut l 4 (at + 1 + 2) (λ b t. repeated (little (take 2 (drop (at + 1) l))) (reading_of 0x52 b) t) (omega arith) (omega arith))))

    -- a 52 whose operands are all there
    repeated_at : 7 ≤ length l - at → first_of (drop at l) ≡ repeated (little (take 2 (drop (at + 1) l))) (reading_of 0x52 (little (take 4 (drop (at + 3) l)))) (drop (at + 3 + 4) l)
    repeated_at q =
        let z : at + 1 + 2 ≡ at + 3 = omega arith in
        at_52 e ∙ whole l 2 (at + 1) reads (omega arith) ∙ rw z (whole l 4 (at + 3) (λ b t. repeated (little (take 2 (drop (at + 1) l))) (reading_of 0x52 b) t) (omega arith))

    pub repeated_never : 7 ≤ length l - at → little (take 2 (drop (at + 1) l)) ≡ 0 → nothing ≡ decoding l at
    unfolding decoding told repeated
    repeated_never q z = rw (repeated_at q, z)

    pub repeated_told : (n : ℕ) → 7 ≤ length l - at → n ≡ little (take 2 (drop (at + 1) l)) → (n ≡ 0 → ⊥)
        → placed (points n (reading_of 0x52 (little (take 4 (drop (at + 3) l))))) (at + 7) ≡ decoding l at
    unfolding decoding told repeated
    repeated_told zero q y z = absurd (z refl)
    repeated_told (suc n) q y z = rw (repeated_at q, ← y, back l (at + 3 + 4) (at + 7) (omega arith) (omega arith))

  pub end_told : get_or l at 0 ≡ 0x45 → placed end (at + 1) ≡ decoding l at
  unfolding decoding told
  end_told e = rw (at_45 e, back l (at + 1) (at + 1) refl (omega arith))

  pub other_told : (c : ℕ) → get_or l at 0 ≡ c → (c ≡ 0x41 → ⊥) → (c ≡ 0x42 → ⊥) → single c ≡ false → (c ≡ 0x52 → ⊥) → (c ≡ 0x45 → ⊥) → nothing ≡ decoding l at
  unfolding decoding told first_of
  other_told c q a b s d e = rw (opened, q, ne_eqb c _ a, ne_eqb c _ b, s, ne_eqb c _ d, ne_eqb c _ e)

pub past_told : (l : List ℕ) (at : ℕ) → length l ≤ at → nothing ≡ decoding l at
unfolding decoding told first_of
past_told l at h = rw (drop_of_length-le l h)

-- the bytes that begin a float: the odd ones from 4B to 4D
pub is_float : (c : ℕ) → Floating c → single c ≡ true
unfolding single
is_float c (inl e) = rw e
is_float c (inr e) = rw e

pub odd_float : (c : ℕ) → 0x4B ≤ c → c ≤ 0x4D → (c % 2 ≡ 0 → ⊥) → Floating c
odd_float c a b h = by (eqb c 0x4B) (λ t. inr (eqb-true c 0x4B t)) (λ t. inl (go t))
  where
    go : eqb c 0x4B ≡ false → c ≡ 0x4D
    go t = let n = eqb-false c 0x4B t in by (eqb c 0x4C) (λ u. absurd (h (rw (eqb-true c 0x4C u)))) (λ u. let m = eqb-false c 0x4C u in omega (arith, n, m))

pub not_single : (c : ℕ) → (c ≡ 0x56 → ⊥) → (c ≡ 0x4D → ⊥) → (c ≡ 0x4B → ⊥) → single c ≡ false
unfolding single
not_single c x y z = rw (ne_eqb c 0x56 x, ne_eqb c 0x4D y, ne_eqb c 0x4B z)

-- what tells a 52, and what tells the commands that are neither a 56 nor a 52
pub ruleset repeats = (repeated_cut, repeated_never, repeated_told)

pub ruleset others = (other_told, not_single, odd_float, end_told)
