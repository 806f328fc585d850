-- Reading the seed line digit by digit: what the rest of the input makes of the digits passed.
use Prim.Native.Nat.{ℕ, zero, suc, ◌+◌, ◌-◌, ◌*◌, ◌^◌, ◌≤◌, ◌<◌}
use mathlib.Core.Path.{◌≡◌, sym, ◌∙◌, refl, ap}
use mathlib.Core.Bool.{Bool, true, false, ◌&&◌, ◌||◌, not}
use mathlib.Core.List.{List, [], ◌∷◌, ◌++◌}
use native.Mathlib.Omega.{arith}
use native.Mathlib.Nat.{zero-add, add-zero}
use borrow.Author.Tests.{le-leb, lt-leb, lt-ltb, le-ltb, ne_eqb, eq-eqb}
use lib.Dec.{eqb, ltb, leb}
use lib.ListN.{length, get_or, drop, drop_of_length-le}
use lib.Seq.{drop-cons}
use Rattle.cube_spec.specs.Boxes.{pick}
use Rattle.cube_spec.specs.Checks.{Reply, gives, refuses, answered, first}
use Rattle.cube_spec.proofs.Answered.{refuses_is, refuses_some}
use Rattle.cube_spec.proofs.Sums.{by}
use Rattle.report_spec.specs.Printed.{refused_line}
use Rattle.practice_spec.specs.Draws.{practice, tape_of}
use Rattle.practice_spec.specs.Seeds.{is_digit, digits_of, after_digits, opens_with_feed, digit_limit, seed_line, value, seed_of, seed_limit, bad_seed, practice_checks, practice_refusal, practised_or, practised}
use Rattle.practice_spec.specs.inner.Judged.{seeded}
use Rattle.practice_spec.proofs.Lines.{prints_bad}

abbrev refused : Reply ℕ
refused = refuses 22

-- the seed, or 22, by the number of digits, whether a line feed follows them, and what they spell
unfoldable pub judged : ℕ → Bool → ℕ → Reply ℕ
judged n feed v = pick (not ((leb 1 n && leb n digit_limit) && feed) || (eqb v 0 || ltb seed_limit v)) refused (gives v)

-- the same by the rest l of an input whose first k bytes are digits that spell v
unfoldable pub left_over : ℕ → ℕ → List ℕ → Reply ℕ
left_over k v l = judged (k + length (digits_of l)) (opens_with_feed (after_digits l)) (value v (digits_of l))

one_check : (t : Bool) (v : ℕ) → answered (pick t 22 0) v ≡ pick t refused (gives v)
unfolding answered
one_check true v = refl
one_check false v = refl

pub left_start : (l : List ℕ) → seeded l ≡ left_over 0 0 l
unfolding seeded practice_refusal practice_checks first bad_seed seed_line seed_of left_over judged
left_start l = rw (zero-add (length (digits_of l))) (one_check _ (value 0 (digits_of l)))

-- ---- how a judgement ends

no_feed : (n v : ℕ) → judged n false v ≡ refused
unfolding judged
no_feed n v = by (leb 1 n && leb n digit_limit) (λ t. rw t refl) (λ t. rw t refl)

too_long_lem : (n : ℕ) (f : Bool) (v : ℕ) → digit_limit < n → judged n f v ≡ refused
unfolding judged
too_long_lem n f v h = rw (le-leb 1 n (omega arith), lt-leb n digit_limit h) refl

good : (n v : ℕ) → 1 ≤ v → v < 10 ^ n → n ≤ digit_limit → v ≤ seed_limit → judged n true v ≡ gives v
good zero v p h k b = absurd (omega arith)
good (suc n) v p h k b = unfold judged in rw (le-leb 1 (suc n) (omega arith), le-leb (suc n) digit_limit k, ne_eqb v 0 (λ z. omega arith), le-ltb seed_limit v b) refl

-- no digits spell 0, which is refused as well
zero_lem : (n v : ℕ) → v ≡ 0 → judged n true v ≡ refused
unfolding judged
zero_lem n v z = by (leb 1 n && leb n digit_limit) (λ t. rw (t, eq-eqb v 0 z) refl) (λ t. rw t refl)

too_large_lem : (n v : ℕ) → seed_limit < v → judged n true v ≡ refused
unfolding judged
too_large_lem n v h = by (leb 1 n && leb n digit_limit) (λ t. rw (t, lt-ltb seed_limit v h) (by (eqb v 0) (λ u. rw u refl) (λ u. rw u refl))) (λ t. rw t refl)

-- ---- the next byte

below_digit : (b : ℕ) → b < 48 → is_digit b ≡ false
unfolding is_digit
below_digit b h = rw (lt-leb 48 b h) refl

pub left_none : (k v : ℕ) → left_over k v [] ≡ refused
unfolding left_over digits_of after_digits value
left_none k v = no_feed (k + 0) v

-- a byte that is no digit
left_stops : (k v b : ℕ) (l : List ℕ) → is_digit b ≡ false → left_over k v (b ∷ l) ≡ judged (k + 0) (eqb b 10) v
unfolding left_over digits_of after_digits value
left_stops k v b l t = rw t refl

pub left_other : (k v b : ℕ) (l : List ℕ) → is_digit b ≡ false → (b ≡ 10 → ⊥) → left_over k v (b ∷ l) ≡ refused
left_other k v b l t h = left_stops k v b l t ∙ rw (ne_eqb b 10 h) (no_feed (k + 0) v)

left_digit : (k v b : ℕ) (l : List ℕ) → is_digit b ≡ true → left_over k v (b ∷ l) ≡ left_over (k + 1) (10 * v + (b - 48)) l
unfolding left_over digits_of after_digits value
left_digit k v b l t =
    let e : k + suc (length (digits_of l)) ≡ k + 1 + length (digits_of l) = omega arith in
    rw t (ap (λ n. judged n (opens_with_feed (after_digits l)) (value (10 * v + (b - 48)) (digits_of l))) e)

left_long : (k v b : ℕ) (l : List ℕ) → is_digit b ≡ true → k ≡ digit_limit → left_over k v (b ∷ l) ≡ refused
unfolding left_over
left_long k v b l t e = left_digit k v b l t ∙ too_long_lem (k + 1 + length (digits_of l)) _ _ (omega arith)

-- ---- what the code does with the byte at i, after i digits that spell v

module _ (input : List ℕ) (i v : ℕ) (h : i < length input) (e : seeded input ≡ left_over i v (drop i input)) where
  abbrev b : ℕ
  b = get_or input i 0

  abbrev rest : List ℕ
  rest = drop (suc i) input

  opened : seeded input ≡ left_over i v (b ∷ rest)
  opened = e ∙ ap (left_over i v) (drop-cons input i 0 h)

  fed : b ≡ 10 → seeded input ≡ judged i true v
  fed z = opened ∙ left_stops i v b rest (below_digit b (omega arith)) ∙ rw (eq-eqb b 10 z, add-zero i) refl

  pub reads_zero : b ≡ 10 → v ≡ 0 → refused ≡ seeded input
  reads_zero z k = sym (fed z ∙ zero_lem i v k)

  pub reads_large : b ≡ 10 → seed_limit < v → refused ≡ seeded input
  reads_large z k = sym (fed z ∙ too_large_lem i v k)

  pub reads_whole : b ≡ 10 → 1 ≤ v → v < 10 ^ i → i ≤ digit_limit → v ≤ seed_limit → gives v ≡ seeded input
  reads_whole z p k l m = sym (fed z ∙ good i v p k l m)

  pub reads_other : is_digit b ≡ false → (b ≡ 10 → ⊥) → refused ≡ seeded input
  reads_other t z = sym (opened ∙ left_other i v b rest t z)

  pub reads_digit : is_digit b ≡ true → seeded input ≡ left_over (i + 1) (10 * v + (b - 48)) (drop (i + 1) input)
  reads_digit t = let q : suc i ≡ i + 1 = omega arith in opened ∙ left_digit i v b rest t ∙ ap (λ k. left_over (i + 1) (10 * v + (b - 48)) (drop k input)) q

  pub reads_long : is_digit b ≡ true → i ≡ digit_limit → refused ≡ seeded input
  reads_long t z = sym (opened ∙ left_long i v b rest t z)

pub reads_end : (input : List ℕ) (i v : ℕ) → seeded input ≡ left_over i v (drop i input) → length input ≤ i → refused ≡ seeded input
reads_end input i v e h = sym (e ∙ ap (left_over i v) (drop_of_length-le input h) ∙ left_none i v)

-- ---- sizes

-- one digit more
pub next_value : (i v x : ℕ) → v < 10 ^ i → x ≤ 9 → 10 * v + x < 10 ^ (i + 1)
next_value i v x h k = let e : 10 ^ (i + 1) ≡ 10 * 10 ^ i = (let q : i + 1 ≡ suc i = omega arith in rw q (omega arith)) in omega arith

-- ---- what is printed

-- the tape of a seed, or the line of a refusal
abbrev pub printed_by : Reply ℕ → List ℕ
printed_by (gives seed) = tape_of (practice seed)
printed_by (refuses n) = refused_line n

practised_by : (n seed : ℕ) → practised_or n seed ≡ printed_by (answered n seed)
unfolding practised_or answered
practised_by zero seed = refl
practised_by (suc n) seed = refl

pub prints_by : (input : List ℕ) (r : Reply ℕ) → r ≡ seeded input → practised input ≡ printed_by r
unfolding practised seeded
prints_by input r e = practised_by (practice_refusal input) (seed_of input) ∙ ap printed_by (sym e)

-- no other refusal is due than 22
none_due : (input : List ℕ) → bad_seed input ≡ false → practice_refusal input ≡ 0
unfolding practice_refusal practice_checks first
none_due input t = rw t refl

pub prints_refused : (input : List ℕ) (n : ℕ) → refuses n ≡ seeded input → practised input ≡ refused_line 22
unfolding seeded
prints_refused input n e = by (bad_seed input)
    (λ t. prints_bad input t)
    (λ t. absurd (refuses_some (practice_refusal input) n _ e (refuses_is (practice_refusal input) n _ e ∙ none_due input t)))

pub prints_tape : (input : List ℕ) (seed : ℕ) → gives seed ≡ seeded input → practised input ≡ tape_of (practice seed)
prints_tape input seed e = prints_by input (gives seed) e

-- ---- how much of an input tells

alike : (a b : List ℕ) → seeded a ≡ seeded b → practised a ≡ practised b
alike a b e = prints_by a (seeded b) (sym e) ∙ sym (prints_by b (seeded b) refl)

left_passed : (k v : ℕ) (l : List ℕ) → digit_limit < k → left_over k v l ≡ refused
unfolding left_over
left_passed k v l h = too_long_lem (k + length (digits_of l)) (opens_with_feed (after_digits l)) (value v (digits_of l)) (omega arith)

-- after k digits, the bytes a tell if they are more than 10 - k
left_long_enough : (k v : ℕ) (a r : List ℕ) → digit_limit < k + length a → left_over k v (a ++ r) ≡ left_over k v a
left_long_enough k v [] r h = left_passed k v r (omega arith) ∙ sym (left_none k v)
left_long_enough k v (b ∷ a) r h =
    by (is_digit b)
    (λ t. left_digit k v b (a ++ r) t ∙ left_long_enough (k + 1) (10 * v + (b - 48)) a r (omega arith) ∙ sym (left_digit k v b a t))
    (λ t. left_stops k v b (a ++ r) t ∙ sym (left_stops k v b a t))

-- ELEVEN BYTES TELL: ten digits and a line feed
pub eleven : (a r : List ℕ) → digit_limit < length a → practised (a ++ r) ≡ practised a
eleven a r h = alike (a ++ r) a (left_start (a ++ r) ∙ left_long_enough 0 0 a r (omega arith) ∙ sym (left_start a))

-- and so do fewer, where one of them is no digit
left_ended : (k v : ℕ) (a : List ℕ) (b : ℕ) (r : List ℕ) → is_digit b ≡ false → left_over k v (a ++ b ∷ r) ≡ left_over k v (a ++ b ∷ [])
left_ended k v [] b r e = left_stops k v b r e ∙ sym (left_stops k v b [] e)
left_ended k v (c ∷ a) b r e =
    by (is_digit c)
    (λ t. left_digit k v c (a ++ b ∷ r) t ∙ left_ended (k + 1) (10 * v + (c - 48)) a b r e ∙ sym (left_digit k v c (a ++ b ∷ []) t))
    (λ t. left_stops k v c (a ++ b ∷ r) t ∙ sym (left_stops k v c (a ++ b ∷ []) t))

-- NO BYTE AFTER ONE THAT IS NO DIGIT MATTERS
pub no_further : (a : List ℕ) (b : ℕ) (r : List ℕ) → is_digit b ≡ false → practised (a ++ b ∷ r) ≡ practised (a ++ b ∷ [])
no_further a b r e = alike (a ++ b ∷ r) (a ++ b ∷ []) (left_start (a ++ b ∷ r) ∙ left_ended 0 0 a b r e ∙ sym (left_start (a ++ b ∷ [])))

-- "bytes after the line feed are passed over"
pub passed_over : (a r : List ℕ) → practised (a ++ 10 ∷ r) ≡ practised (a ++ 10 ∷ [])
passed_over a r = no_further a 10 r (below_digit 10 (omega arith))
