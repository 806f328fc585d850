-- What is printed for every input: the tape of the seed that it asks for, or the refusal line; and nothing else satisfies the statement.
use Prim.Native.Nat.{ℕ, ◌+◌, ◌%◌, ◌≤◌, min}
use mathlib.Core.Path.{◌≡◌, sym, ◌∙◌, refl, ap}
use mathlib.Core.List.{List}
use native.Mathlib.Omega.{arith}
use lib.ListN.{length}
use lib.Seq.{ext_get_or}
use lib.IntN.{ℤ, pos, ◌-ℤ◌}
use Rattle.cube_spec.specs.Choices.{points}
use Rattle.cube_spec.specs.Ways.{room}
use Rattle.cube_spec.proofs.Naturals.{clash}
use Rattle.cube_spec.proofs.Sums.{by}
use Rattle.tape_spec.specs.Tapes.{Campaign}
use Rattle.report_spec.specs.Text.{text}
use Rattle.report_spec.specs.Printed.{refused_line}
use Rattle.practice_spec.specs.Draws.{practice, tape_of}
use Rattle.practice_spec.specs.Seeds.{seed_of, bad_seed, practised}
use Rattle.practice_spec.specs.Exercises.{Asks, draw, Exercise, Exercised, Prints, tape, refusal}
use Rattle.practice_spec.specs.Computing.{computing}
use Rattle.practice_spec.specs.inner.Judged.{longest_tape}
use Rattle.practice_spec.proofs.Lines.{asks_taken, taken_asks, prints_taken, prints_bad}
use Rattle.practice_spec.proofs.Accepted.{tape_short, exercised}

refusal_line : refused_line 22 ≡ text "refused 22\n"
unfolding computing
refusal_line = refl

-- WHAT IS PRINTED FOR EVERY INPUT: the tape of the seed that it asks for, or it asks for none and the refusal line is printed
pub prints_all : (input : List ℕ) → Prints input (practised input)
prints_all input =
    by (bad_seed input)
    (λ t. refusal (λ seed a. clash (sym t ∙ (asks_taken input seed a).0)) (prints_bad input t ∙ refusal_line))
    (λ t.
    let a = taken_asks input t in
    let s = seed_of input in
    tape s a (practice s) (rw (prints_taken input t) (exercised s a.least a.most)))

-- ---- nothing else does

-- one campaign is drawn
module _ (seed : ℕ) (c c' : Campaign) (e : Exercise seed c) (f : Exercise seed c') where
  lengths_same : c.lengths ≡ c'.lengths
  lengths_same =
      let n : length c.lengths ≡ length c'.lengths = e.axes ∙ sym f.axes in
      ext_get_or 0 c.lengths c'.lengths n (λ d h. e.each_length d h ∙ sym (f.each_length d (omega arith)))

  power_same : c.p ≡ c'.p
  power_same = e.power ∙ ap (λ l. draw seed (length l + 2) % (1 + min 3 (room l))) lengths_same ∙ sym f.power

  points_same : c.points ≡ c'.points
  points_same =
      let n : length c.points ≡ length c'.points = e.many ∙ ap points lengths_same ∙ sym f.many in
      let drawn-as : (i : ℕ) → List ℕ → ℤ = λ i l. pos (draw seed (length l + 3 + i) % 2001) -ℤ pos 1000 in
      ext_get_or (pos 0) c.points c'.points n (λ i h. e.each_point i h ∙ ap (drawn-as i) lengths_same ∙ sym (f.each_point i (omega arith)))

tape_same : (seed : ℕ) (c c' : Campaign) (t t' : List ℕ) → Exercised seed c t → Exercised seed c' t' → t ≡ t'
tape_same seed c c' t t' e f =
    let x = e.exercise in
    let y = f.exercise in
    e.commands ∙ rw (lengths_same seed c c' x y, power_same seed c c' x y, points_same seed c c' x y) (sym f.commands)

asks_once : (input : List ℕ) (s s' : ℕ) → Asks input s → Asks input s' → s ≡ s'
asks_once input s s' a b = sym (asks_taken input s a).1 ∙ (asks_taken input s' b).1

-- THE STATEMENT DETERMINES WHAT IS PRINTED
pub prints_once : (input a b : List ℕ) → Prints input a → Prints input b → a ≡ b
prints_once input a b (tape s q c e) (tape s' q' c' e') = tape_same s' c c' a b (rw (asks_once input s' s q' q) e) e'
prints_once input a b (tape s q c e) (refusal h z) = absurd (h s q)
prints_once input a b (refusal h z) (tape s q c e) = absurd (h s q)
prints_once input a b (refusal h z) (refusal h' z') = z ∙ sym z'

-- ---- the same seed prints the same, and nothing is longer than the longest tape

pub same_seed : (input input' : List ℕ) (seed : ℕ) → Asks input seed → Asks input' seed → practised input ≡ practised input'
same_seed input input' seed a b =
    let x = asks_taken input seed a in
    let y = asks_taken input' seed b in
    prints_taken input x.0 ∙ ap (λ s. tape_of (practice s)) (x.1 ∙ sym y.1) ∙ sym (prints_taken input' y.0)

refusal_length : length (text "refused 22\n") ≡ 11
unfolding text
refusal_length = refl

pub practised_short : (input : List ℕ) → length (practised input) ≤ longest_tape
practised_short input =
    by (bad_seed input)
    (λ t. let e = ap length (prints_bad input t ∙ refusal_line) in let n = refusal_length in omega arith)
    (λ t. let e = ap length (prints_taken input t) in let n = tape_short (seed_of input) in omega arith)
