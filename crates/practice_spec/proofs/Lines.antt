-- Which inputs ask for a seed: those that open with one to ten decimal digits and a line feed, whatever follows, which spell 1 to
-- 4,294,967,295, and no others; and what is printed for either.
use Prim.Native.Nat.{ℕ, suc, ◌+◌, ◌-◌, ◌*◌, ◌^◌, ◌≤◌}
use mathlib.Core.Path.{◌≡◌, sym, ◌∙◌, refl, ap}
use mathlib.Core.Bool.{true, false, ◌&&◌, ◌||◌, not}
use mathlib.Core.List.{List, [], ◌∷◌, ◌++◌}
use native.Mathlib.Omega.{arith}
use borrow.Author.Tests.{le-leb, leb-true, le-ltb, ltb-false, eqb-true, eqb-false, ne_eqb}
use lib.Dec.{eqb, ltb, leb}
use lib.ListN.{length, drop}
use Rattle.cube_spec.specs.Checks.{first}
use Rattle.cube_spec.proofs.Naturals.{both, not_false, clash}
use Rattle.cube_spec.proofs.Sums.{by}
use Rattle.plan_spec.proofs.Accepting.{or_none}
use Rattle.tape_spec.specs.Writing.{Every}
use Rattle.report_spec.specs.Printed.{refused_line}
use Rattle.std.specs.Char.{is_ascii_digit}
use Rattle.practice_spec.specs.Draws.{practice, tape_of}
use Rattle.practice_spec.specs.Seeds.{is_digit, digits_of, after_digits, opens_with_feed, digit_limit, seed_line, value, seed_of, seed_limit, bad_seed, practice_checks, practice_refusal, practised_or, practised}
use Rattle.practice_spec.specs.Exercises.{Digit, spelt, Asks}

digit_true : (b : ℕ) → Digit b → is_digit b ≡ true
unfolding is_digit
digit_true b h = rw (le-leb 48 b h.0, le-leb b 57 h.1) refl

pub true_digit : (b : ℕ) → is_digit b ≡ true → Digit b
unfolding is_digit
true_digit b t = let e = both (leb 48 b) (leb b 57) t in (leb-true 48 b e.0, leb-true b 57 e.1)

-- ---- these do

parted : (ds rest : List ℕ) → Every Digit ds → (digits_of (ds ++ 10 ∷ rest) ≡ ds) × (after_digits (ds ++ 10 ∷ rest) ≡ 10 ∷ rest)
unfolding digits_of after_digits is_digit
parted [] rest h = (refl, refl)
parted (b ∷ ds) rest h =
    let i = parted ds rest h.1 in
    let t : is_digit b ≡ true = digit_true b h.0 in
    (rw t (ap (λ l. b ∷ l) i.0), rw t i.1)

-- the digits spell the seed, whichever way they are read
pub value_spelt : (n : ℕ) (ds : List ℕ) → value n ds ≡ n * 10 ^ length ds + spelt ds
unfolding value spelt
value_spelt n [] = omega arith
value_spelt n (b ∷ ds) = value_spelt (10 * n + (b - 48)) ds ∙ one_more n (b - 48) (length ds) (spelt ds)
  where
    moved : (n x t s : ℕ) → (10 * n + x) * t + s ≡ n * (10 * t) + (x * t + s)
    moved n x t s = omega arith

    one_more : (n x k s : ℕ) → (10 * n + x) * 10 ^ k + s ≡ n * 10 ^ suc k + (x * 10 ^ k + s)
    one_more n x k s = let e : 10 * 10 ^ k ≡ 10 ^ suc k = omega arith in moved n x (10 ^ k) s ∙ ap (λ t. n * t + (x * 10 ^ k + s)) e

-- AN INPUT THAT ASKS FOR A SEED IS TAKEN, with that seed
pub asks_taken : (input : List ℕ) (seed : ℕ) → Asks input seed → (bad_seed input ≡ false) × (seed_of input ≡ seed)
unfolding bad_seed seed_line seed_of
asks_taken input seed a =
    let n = length a.digits in
    let p = parted a.digits a.rest a.decimal in
    let e : value 0 a.digits ≡ seed = (let v = value_spelt 0 a.digits in let s = a.number in omega arith) in
    let z : (seed ≡ 0 → ⊥) = λ z. (let l = a.least in omega arith) in
    let few : n ≤ digit_limit = (let l = a.ten_digits in omega arith) in
    let most : seed ≤ seed_limit = (let l = a.most in omega arith) in
    rw (a.line, p.0, p.1, e, le-leb 1 n a.one_digit, le-leb n digit_limit few, ne_eqb seed 0 z, le-ltb seed_limit seed most) (refl, refl)

-- ---- and no others

joined : (l : List ℕ) → opens_with_feed (after_digits l) ≡ true → (l ≡ digits_of l ++ 10 ∷ drop 1 (after_digits l)) × Every Digit (digits_of l)
unfolding digits_of after_digits
joined [] t = clash (sym t)
joined (b ∷ l) t =
    by (is_digit b)
    (λ u. let i = joined l (rw u at t) in rw u (ap (λ r. b ∷ r) i.0, (true_digit b u, i.1)))
    (λ u. let z : eqb b 10 ≡ true = (rw u at t) in rw u (ap (λ x. x ∷ l) (eqb-true b 10 z), tt))

line_parts : (l : List ℕ) → seed_line l ≡ true
    → (l ≡ digits_of l ++ 10 ∷ drop 1 (after_digits l)) × Every Digit (digits_of l) × (1 ≤ length (digits_of l)) × (length (digits_of l) ≤ digit_limit)
unfolding seed_line
line_parts l t =
    let n = length (digits_of l) in
    let a = both (leb 1 n && leb n digit_limit) (opens_with_feed (after_digits l)) t in
    let b = both (leb 1 n) (leb n digit_limit) a.0 in
    let j = joined l a.1 in
    (j.0, j.1, leb-true 1 n b.0, leb-true n digit_limit b.1)

-- AN INPUT THAT IS TAKEN ASKS FOR THE SEED, and by `asks_taken` for no other
pub taken_asks : (input : List ℕ) → bad_seed input ≡ false → Asks input (seed_of input)
unfolding bad_seed
taken_asks input e =
    let a = or_none (not (seed_line input)) (eqb (seed_of input) 0 || ltb seed_limit (seed_of input)) e in
    let b = or_none (eqb (seed_of input) 0) (ltb seed_limit (seed_of input)) a.1 in
    let p = line_parts input (not_false (seed_line input) a.0) in
    let z = eqb-false (seed_of input) 0 b.0 in
    record {
      digits = digits_of input;
      rest = drop 1 (after_digits input);
      line = p.0;
      decimal = p.1;
      one_digit = p.2;
      ten_digits = p.3;
      number = unfold seed_of in (let v = value_spelt 0 (digits_of input) in omega arith);
      least = omega (arith, z);
      most = ltb-false seed_limit (seed_of input) b.1;
    }

-- ---- what is printed for either

pub prints_taken : (input : List ℕ) → bad_seed input ≡ false → practised input ≡ tape_of (practice (seed_of input))
unfolding practised practised_or practice_refusal practice_checks first
prints_taken input e = rw e refl

pub prints_bad : (input : List ℕ) → bad_seed input ≡ true → practised input ≡ refused_line 22
unfolding practised practised_or practice_refusal practice_checks first
prints_bad input e = rw e refl

-- the library's test of a digit is the definition's
pub digit_is : (b : ℕ) → is_digit b ≡ is_ascii_digit b
unfolding is_digit
digit_is b = refl
