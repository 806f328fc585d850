-- Laws of decimal numbers and of bytes put one after the other.
use Prim.Native.Nat.{ℕ, zero, suc, ◌+◌, ◌^◌, ◌≤◌, ◌<◌}
use mathlib.Core.Path.{◌≡◌, sym, ◌∙◌, refl, ap, ap₂}
use mathlib.Core.List.{List, [], ◌∷◌, ◌++◌, map, append-nil, append_assoc}
use native.Mathlib.Omega.{arith}
use native.Mathlib.Nat.{add-zero, le_refl}
use borrow.Author.Tests.{lt-ltb, le-ltb}
use borrow.Rule.Slice.PartMut.{put_mid}
use lib.ListN.{length, set, get_or, take, drop}
use lib.IntN.{ℤ, pos, negsuc}
use lib.Signed.{mag}
use lib.Seq.{sets, take_all}
use Rattle.std.specs.Fmt as Fmt
use Rattle.std.proofs.lemmas.Fmt.{AppendsLastDigit, decimal_from_appends, length-decimal-le, length-decimal-le_succ}
use Rattle.std.proofs.lemmas.List.Edits.{sets-eq}
use Rattle.std.proofs.lemmas.Slice.{put_mid-paste}
use Rattle.cube_spec.proofs.Stores.{joined}
use Rattle.report_spec.specs.Text.{text, digits, decimal, signed}
use Rattle.report_spec.specs.Printed.{fields, numbers, signeds}
use Rattle.report_field.specs.Spread.{spread}

length_join : {A : Type 0} (l m : List A) → length (l ++ m) ≡ length l + length m
length_join [] m = omega arith
length_join (a ∷ l) m = let i = length_join l m in omega arith

-- ---- numbers: what std prints is what the report says

appends : AppendsLastDigit digits
unfolding digits
appends = record { one = λ k n h. rw (lt-ltb n 10 h) refl; more = λ k n h. rw (le-ltb n 10 h) refl }

pub decimal_is : (n : ℕ) → n < 2 ^ 64 → Fmt.decimal n ≡ decimal n
unfolding decimal
decimal_is n h = sym (decimal_from_appends digits appends (suc n) n h (let k = length-decimal-le_succ n h in omega arith))

pub signed_is : (z : ℤ) → mag z < 2 ^ 63 → Fmt.signed_decimal z ≡ signed z
unfolding signed text
signed_is (pos n) h = decimal_is n (omega arith)
signed_is (negsuc n) h = ap (λ l. 45 ∷ l) (decimal_is (suc n) (omega arith))

pub byte_short : (n : ℕ) → n < 2 ^ 8 → length (decimal n) ≤ 3
byte_short n h = rw (← decimal_is n (omega arith)) (length-decimal-le 3 n (omega arith) (omega arith) (omega arith))

-- ---- bytes put one after the other

pub put_whole : (l ys vs : List ℕ) (at k : ℕ) → at + length vs ≤ length l → ys ≡ vs → length vs ≡ k → put_mid at k l ys ≡ sets l at vs
put_whole l ys vs at k h e f =
    put_mid-paste at k l ys vs (length vs) e f refl ∙ ap (λ w. take at l ++ w ++ drop (at + length vs) l) (take_all (length vs) vs (le_refl _)) ∙ sym (sets-eq vs l at h)

-- one byte more
pub sets_last : (l : List ℕ) (i : ℕ) (vs : List ℕ) (j b : ℕ) → j ≡ i + length vs → set (sets l i vs) j b ≡ sets l i (vs ++ b ∷ [])
sets_last l i vs j b e = rw e (sym (joined l i vs (b ∷ [])))

-- a byte and what follows it
pub sets_first : (out : List ℕ) (at b : ℕ) (l : List ℕ) → sets (set out at b) (at + 1) l ≡ sets out at (b ∷ l)
sets_first out at b l = let z : at + 1 ≡ suc at = omega arith in rw z refl

-- a space before it
pub space : (out : List ℕ) (at : ℕ) (l : List ℕ) → sets (set out at 32) (at + 1) l ≡ sets out at (text " " ++ l)
unfolding text
space out at l = sets_first out at 32 l

-- ---- fields, each after a space

module _ {A : Type 0} (f : A → List ℕ) where
  -- those of the first i
  abbrev pub front : List A → ℕ → List ℕ
  front l i = spread (map f (take i l))

  front_more : (l : List A) (i : ℕ) (x : A) → i < length l → x ≡ get_or l i x → front l (i + 1) ≡ front l i ++ (text " " ++ f x)
  unfolding spread text
  front_more [] i x h e = absurd (omega arith)
  front_more (z ∷ l) zero x h e = rw e (ap (λ r. 32 ∷ r) (append-nil (f z)))
  front_more (z ∷ l) (suc i) x h e =
      let s : suc i + 1 ≡ suc (i + 1) = omega arith in
      rw s (ap (λ r. 32 ∷ (f z ++ r)) (front_more l i x (omega arith) e) ∙ ap (λ r. 32 ∷ r) (sym (append_assoc (f z) (front l i) (text " " ++ f x))))

  -- one more put
  pub front_put : (out now new : List ℕ) (l : List A) (i : ℕ) (x : A) (at next end : ℕ) → i < length l → x ≡ get_or l i x
      → (next ≡ at + length (front l i)) × (now ≡ sets out at (front l i)) → (end ≡ next + 1 + length (f x)) × (new ≡ sets now next (text " " ++ f x))
      → (end ≡ at + length (front l (i + 1))) × (new ≡ sets out at (front l (i + 1)))
  unfolding text
  front_put out now new l i x at next end h e s r =
      let m = front_more l i x h e in (
        omega (arith, s.0, r.0, ap length m, length_join (front l i) (text " " ++ f x)),
        r.1 ∙ ap₂ (λ (o : List ℕ) (k : ℕ). sets o k (text " " ++ f x)) s.1 s.0 ∙ sym (joined out at (front l i) (text " " ++ f x)) ∙ ap (sets out at) (sym m),
      )

  pub front_none : (out : List ℕ) (at : ℕ) (l : List A) → (at ≡ at + length (front l 0)) × (out ≡ sets out at (front l 0))
  unfolding spread
  front_none out at l = (sym (add-zero at), refl)

pub numbers_are : (l : List ℕ) → map decimal l ≡ numbers l
unfolding numbers
numbers_are [] = refl
numbers_are (n ∷ l) = ap (λ r. decimal n ∷ r) (numbers_are l)

pub signeds_are : (l : List ℤ) → map signed l ≡ signeds l
unfolding signeds
signeds_are [] = refl
signeds_are (z ∷ l) = ap (λ r. signed z ∷ r) (signeds_are l)

-- ---- whole lines

-- fields, and then the end of the line
fields_end : (l : List (List ℕ)) → fields l ≡ spread l ++ 10 ∷ []
unfolding fields spread text
fields_end [] = refl
fields_end (f ∷ r) = ap (λ x. 32 ∷ (f ++ x)) (fields_end r) ∙ ap (λ x. 32 ∷ x) (sym (append_assoc f (spread r) (10 ∷ [])))

-- a word, fields and the end, put one after the other
pub line_put : (out word : List ℕ) (l : List (List ℕ)) (first end : ℕ) → first ≡ length word → end ≡ first + length (spread l)
    → (set (sets (sets out 0 word) first (spread l)) end 10 ≡ sets out 0 (word ++ fields l)) × (end + 1 ≡ length (word ++ fields l))
line_put out word l first end e f =
    let a : word ++ fields l ≡ (word ++ spread l) ++ 10 ∷ [] = ap (λ x. word ++ x) (fields_end l) ∙ sym (append_assoc word (spread l) (10 ∷ [])) in
    let b : sets (sets out 0 word) first (spread l) ≡ sets out 0 (word ++ spread l) = ap (λ k. sets (sets out 0 word) k (spread l)) (e ∙ sym (let z : 0 + length word ≡ length word = omega arith in z)) ∙ sym (joined out 0 word (spread l)) in
    let n = length_join word (spread l) in
    (rw b (sets_last out 0 (word ++ spread l) end 10 (omega arith)) ∙ ap (sets out 0) (sym a), omega (arith, ap length a, length_join (word ++ spread l) (10 ∷ [])))

-- the first field apart
pub spread_first : (f : List ℕ) (r : List (List ℕ)) (out : List ℕ) (at next : ℕ) → next ≡ at + 1 + length f
    → (sets (sets out at (text " " ++ f)) next (spread r) ≡ sets out at (spread (f ∷ r))) × (next + length (spread r) ≡ at + length (spread (f ∷ r)))
unfolding spread text
spread_first f r out at next e =
    (ap (λ k. sets (sets out at (text " " ++ f)) k (spread r)) (e ∙ (let z : at + 1 + length f ≡ at + suc (length f) = omega arith in z)) ∙ sym (joined out at (32 ∷ f) (spread r)), omega (arith, length_join f (spread r)))
