-- Laws of commands: what follows one, and that the commands of some bytes are the first and then those of the bytes that follow.
use Prim.Native.Nat.{ℕ, zero, suc, ◌+◌, ◌-◌, ◌≤◌, ◌<◌}
use mathlib.Core.Path.{◌≡◌, refl, ap, ◌∙◌}
use mathlib.Core.Bool.{Bool, true, false}
use mathlib.Core.Option.{some}
use mathlib.Core.List.{List, [], ◌∷◌}
use native.Mathlib.Omega.{arith}
use lib.Dec.{eqb, ltb}
use borrow.Author.Tests.{ltb-false}
use lib.ListN.{length, drop, take, length-drop}
use lib.Seq.{drop-drop}
use Rattle.cube_spec.specs.Bytes.{little}
use Rattle.cube_spec.specs.Boxes.{pick}
use Rattle.cube_spec.proofs.Sums.{by}
use Rattle.tape_reading.specs.declared.types.Reading.{Reading}
use Rattle.tape_spec.specs.Tapes.{Command, First, found, bad, operand, single, repeated, first_of, prepend, first_then, commands_of, commands}

-- ---- the bytes that follow a command

-- r is l without its first bytes, at least one
pub record Suffix (l r : List ℕ) : Type 0 where
  pub k : ℕ
  pub some : 0 < k
  pub within : k ≤ length l
  pub is : r ≡ drop k l

later : {l s : List ℕ} (n : ℕ) → n ≤ length s → Suffix l s → Suffix l (drop n s)
later {l} {s} n h p =
    let e : length s ≡ length l - p.k = ap length p.is ∙ length-drop p.k l in
    let z = p.some in
    let w = p.within in
    record { k = p.k + n; some = omega arith; within = omega arith; is = ap (drop n) p.is ∙ drop-drop n p.k l }

pub data Follows (l : List ℕ) : First → Type 0 where
  past : {c : Command} {r : List ℕ} → Suffix l r → Follows l (found c r)
  no_rest : Follows l bad

either : {l : List ℕ} {a b : First} (t : Bool) → Follows l a → Follows l b → Follows l (pick t a b)
either true p q = p
either false p q = q

after : {l : List ℕ} (n : ℕ) (r : List ℕ) (k : ℕ → List ℕ → First) → Suffix l r → ((b : ℕ) (s : List ℕ) → Suffix l s → Follows l (k b s)) → Follows l (operand n r k)
unfolding operand
after n r k p q =
    by (ltb (length r) n) (λ t. rw t no_rest) (λ t. rw t (q (little (take n r)) (drop n r) (later n (ltb-false (length r) n t) p)))

after_repeated : {l : List ℕ} (n : ℕ) (v : Reading) (r : List ℕ) → Suffix l r → Follows l (repeated n v r)
unfolding repeated
after_repeated zero v r p = no_rest
after_repeated (suc n) v r p = past p

pub follows : (l : List ℕ) → Follows l (first_of l)
unfolding first_of
follows [] = no_rest
follows (c ∷ r) =
    let p : Suffix (c ∷ r) r = record { k = 1; some = omega arith; within = omega arith; is = refl } in
    either (eqb c 0x41) (after 2 r _ p (λ b s h. past h))
    (either (eqb c 0x42) (after 1 r _ p (λ b s h. past h))
    (either (single c) (after 4 r _ p (λ b s h. past h))
    (either (eqb c 0x52) (after 2 r _ p (λ n s h. after 4 s _ h (λ b t i. after_repeated n _ t i)))
    (either (eqb c 0x45) (past p) no_rest))))

-- what follows a command is shorter
shorter : {l r : List ℕ} → Suffix l r → suc (length r) ≤ length l
shorter {l} {r} p =
    let n : length r ≡ length l - p.k = ap length p.is ∙ length-drop p.k l in
    let z = p.some in
    let w = p.within in
    omega arith

-- ---- any fuel from the number of bytes on serves

fuel : (f g : ℕ) (l : List ℕ) → length l ≤ f → length l ≤ g → commands_of f l ≡ commands_of g l
unfolding commands_of first_then
fuel zero zero l h k = refl
fuel zero (suc g) [] h k = refl
fuel zero (suc g) (b ∷ l) h k = absurd (omega arith)
fuel (suc f) zero [] h k = refl
fuel (suc f) zero (b ∷ l) h k = absurd (omega arith)
fuel (suc f) (suc g) [] h k = refl
fuel (suc f) (suc g) (b ∷ l) h k = go (first_of (b ∷ l)) (follows (b ∷ l)) (λ r p q. fuel f g r p q)
  where
    go : (c : First) → Follows (b ∷ l) c → ((r : List ℕ) → length r ≤ f → length r ≤ g → commands_of f r ≡ commands_of g r)
        → first_then c (commands_of f) ≡ first_then c (commands_of g)
    go (found c r) (past p) e = let s = shorter p in ap (prepend c) (e r (omega arith) (omega arith))
    go bad no_rest e = refl

pub commands_none : commands [] ≡ some []
unfolding commands commands_of
commands_none = refl

pub commands_next : (l : List ℕ) → 0 < length l → commands l ≡ first_then (first_of l) commands
unfolding commands commands_of first_then
commands_next [] h = absurd (omega arith)
commands_next (b ∷ l) h = go (first_of (b ∷ l)) (follows (b ∷ l))
  where
    go : (c : First) → Follows (b ∷ l) c → first_then c (commands_of (length l)) ≡ first_then c commands
    go (found c r) (past p) = let s = shorter p in ap (prepend c) (fuel (length l) (length r) r (omega arith) (omega arith))
    go bad no_rest = refl
