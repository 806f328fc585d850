-- Runs of stores: one after the other, and those of a list's elements in turn.
use Prim.Native.Nat.{ℕ, suc, ◌+◌, ◌≤◌, ◌<◌}
use mathlib.Core.Path.{◌≡◌, ◌∙◌, ap, ap₂}
use mathlib.Core.List.{List, [], ◌∷◌, ◌++◌}
use native.Mathlib.Nat.{zero-add, add-zero}
use native.Mathlib.Numerals.{add-one}
use native.Mathlib.Omega.{arith}
use lib.ListN.{length, get_or, take, drop, set}
use lib.Seq.{sets, sets-eq, length-sets, take-suc, length-take-le, take-append_seam}

pub joined : {A : Type 0} (s : List A) (i : ℕ) (a b : List A) → sets s i (a ++ b) ≡ sets (sets s i a) (i + length a) b
joined s i [] b = rw add-zero
joined s i (x ∷ a) b = let q : i + suc (length a) ≡ suc i + length a = omega arith in rw q (joined (set s i x) (suc i) a b)

-- one element more
pub one_more : (s : List ℕ) (at : ℕ) (l : List ℕ) (i : ℕ) → i < length l → set (sets s at (take i l)) (at + i) (get_or l i 0) ≡ sets s at (take (i + 1) l)
one_more s at l i h =
    rw (add-one i, take-suc l i 0 h, joined s at (take i l) (get_or l i 0 ∷ []), length-take-le i l (omega arith))

-- and from the start of the slice
pub next : (s l : List ℕ) (i : ℕ) → i < length l → set (sets s 0 (take i l)) i (get_or l i 0) ≡ sets s 0 (take (i + 1) l)
next s l i h = simp zero-add at (one_more s 0 l i h)

-- what a call that stores a list from the start on leaves there
pub stored_first : {A : Type 0} (s s' l : List A) (r : ℕ) → r ≡ length l → r ≤ length s' → s' ≡ sets s 0 l → take r s' ≡ l
stored_first s s' l r e h p =
    let n : length s' ≡ length s = ap length p ∙ length-sets s 0 l in
    let z : 0 + length l ≤ length s = omega arith in
    ap₂ take e (p ∙ sets-eq l s 0 z) ∙ take-append_seam l (drop (0 + length l) s)
