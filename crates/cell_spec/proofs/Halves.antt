-- A slice that was cut in two, and written in one of the parts.
use Rattle.std.proofs.Common.{◌≡◌, ℕ, zero, suc, ◌+◌, ◌-◌, ◌<◌, ◌≤◌, List, length, get_or, set, take, drop, ◌++◌, ℤ, pos, ◌+ℤ◌, sym, refl, ap, ap₂, ◌∙◌, arith, add-zero, zero-add, ◌⊎◌, inl, inr, length-drop, length-take-le}
use Rattle.std.proofs.lemmas.List.{take-append-drop, set-append_left, set-append_right, get_or-take, get_or-drop, length-take, get_or_past}
use borrow.Rule.Slice.PartMut.{put_mid}
use Rattle.cell_spec.specs.Rows.{from, placed, written, added_to}
use Rattle.cell_spec.specs.Wrapped.{wrapped}
use Rattle.cell_spec.proofs.Placing.{length_placed}
use Rattle.cell_spec.proofs.Writing.{same, is_written}

placed_right : (u v : List ℤ) (m n : ℕ) (f : ℕ → ℤ) (at : ℕ) → length u ≡ m → placed (u ++ v) n (λ i. m + at + i) f ≡ u ++ placed v n (λ i. at + i) f
unfolding placed
placed_right u v m zero f at e = refl
placed_right u v m (suc n) f at e =
    let q : m + at + n - m ≡ at + n = omega arith in
    ap (λ l. set l (m + at + n) (f n)) (placed_right u v m n f at e) ∙ set-append_right u (placed v n (λ i. at + i) f) m (m + at + n) (f n) e (omega arith) ∙ rw q refl

placed_left : (u v : List ℤ) (n : ℕ) (f : ℕ → ℤ) (at : ℕ) → at + n ≤ length u → placed (u ++ v) n (λ i. at + i) f ≡ placed u n (λ i. at + i) f ++ v
unfolding placed
placed_left u v zero f at h = refl
placed_left u v (suc n) f at h =
    ap (λ l. set l (at + n) (f n)) (placed_left u v n f at (omega arith))
    ∙ set-append_left (placed u n (λ i. at + i) f) v (at + n) (f n) (omega (arith, length_placed u n (λ i. at + i) f))

-- written after the cut, and before it
pub written_right : (w : List ℤ) (m at n : ℕ) (f : ℕ → ℤ) → m ≤ length w → take m w ++ written (drop m w) at n f ≡ written w (m + at) n f
unfolding written
written_right w m at n f h =
    sym (placed_right (take m w) (drop m w) m n f at (omega (arith, length-take m w))) ∙ ap (λ l. placed l n (λ i. m + at + i) f) (take-append-drop m w)

pub written_left : (w : List ℤ) (m at n : ℕ) (f : ℕ → ℤ) → m ≤ length w → at + n ≤ m → written (take m w) at n f ++ drop m w ≡ written w at n f
unfolding written
written_left w m at n f h k =
    sym (placed_left (take m w) (drop m w) n f at (omega (arith, length-take m w))) ∙ ap (λ l. placed l n (λ i. at + i) f) (take-append-drop m w)

-- and read
pub from_left : (w : List ℤ) (m at i : ℕ) → at + i < m → from (take m w) at i ≡ from w at i
unfolding from
from_left w m at i h = get_or-take m w (at + i) (pos 0) h

pub from_right : (w : List ℤ) (m at i : ℕ) → from (drop m w) at i ≡ from w (m + at) i
unfolding from
from_right w m at i = let q : m + (at + i) ≡ m + at + i = omega arith in rw (get_or-drop m w (at + i) (pos 0), q) refl

-- a row of the one part added to cells of the other
pub added_right : (w : List ℤ) (src dst n : ℕ) → dst ≤ length w → src + n ≤ dst
    → take dst w ++ written (drop dst w) 0 n (added_to (drop dst w) 0 (from (take dst w) src)) ≡ written w dst n (added_to w dst (from w src))
unfolding added_to
added_right w src dst n h k =
    written_right w dst 0 n _ h ∙ rw add-zero (same w dst n _ _ (λ i l. ap₂ (λ a b. wrapped (a +ℤ b)) (from_right w dst 0 i ∙ rw add-zero refl) (from_left w dst src i (omega arith))))

pub added_left : (w : List ℤ) (src dst n : ℕ) → src ≤ length w → dst + n ≤ src
    → written (take src w) dst n (added_to (take src w) dst (from (drop src w) 0)) ++ drop src w ≡ written w dst n (added_to w dst (from w src))
unfolding added_to
added_left w src dst n h k =
    written_left w src dst n _ h k ∙ same w dst n _ _ (λ i l. ap₂ (λ a b. wrapped (a +ℤ b)) (from_left w src dst i (omega arith)) (from_right w src 0 i ∙ rw add-zero refl))

-- a part that was filled as a whole
filled : (w l : List ℤ) (n : ℕ) (f : ℕ → ℤ) → length w ≡ n → length l ≡ n → ((i : ℕ) → i < n → get_or l i (pos 0) ≡ f i) → l ≡ written w 0 n f
filled w l n f p q h = is_written w l 0 n f (q ∙ sym p) (omega (arith, p)) (λ i k. rw zero-add (h i k)) past
  where
    past : (j : ℕ) → (j < 0) ⊎ (0 + n ≤ j) → get_or l j (pos 0) ≡ get_or w j (pos 0)
    past j (inl k) = absurd (omega arith)
    past j (inr k) = get_or_past l j (pos 0) (omega (arith, q)) ∙ sym (get_or_past w j (pos 0) (omega (arith, p)))

pub put_written : (w l : List ℤ) (at n : ℕ) (f : ℕ → ℤ) → at + n ≤ length w → length l ≡ n → ((i : ℕ) → i < n → get_or l i (pos 0) ≡ f i)
    → put_mid at n w l ≡ written w at n f
put_written w l at n f b q h =
    let v = drop at w in
    let r : n ≤ length v = omega (arith, length-drop at w) in
    ap (λ x. take at w ++ (x ++ drop n v)) (filled (take n v) l n f (length-take-le n v r) q h)
    ∙ ap (λ x. take at w ++ x) (written_left v n 0 n f r (omega arith))
    ∙ written_right w at 0 n f (omega arith)
    ∙ rw add-zero refl
