-- Laws of a slice into which values were written.
use Prim.Native.Nat.{ℕ, ◌≤◌, ◌<◌, ◌-◌, ◌+◌, ◌*◌}
use mathlib.Core.Path.{◌≡◌, sym, ◌∙◌, refl, ap, ap₂}
use mathlib.Core.Logic.{◌⊎◌, inl, inr}
use mathlib.Core.Bool.{Bool, true, false, ◌&&◌}
use mathlib.Core.List.{List}
use native.Mathlib.Omega.{arith}
use native.Mathlib.Numerals.{add-one}
use native.Mathlib.Nat.{mul-le-mul_right, add-mul, one-mul, mul_assoc}
use borrow.Author.Tests.{ltb-true, ltb-false, leb-true, leb-false}
use lib.Dec.{ltb, leb}
use lib.ListN.{length, get_or, set}
use lib.Seq.{ext_get_or}
use lib.IntN.{ℤ, pos, ◌+ℤ◌}
use Rattle.cube_spec.specs.Boxes.{pick, sum_z, table}
use Rattle.cube_spec.proofs.Sums.{by, sum_cong}
use Rattle.cube_spec.proofs.Boxing.{row_of, rest_of}
use Rattle.cube_spec.proofs.Tables.{table_of}
use Rattle.cell_spec.specs.Wrapped.{wrapped}
use Rattle.cell_spec.specs.Rows.{from, placed, written, add_at, added_to, axis_sums, row_sums}
use Rattle.cell_spec.proofs.Modulo.{wrapped_add}
use Rattle.cell_spec.proofs.Placing.{length_placed, unplaced, at_place, placed_cong, placed_more, placed_joined}

pub length_written : (w : List ℤ) (at n : ℕ) (f : ℕ → ℤ) → length (written w at n f) ≡ length w
unfolding written
length_written w at n f = length_placed w n _ f

-- a cell before or after those written
pub outside : (w : List ℤ) (at n : ℕ) (f : ℕ → ℤ) (j : ℕ) → (j < at) ⊎ (at + n ≤ j) → get_or (written w at n f) j (pos 0) ≡ get_or w j (pos 0)
unfolding written
outside w at n f j (inl h) = unplaced w n _ f j (λ i k e. omega arith)
outside w at n f j (inr h) = unplaced w n _ f j (λ i k e. omega arith)

-- a cell written
pub inside : (w : List ℤ) (at n : ℕ) (f : ℕ → ℤ) (i : ℕ) → at + n ≤ length w → i < n → get_or (written w at n f) (at + i) (pos 0) ≡ f i
unfolding written
inside w at n f i b h = at_place w n (λ i. at + i) f (λ i k l r e. omega arith) i h (omega arith)

-- a list that has the values written, and else the old ones
pub is_written : (w l : List ℤ) (at n : ℕ) (f : ℕ → ℤ) → length l ≡ length w → at + n ≤ length w
    → ((i : ℕ) → i < n → get_or l (at + i) (pos 0) ≡ f i)
    → ((j : ℕ) → (j < at) ⊎ (at + n ≤ j) → get_or l j (pos 0) ≡ get_or w j (pos 0))
    → l ≡ written w at n f
is_written w l at n f q b new old = ext_get_or (pos 0) l (written w at n f) (q ∙ sym (length_written w at n f)) (λ j h. go j (ltb j at) (ltb j (at + n)) refl refl)
  where
    go : (j : ℕ) (s t : Bool) → ltb j at ≡ s → ltb j (at + n) ≡ t → get_or l j (pos 0) ≡ get_or (written w at n f) j (pos 0)
    go j true t p q = let h = inl (ltb-true j at p) in old j h ∙ sym (outside w at n f j h)
    go j false false p q = let h = inr (ltb-false j (at + n) q) in old j h ∙ sym (outside w at n f j h)
    go j false true p q =
        let a = ltb-false j at p in
        let k = ltb-true j (at + n) q in
        let e : j ≡ at + (j - at) = omega arith in
        let i : j - at < n = omega arith in
        rw e (new (j - at) i ∙ sym (inside w at n f (j - at) b i))

-- every cell at once: the values written, and else the old ones
pub written_table : (w : List ℤ) (at n : ℕ) (f : ℕ → ℤ) → at + n ≤ length w
    → written w at n f ≡ table (length w) (λ i. pick (leb at i && ltb i (at + n)) (f (i - at)) (get_or w i (pos 0)))
written_table w at n f b = table_of (length w) _ (written w at n f) (pos 0) (length_written w at n f) (λ j h. by (leb at j) (by (ltb j (at + n)) (new j) (after j)) (before j))
  where
    new : (j : ℕ) → ltb j (at + n) ≡ true → leb at j ≡ true → get_or (written w at n f) j (pos 0) ≡ pick (leb at j && ltb j (at + n)) (f (j - at)) (get_or w j (pos 0))
    new j k l =
        let a = leb-true at j l in
        let c = ltb-true j (at + n) k in
        let i : j - at < n = omega arith in
        let e : j ≡ at + (j - at) = omega arith in
        rw (l, k) (ap (λ (i : ℕ). get_or (written w at n f) i (pos 0)) e ∙ inside w at n f (j - at) b i)

    after : (j : ℕ) → ltb j (at + n) ≡ false → leb at j ≡ true → get_or (written w at n f) j (pos 0) ≡ pick (leb at j && ltb j (at + n)) (f (j - at)) (get_or w j (pos 0))
    after j k l = rw (l, k) (outside w at n f j (inr (ltb-false j (at + n) k)))

    before : (j : ℕ) → leb at j ≡ false → get_or (written w at n f) j (pos 0) ≡ pick (leb at j && ltb j (at + n)) (f (j - at)) (get_or w j (pos 0))
    before j l = rw l (outside w at n f j (inl (leb-false at j l)))

-- values that are equal
pub same : (w : List ℤ) (at n : ℕ) (f g : ℕ → ℤ) → ((i : ℕ) → i < n → f i ≡ g i) → written w at n f ≡ written w at n g
unfolding written
same w at n f g h = placed_cong w n (λ i k. refl) h

-- one value more
pub one_more : (w : List ℤ) (at n : ℕ) (f : ℕ → ℤ) (x : ℤ) → x ≡ f n → set (written w at n f) (at + n) x ≡ written w at (n + 1) f
unfolding written
one_more w at n f x e = placed_more w n _ f x e

-- places one apart are neighbours
pub placed_line : (w : List ℤ) (at step n : ℕ) (f : ℕ → ℤ) → step ≡ 1 → written w at n f ≡ placed w n (λ i. at + i * step) f
unfolding written
placed_line w at step n f q = placed_cong w n (λ i h. let e : at + i ≡ at + i * 1 = omega arith in rw q e) (λ i h. refl)

-- k values more, on the right
pub joined : (w : List ℤ) (at n k : ℕ) (f g : ℕ → ℤ) → ((i : ℕ) → i < k → g i ≡ f (n + i)) → written (written w at n f) (at + n) k g ≡ written w at (n + k) f
unfolding written
joined w at n k f g h = placed_joined w n k _ _ _ _ (λ i l. let e : at + n + i ≡ at + (n + i) = omega arith in e) h

-- the same cells, twice
pub over : (w : List ℤ) (at n : ℕ) (f g : ℕ → ℤ) → at + n ≤ length w → written (written w at n f) at n g ≡ written w at n g
over w at n f g b =
    let v = written w at n f in
    let q = length_written w at n f in
    is_written w (written v at n g) at n g (length_written v at n g ∙ q) b
    (λ i h. inside v at n g i (omega (arith, q)) h)
    (λ j h. outside v at n g j h ∙ outside w at n f j h)

-- one cell more of a row that is added
pub added_more : (w : List ℤ) (at n : ℕ) (p : ℕ → ℤ) (x : ℤ) → x ≡ p n → add_at (written w at n (added_to w at p)) (at + n) x ≡ written w at (n + 1) (added_to w at p)
unfolding added_to from
added_more w at n p x e = one_more w at n (added_to w at p) _ (ap₂ (λ (a b : ℤ). wrapped (a +ℤ b)) (outside w at n (added_to w at p) (at + n) (inr (omega arith))) e)

-- one term more of a sum
pub sum_more : (n : ℕ) (f : ℕ → ℤ) (s x r : ℤ) → s ≡ wrapped (sum_z n f) → x ≡ f n → r ≡ wrapped (s +ℤ x) → r ≡ wrapped (sum_z (n + 1) f)
unfolding sum_z
sum_more n f s x r p q e = rw (add-one, e, p, q) (wrapped_add (sum_z n f) (f n))

-- one of e rows of n cells lies within
pub row_fits : (m e n : ℕ) → m < e → m * n + n ≤ e * n
row_fits m e n h =
    let q : m + 1 ≤ e = omega arith in
    let r = mul-le-mul_right n q in
    omega (arith, r, add-mul m 1 n, one-mul n)

-- cell i of block o is the child's cell o * n + i
pub block_cell : (o e n i : ℕ) (p q : ℕ → ℤ) → i < n → ((m : ℕ) → m < e → q (m * n + i) ≡ p (o * (e * n) + (m * n + i)))
    → row_sums q e n i ≡ axis_sums p e n (o * n + i)
unfolding row_sums axis_sums
block_cell o e n i p q h k = rw (row_of o h, rest_of o h) (ap wrapped (sum_cong e (λ m q. k m q ∙ ap p (at m))))
  where
    at : (m : ℕ) → o * (e * n) + (m * n + i) ≡ (o * e + m) * n + i
    at m = omega (arith, add-mul (o * e) m n, mul_assoc o e n)

-- one block more, of the values q
pub block_more : (w : List ℤ) (at o e n : ℕ) (p q : ℕ → ℤ) → ((i : ℕ) → i < n → q i ≡ axis_sums p e n (o * n + i))
    → written (written w at (o * n) (axis_sums p e n)) (at + o * n) n q ≡ written w at ((o + 1) * n) (axis_sums p e n)
block_more w at o e n p q h = rw (add-mul, one-mul) (joined w at (o * n) n (axis_sums p e n) q h)

-- counted from two places
pub from_from : (w : List ℤ) (a b i : ℕ) → from w (a + b) i ≡ from w a (b + i)
unfolding from
from_from w a b i = let e : a + b + i ≡ a + (b + i) = omega arith in rw e
