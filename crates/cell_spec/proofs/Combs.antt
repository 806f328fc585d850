-- Laws of rows of sums.
use Prim.Native.Nat.{ℕ, ◌≤◌, ◌<◌, ◌+◌, ◌*◌, ◌/◌, ◌%◌}
use mathlib.Core.Path.{◌≡◌, sym, ◌∙◌, refl, ap}
use mathlib.Core.List.{List, ◌++◌}
use native.Mathlib.Omega.{arith}
use native.Mathlib.Nat.{div-lt_iff_lt-mul, mod-lt, mul_assoc, add-zero, add-mul, mul-le-mul_right}
use lib.ListN.{length, get_or, set, take, drop}
use lib.IntN.{ℤ, pos, ◌+ℤ◌}
use Rattle.cube_spec.specs.Boxes.{sum_z}
use Rattle.cube_spec.proofs.Sums.{sum_cong}
use Rattle.cube_spec.proofs.Boxing.{row_lt, right_pos}
use Rattle.cell_spec.specs.Wrapped.{residue, wrapped}
use Rattle.cell_spec.specs.Rows.{from, every, placed, written, zeros, added_to, axis_sums, row_sums, combs}
use Rattle.cell_spec.proofs.Halves.{written_right, from_left}
use Rattle.cell_spec.proofs.Writing.{inside, over, same, sum_more, block_cell, block_more, from_from}

-- no values yet
pub comb_none : (l : List ℤ) (at u t i : ℕ) → pos 0 ≡ combs l at u 0 t i
unfolding combs sum_z wrapped residue
comb_none l at u t i = refl

-- one value more, read at the place p
pub comb_more : (l : List ℤ) (at u e t i p : ℕ) (s r : ℤ) → s ≡ combs l at u e t i → p ≡ at + i * u + e * t → r ≡ wrapped (s +ℤ get_or l p (pos 0)) → r ≡ combs l at u (e + 1) t i
unfolding combs every
comb_more l at u e t i p s r h q g = sum_more e (every l (at + i * u) t) s _ r h (ap (λ (j : ℕ). get_or l j (pos 0)) q) g

-- counted from a later sum on
pub comb_shift : (l : List ℤ) (at u e t i j : ℕ) → combs l (at + i * u) u e t j ≡ combs l at u e t (i + j)
unfolding combs
comb_shift l at u e t i j = let q : at + i * u + j * u ≡ at + (i + j) * u = omega (arith, add-mul i j u) in rw q

-- k rows of u cells from row i on lie within n
pub rows_fit : (i k n u : ℕ) → i + k ≤ n → i * u + k * u ≤ n * u
rows_fit i k n u h = omega (arith, mul-le-mul_right u h, add-mul i k u)

-- four sums, written one after the other
pub four_written : (w : List ℤ) (at : ℕ) (f : ℕ → ℤ) (a b c d : ℤ) → a ≡ f 0 → b ≡ f 1 → c ≡ f 2 → d ≡ f 3
    → set (set (set (set w at a) (at + 1) b) (at + 2) c) (at + 3) d ≡ written w at 4 f
unfolding written placed
four_written w at f a b c d p q r s = rw (p, q, r, s, add-zero)

-- sums that are neighbours, of values n apart, are those of rows of n cells
pub comb_row : (l : List ℤ) (at e n i : ℕ) → combs l at 1 e n i ≡ row_sums (from l at) e n i
unfolding combs row_sums every from
comb_row l at e n i = ap wrapped (sum_cong e (λ m k. let q : at + i * 1 + m * n ≡ at + (m * n + i) = omega arith in ap (λ (j : ℕ). get_or l j (pos 0)) q))

-- one block more of e rows of n cells
pub blocks_more : (w l : List ℤ) (src dst o e n : ℕ) →
    written (written w dst (o * n) (axis_sums (from l src) e n)) (dst + o * n) n (combs l (src + o * (e * n)) 1 e n) ≡ written w dst ((o + 1) * n) (axis_sums (from l src) e n)
blocks_more w l src dst o e n =
    block_more w dst o e n (from l src) _ (λ i h. comb_row l (src + o * (e * n)) e n i ∙ block_cell o e n i (from l src) _ h (λ m k. from_from l src (o * (e * n)) (m * n + i)))

-- the cells of a child are sums of values of its parent
pub axis_within : (p q : ℕ → ℤ) (o e n c : ℕ) → c < o * n → ((i : ℕ) → i < o * (e * n) → p i ≡ q i) → axis_sums p e n c ≡ axis_sums q e n c
unfolding axis_sums
axis_within p q o e n c h g = ap wrapped (sum_cong e (λ m k. g _ (inside m k)))
  where
    inside : (m : ℕ) → m < e → (c / n * e + m) * n + c % n < o * (e * n)
    inside m k =
        let z = right_pos o n h in
        let a : c / n * e + m < o * e = row_lt ((div-lt_iff_lt-mul z).1 h) k in
        let b : (c / n * e + m) * n + c % n < o * e * n = row_lt a (mod-lt c z) in
        rw (← mul_assoc o e n) b

-- the sums of runs of e neighbours are the child's cells where the last axis is summed out
pub comb_run : (l : List ℤ) (at e i : ℕ) → combs l at e e 1 i ≡ axis_sums (from l at) e 1 i
unfolding combs axis_sums every from
comb_run l at e i =
    let d : i / 1 ≡ i = omega arith in
    let r : i % 1 ≡ 0 = omega arith in
    rw (d, r) (ap wrapped (sum_cong e (λ m k. let q : at + i * e + m * 1 ≡ at + ((i * e + m) * 1 + 0) = omega arith in ap (λ (j : ℕ). get_or l j (pos 0)) q)))

-- row by row: e rows of n neighbours, t apart

-- no row yet
pub rows_none : (w a : List ℤ) (at t dst n : ℕ) → dst + n ≤ length w → written w dst n zeros ≡ written (written w dst n zeros) dst n (combs a at 1 0 t)
unfolding zeros
rows_none w a at t dst n b = sym (over w dst n zeros (combs a at 1 0 t) b ∙ sym (same w dst n zeros (combs a at 1 0 t) (λ i h. comb_none a at 1 t i)))

-- one row more
pub rows_next : (w a : List ℤ) (at t dst n m : ℕ) → dst + n ≤ length w →
    let v = written w dst n (combs a at 1 m t) in
    written v dst n (added_to v dst (from a (at + m * t))) ≡ written w dst n (combs a at 1 (m + 1) t)
unfolding added_to from
rows_next w a at t dst n m b =
    over w dst n _ _ b
    ∙ same w dst n _ _ (λ i h. comb_more a at 1 m t i (at + m * t + i) _ _ (inside w dst n (combs a at 1 m t) i b h) (omega arith) refl)

-- what was cleared before plays no part
pub rows_all : (w a : List ℤ) (at t dst n e : ℕ) → dst + n ≤ length w → written (written w dst n zeros) dst n (combs a at 1 e t) ≡ written w dst n (combs a at 1 e t)
rows_all w a at t dst n e b = over w dst n zeros (combs a at 1 e t) b

-- a child's cells written right of the cut, of the parent left of it
pub summed_right : (w : List ℤ) (src dst o e n : ℕ) → src + o * (e * n) ≤ dst → dst ≤ length w
    → take dst w ++ written (drop dst w) 0 (o * n) (axis_sums (from (take dst w) src) e n) ≡ written w dst (o * n) (axis_sums (from w src) e n)
summed_right w src dst o e n b h =
    written_right w dst 0 (o * n) _ h ∙ rw add-zero (same w dst (o * n) _ _ (λ c l. axis_within _ _ o e n c l (λ i k. from_left w dst src i (omega arith))))

-- no value at all
pub axis_none : (p : ℕ → ℤ) (n c : ℕ) → pos 0 ≡ axis_sums p 0 n c
unfolding axis_sums sum_z wrapped residue
axis_none p n c = refl
