-- Laws of points in halves, of columns and of tiles.
use Prim.Native.Nat.{ℕ, zero, suc, ◌<◌, ◌≤◌, ◌-◌, ◌+◌, ◌*◌, ◌/◌, ◌%◌}
use mathlib.Core.Path.{◌≡◌, sym, ◌∙◌, refl, ap, ap₂}
use mathlib.Core.Bool.{Bool, true, false, cond}
use mathlib.Core.List.{List}
use native.Mathlib.Omega.{arith}
use native.Mathlib.Numerals.{add-one}
use borrow.Author.Tests.{ne_eqb, lt-ltb, le-ltb, ltb-true, ltb-false, eqb-true, eqb-false}
use lib.Dec.{eqb, ltb}
use lib.IntN.{ℤ, pos, negsuc, ◌+ℤ◌, ◌-ℤ◌, pos-+ℤ-pos, +ℤ-neg_ℤ_cancel}
use lib.ListN.{length, get_or, set, length-set, replicate, length-replicate, get_or-replicate}
use lib.Seq.{get_or-set_same, get_or-set_other}
use mir.Syntax.{w32, w64}
use mir.Val.{SFits}
use Rattle.cube_spec.specs.Boxes.{pick, sum_z}
use Rattle.cube_spec.proofs.Sums.{by, exchange}
use Rattle.cell_spec.specs.Wrapped.{wrapped}
use Rattle.cell_spec.specs.Rows.{every, combs}
use Rattle.cell_spec.proofs.Modulo.{wrapped_fits}
use Rattle.cube_spec.specs.Shots.{unshot, value_of, shot_of, values, shots}
use Rattle.cell_pair.specs.Tiles.{raised_of, low_of, high_of, count_of, Column, Tile, Part, sums_of, counts_of}
use Rattle.cube_spec.proofs.Shots.{value_at, shot_at}

pub low_is : (b : ℕ) (x : ℤ) → b ≡ raised_of x → b % 65536 ≡ low_of x
unfolding low_of
low_is b x e = ap (λ (n : ℕ). n % 65536) e

pub high_is : (b : ℕ) (x : ℤ) → b ≡ raised_of x → b / 65536 ≡ high_of x
unfolding high_of
high_is b x e = ap (λ (n : ℕ). n / 65536) e

pub count_is : (b r : ℕ) (x : ℤ) → b ≡ raised_of x → (b ≡ 0 → r ≡ 0) → (0 < b → r ≡ 1) → r ≡ count_of x
unfolding count_of
count_is b r x e z p = by (eqb (raised_of x) 0)
    (λ t. rw t (z (e ∙ eqb-true (raised_of x) 0 t)))
    (λ t. rw t (p (let ne = eqb-false (raised_of x) 0 t in omega (arith, ne))))

-- what a point adds
pub halves : (x : ℤ) → high_of x * 65536 + low_of x ≡ raised_of x
unfolding high_of low_of
halves x = omega arith

-- a raised point is the point's value and 2^31 for a point that was shot
pub raised_value : (x : ℤ) → SFits w32 x → pos (raised_of x) ≡ value_of x +ℤ pos (count_of x * 2147483648)
unfolding raised_of value_of count_of unshot
raised_value (pos n) f = rw (ne_eqb (n + 2147483648) 0 (λ e. omega arith)) (sym (pos-+ℤ-pos n 2147483648))
raised_value (negsuc n) f =
    let h : n < 2147483648 = f.sfits in
    by (eqb n 2147483647)
    (λ t. let q = eqb-true n 2147483647 t in let z : 2147483647 - n ≡ 0 = omega arith in rw (t, z) refl)
    (λ t. let q = eqb-false n 2147483647 t in
    let z : 2147483647 - n ≡ 2147483648 - suc n = omega arith in
    rw (t, ne_eqb (2147483647 - n) 0 (λ e. q (omega arith)), le-ltb 2147483648 (suc n) h) (ap pos z))

pub count_shot : (x : ℤ) → SFits w32 x → pos (count_of x) ≡ shot_of x
unfolding raised_of shot_of count_of unshot
count_shot (pos n) f = rw (ne_eqb (n + 2147483648) 0 (λ e. omega arith))
count_shot (negsuc n) f =
    let h : n < 2147483648 = f.sfits in
    by (eqb n 2147483647)
    (λ t. let q = eqb-true n 2147483647 t in let z : 2147483647 - n ≡ 0 = omega arith in rw (t, z) refl)
    (λ t. let q = eqb-false n 2147483647 t in rw (t, ne_eqb (2147483647 - n) 0 (λ e. q (omega arith))) refl)

pub low_most : (x : ℤ) → low_of x ≤ 65535
unfolding low_of
low_most x = omega arith

pub high_most : (x : ℤ) → SFits w32 x → high_of x ≤ 65535
unfolding high_of raised_of
high_most (pos n) f = let h : n < 2147483648 = f.sfits in omega arith
high_most (negsuc n) f = omega arith

pub count_most : (x : ℤ) → count_of x ≤ 1
unfolding count_of
count_most x = by (eqb (raised_of x) 0) (λ t. rw t (omega arith)) (λ t. rw t (omega arith))

-- ---- columns

pub none : (a : List ℤ) (at t : ℕ) → Column a at t 0 0 0 0
unfolding sum_z
none a at t = record { low_most = omega arith; high_most = omega arith; hits_most = omega arith; sums = refl; counts = refl }

-- one point more
pub point_more : (a : List ℤ) (at t k low high hits : ℕ) (x : ℤ) → x ≡ get_or a (at + k * t) (pos 0) → SFits w32 x → at + k * t < length a
    → Column a at t k low high hits → Column a at t (k + 1) (low + low_of x) (high + high_of x) (hits + count_of x)
unfolding sum_z every
point_more a at t k low high hits x e f b c = rw add-one (record {
  low_most = omega (arith, c.low_most, low_most x);
  high_most = omega (arith, c.high_most, high_most x f);
  hits_most = omega (arith, c.hits_most, count_most x);
  sums = sums;
  counts = counts;
})
  where
    v : value_of x ≡ get_or (values a) (at + k * t) (pos 0)
    v = ap value_of e ∙ sym (value_at a (at + k * t))

    s : shot_of x ≡ get_or (shots a) (at + k * t) (pos 0)
    s = ap shot_of e ∙ sym (shot_at a (at + k * t) b)

    sums : pos ((high + high_of x) * 65536 + (low + low_of x))
        ≡ (sum_z k (every (values a) at t) +ℤ get_or (values a) (at + k * t) (pos 0)) +ℤ pos ((hits + count_of x) * 2147483648)
    sums =
        let p : (high + high_of x) * 65536 + (low + low_of x) ≡ (high * 65536 + low) + raised_of x = omega (arith, halves x) in
        let q : hits * 2147483648 + count_of x * 2147483648 ≡ (hits + count_of x) * 2147483648 = omega arith in
        ap pos p
        ∙ sym (pos-+ℤ-pos (high * 65536 + low) (raised_of x))
        ∙ ap₂ ◌+ℤ◌ c.sums (raised_value x f)
        ∙ exchange (sum_z k (every (values a) at t)) (pos (hits * 2147483648)) (value_of x) (pos (count_of x * 2147483648))
        ∙ ap₂ ◌+ℤ◌ (ap (λ z. sum_z k (every (values a) at t) +ℤ z) v) (pos-+ℤ-pos (hits * 2147483648) (count_of x * 2147483648) ∙ ap pos q)

    counts : pos (hits + count_of x) ≡ sum_z k (every (shots a) at t) +ℤ get_or (shots a) (at + k * t) (pos 0)
    counts = sym (pos-+ℤ-pos hits (count_of x)) ∙ ap₂ ◌+ℤ◌ c.counts (count_shot x f ∙ s)

-- a difference of two numbers below 2^63 is signed
pub sub_fits : (a b : ℕ) → a < 9223372036854775808 → b < 9223372036854775808 → SFits w64 (pos a -ℤ pos b)
sub_fits a zero h k = record { sfits = let g : a + 0 < 9223372036854775808 = omega arith in g }
sub_fits a (suc n) h k = go (ltb a (suc n)) refl
  where
    go : (t : Bool) → ltb a (suc n) ≡ t → SFits w64 (cond t (negsuc (suc n - suc a)) (pos (a - suc n)))
    go true e = record { sfits = let g : suc n - suc a < 9223372036854775808 = omega arith in g }
    go false e = record { sfits = let g : a - suc n < 9223372036854775808 = omega arith in g }

-- what a column is written as
pub column_sum : {a : List ℤ} {at t k low high hits : ℕ} → Column a at t k low high hits → k ≤ 65536
    → pos (high * 65536 + low) -ℤ pos (hits * 2147483648) ≡ wrapped (sum_z k (every (values a) at t))
column_sum {a} {at} {t} {k} {low} {high} {hits} p b =
    let o = pos (hits * 2147483648) in
    let S = sum_z k (every (values a) at t) in
    let q : pos (high * 65536 + low) -ℤ o ≡ S = ap (λ (z : ℤ). z -ℤ o) p.sums ∙ +ℤ-neg_ℤ_cancel S o in
    let f = sub_fits (high * 65536 + low) (hits * 2147483648) (omega (arith, p.low_most, p.high_most)) (omega (arith, p.hits_most)) in
    sym (wrapped_fits _ f) ∙ ap wrapped q

pub column_count : {a : List ℤ} {at t k low high hits : ℕ} → Column a at t k low high hits → k ≤ 65536
    → pos hits ≡ wrapped (sum_z k (every (shots a) at t))
column_count {a} {at} {t} {k} {low} {high} {hits} p b =
    let f : SFits w64 (pos hits) = record { sfits = omega (arith, p.hits_most) } in
    sym (wrapped_fits _ f) ∙ ap wrapped p.counts

-- ---- one entry of a list changed

pub one_set : (l : List ℕ) (i v : ℕ) (j : ℕ) → (j ≡ i → ⊥) → get_or (set l i v) j 0 ≡ get_or l j 0
one_set l i v j ne = get_or-set_other l i j v 0 ne

pub here_set : (l : List ℕ) (i v : ℕ) → i < length l → get_or (set l i v) i 0 ≡ v
here_set l i v b = get_or-set_same l i v 0 b

-- ---- tiles

-- no row yet
pub tile_none : (w : ℕ) (a : List ℤ) (at t n : ℕ) → n ≤ w → Tile a at 1 t n 0 (replicate w 0) (replicate w 0) (replicate w 0)
tile_none w a at t n b = record {
  low_room = rw (length-replicate {A = ℕ} w 0) b;
  high_room = rw (length-replicate {A = ℕ} w 0) b;
  hits_room = rw (length-replicate {A = ℕ} w 0) b;
  columns = λ j q. (let k : j < w = omega arith in rw (get_or-replicate {A = ℕ} w j 0 0 k) (none a (at + j * 1) t));
}

-- no column yet
pub tile_empty : (a : List ℤ) (at u t k : ℕ) (l h c : List ℕ) → Tile a at u t 0 k l h c
tile_empty a at u t k l h c = record { low_room = omega arith; high_room = omega arith; hits_room = omega arith; columns = λ j q. absurd (omega arith) }

-- one column more
pub tile_more : {a : List ℤ} {at u t i k : ℕ} {l h c : List ℕ} (low high hits : ℕ) → Tile a at u t i k l h c
    → i < length l → i < length h → i < length c → Column a (at + i * u) t k low high hits
    → Tile a at u t (i + 1) k (set l i low) (set h i high) (set c i hits)
tile_more {a} {at} {u} {t} {i} {k} {l} {h} {c} low high hits p x y z new = record {
  low_room = rw (length-set l i low) (omega arith);
  high_room = rw (length-set h i high) (omega arith);
  hits_room = rw (length-set c i hits) (omega arith);
  columns = λ j b. by (eqb j i)
      (λ e. let g = eqb-true j i e in rw (g, here_set l i low x, here_set h i high y, here_set c i hits z) new)
      (λ e. let ne = eqb-false j i e in rw (one_set l i low j ne, one_set h i high j ne, one_set c i hits j ne) (p.columns j (omega (arith, ne))));
}

pub tile_sums : {a : List ℤ} {at u t n e : ℕ} {l h c : List ℕ} → Tile a at u t n e l h c → e ≤ 65536
    → (i : ℕ) → i < n → sums_of l h c i ≡ combs (values a) at u e t i
unfolding combs sums_of
tile_sums p b i q = column_sum (p.columns i q) b

pub tile_counts : {a : List ℤ} {at u t n e : ℕ} {l h c : List ℕ} → Tile a at u t n e l h c → e ≤ 65536
    → (i : ℕ) → i < n → counts_of c i ≡ combs (shots a) at u e t i
unfolding combs counts_of
tile_counts p b i q = column_count (p.columns i q) b

-- ---- rows of a tile

-- the next column, before
pub part_here : {a : List ℤ} {at t n m k i : ℕ} {l h c : List ℕ} → Part a at t n m k i l h c → i < n
    → Column a (at + i * 1) t m (get_or l i 0) (get_or h i 0) (get_or c i 0)
part_here {a} {at} {t} {n} {m} {k} {i} p q = rw (le-ltb i i (omega arith)) at (p.columns i q)

-- and after: only column i has changed
part_more : {a : List ℤ} {at t n m k i : ℕ} {l h c : List ℕ} (low high hits : ℕ) → Part a at t n m k i l h c → i < n
    → Column a (at + i * 1) t (m + k) low high hits
    → Part a at t n m k (i + 1) (set l i low) (set h i high) (set c i hits)
part_more {a} {at} {t} {n} {m} {k} {i} {l} {h} {c} low high hits p q new = record {
  low_room = rw (length-set l i low) p.low_room;
  high_room = rw (length-set h i high) p.high_room;
  hits_room = rw (length-set c i hits) p.hits_room;
  columns = λ j b. by (eqb j i) (at_i j b) (off_i j b);
}
  where
    at_i : (j : ℕ) → j < n → eqb j i ≡ true → Column a (at + j * 1) t (pick (ltb j (i + 1)) (m + k) m)
        (get_or (set l i low) j 0) (get_or (set h i high) j 0) (get_or (set c i hits) j 0)
    at_i j b e =
        let g = eqb-true j i e in
        let x : i < length l = omega (arith, p.low_room) in
        let y : i < length h = omega (arith, p.high_room) in
        let z : i < length c = omega (arith, p.hits_room) in
        rw (g, lt-ltb i (i + 1) (omega arith), here_set l i low x, here_set h i high y, here_set c i hits z) new

    off_i : (j : ℕ) → j < n → eqb j i ≡ false → Column a (at + j * 1) t (pick (ltb j (i + 1)) (m + k) m)
        (get_or (set l i low) j 0) (get_or (set h i high) j 0) (get_or (set c i hits) j 0)
    off_i j b e =
        let ne = eqb-false j i e in
        rw (one_set l i low j ne, one_set h i high j ne, one_set c i hits j ne) (by (ltb j i)
        (λ r. rw (lt-ltb j (i + 1) (let d = ltb-true j i r in omega arith)) (rw r at (p.columns j b)))
        (λ r. rw (le-ltb j (i + 1) (let d = ltb-false j i r in omega (arith, ne))) (rw r at (p.columns j b))))

-- column i with its point of row m, as the code adds it
pub row_more : {a : List ℤ} {at t n m i : ℕ} {l h c : List ℕ} (l' h' c' : List ℕ) (x : ℤ) → Part a at t n m 1 i l h c → i < n
    → x ≡ get_or a (at + m * t + i) (pos 0) → SFits w32 x → at + m * t + i < length a
    → l' ≡ set l i (get_or l i 0 + low_of x) → h' ≡ set h i (get_or h i 0 + high_of x) → c' ≡ set c i (get_or c i 0 + count_of x)
    → Part a at t n m 1 (i + 1) l' h' c'
row_more {a} {at} {t} {n} {m} {i} l' h' c' x p q e f b el eh ec =
    let z : at + m * t + i ≡ at + i * 1 + m * t = omega arith in
    let g : x ≡ get_or a (at + i * 1 + m * t) (pos 0) = e ∙ ap (λ (j : ℕ). get_or a j (pos 0)) z in
    rw (el, eh, ec) (part_more _ _ _ p q (point_more a (at + i * 1) t m _ _ _ x g f (omega arith) (part_here p q)))

-- and with its points of four rows
pub four_more : {a : List ℤ} {at t n m i : ℕ} {l h c : List ℕ} (l' h' c' : List ℕ) (w x y z : ℤ) → Part a at t n m 4 i l h c → i < n
    → w ≡ get_or a (at + m * t + i) (pos 0) → x ≡ get_or a (at + m * t + t + i) (pos 0)
    → y ≡ get_or a (at + m * t + 2 * t + i) (pos 0) → z ≡ get_or a (at + m * t + 3 * t + i) (pos 0)
    → SFits w32 w → SFits w32 x → SFits w32 y → SFits w32 z → at + m * t + 3 * t + i < length a
    → l' ≡ set l i (get_or l i 0 + low_of w + low_of x + low_of y + low_of z)
    → h' ≡ set h i (get_or h i 0 + high_of w + high_of x + high_of y + high_of z)
    → c' ≡ set c i (get_or c i 0 + count_of w + count_of x + count_of y + count_of z)
    → Part a at t n m 4 (i + 1) l' h' c'
four_more {a} {at} {t} {n} {m} {i} l' h' c' w x y z p q ew ex ey ez fw fx fy fz b el eh ec =
    let o = at + i * 1 in
    let d₁ = point_more a o t m _ _ _ w (ew ∙ place (at + m * t + i) (o + m * t) (omega arith)) fw (omega arith) (part_here p q) in
    let d₂ = point_more a o t (m + 1) _ _ _ x (ex ∙ place (at + m * t + t + i) (o + (m + 1) * t) (omega arith)) fx (omega arith) d₁ in
    let d₃ = point_more a o t (m + 1 + 1) _ _ _ y (ey ∙ place (at + m * t + 2 * t + i) (o + (m + 1 + 1) * t) (omega arith)) fy (omega arith) d₂ in
    let d₄ = point_more a o t (m + 1 + 1 + 1) _ _ _ z (ez ∙ place (at + m * t + 3 * t + i) (o + (m + 1 + 1 + 1) * t) (omega arith)) fz (omega arith) d₃ in
    let e : m + 1 + 1 + 1 + 1 ≡ m + 4 = omega arith in
    rw (el, eh, ec) (part_more _ _ _ p q (rw e at d₄))
  where
    place : (j k : ℕ) → j ≡ k → get_or a j (pos 0) ≡ get_or a k (pos 0)
    place j k e = ap (λ (j : ℕ). get_or a j (pos 0)) e
