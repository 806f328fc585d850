-- Laws of lists in slots: zeros stand past the last element.
use Prim.Native.Nat.{ℕ, ◌+◌, ◌-◌, ◌≤◌, ◌<◌}
use mathlib.Core.Path.{◌≡◌, sym, ◌∙◌, ap}
use mathlib.Core.List.{List, ◌++◌}
use native.Mathlib.Nat.{zero-add}
use native.Mathlib.Omega.{arith}
use native.Mathlib.Decide.{dec_lt}
use borrow.Author.Tests.{eqb-true, eqb-false}
use lib.Dec.{eqb}
use lib.ListN.{length, get_or, take, drop, set, replicate, length-append, length-take, length-drop, length-set, length-replicate, get_or-replicate, get_or-append, get_or-eq_default}
use lib.Seq.{ext_get_or, get_or-take, get_or-drop, get_or-append-add, get_or-set_same, get_or-set_other, length-take-le}
use Rattle.cube_spec.specs.Limits.{axis_limit, padded}
use Rattle.cube_spec.specs.Boxes.{table_from, table}
use Rattle.cube_spec.proofs.Sums.{by}
use Rattle.cube_spec.proofs.Tables.{table_length, table_at}

-- of any values: a spare one stands past the last element
module _ {A : Type 0} (z : A) where
  abbrev pub spaced : List A → List A
  spaced l = take axis_limit (l ++ replicate axis_limit z)

  spaced_length : (l : List A) → length (spaced l) ≡ axis_limit
  spaced_length l = simp (length-take, length-append, length-replicate) (omega arith)

  spaced_at : (l : List A) (j : ℕ) → j < axis_limit → get_or (spaced l) j z ≡ get_or l j z
  spaced_at l j h = get_or-take axis_limit (l ++ replicate axis_limit z) j z h ∙ go (dec_lt j (length l))
    where
      go : Dec (j < length l) → get_or (l ++ replicate axis_limit z) j z ≡ get_or l j z
      go (yes q) = get_or-append l (replicate axis_limit z) z j q
      go (no q) =
          let e : length l + (j - length l) ≡ j = omega (arith, q) in
          let y : get_or {A = A} (replicate axis_limit z) (j - length l) z ≡ z = get_or-replicate axis_limit (j - length l) z z (omega arith) in
          ap (λ k. get_or (l ++ replicate axis_limit z) k z) (sym e) ∙ get_or-append-add l (replicate axis_limit z) (j - length l) z ∙ y ∙ sym (get_or-eq_default l z (omega (arith, q)))

  spaced_of : (l m : List A) → length m ≡ axis_limit → ((j : ℕ) → j < axis_limit → get_or m j z ≡ get_or l j z) → m ≡ spaced l
  spaced_of l m e h = ext_get_or z m (spaced l) (e ∙ sym (spaced_length l)) (λ j k. h j (omega arith) ∙ sym (spaced_at l j (omega arith)))

  -- past the table all are spare
  table_or_spare : (n : ℕ) (f : ℕ → A) (j : ℕ) → n ≤ j → get_or (table n f) j z ≡ z
  table_or_spare n f j h = get_or-eq_default (table_from n 0 f) z (let q = table_length n 0 f in omega arith)

  table_there : (n : ℕ) (f : ℕ → A) (j : ℕ) → j < n → get_or (table n f) j z ≡ f j
  table_there n f j h = table_at n 0 f j z h ∙ ap f (zero-add j)

  -- one slot more is filled
  pub spaced_next : (i : ℕ) (f : ℕ → A) → i < axis_limit → set (spaced (table i f)) i (f i) ≡ spaced (table (i + 1) f)
  spaced_next i f h = spaced_of (table (i + 1) f) (set (spaced (table i f)) i (f i)) (length-set (spaced (table i f)) i (f i) ∙ spaced_length (table i f)) one
    where
      one : (j : ℕ) → j < axis_limit → get_or (set (spaced (table i f)) i (f i)) j z ≡ get_or (table (i + 1) f) j z
      one j k =
          by (eqb j i)
          (λ t.
          let e = eqb-true j i t in
          rw e (get_or-set_same (spaced (table i f)) i (f i) z (let q = spaced_length (table i f) in omega arith) ∙ sym (table_there (i + 1) f i (omega arith))))
          (λ t.
          let ne = eqb-false j i t in
          get_or-set_other (spaced (table i f)) i j (f i) z ne ∙ spaced_at (table i f) j k ∙ same ne (dec_lt j i))
        where
          same : (j ≡ i → ⊥) → Dec (j < i) → get_or (table i f) j z ≡ get_or (table (i + 1) f) j z
          same ne (yes q) = table_there i f j q ∙ sym (table_there (i + 1) f j (omega arith))
          same ne (no q) = table_or_spare i f j (omega (arith, q)) ∙ sym (table_or_spare (i + 1) f j (omega (arith, q, ne)))

  -- a table out of the slots again
  pub spaced_table : (n i : ℕ) (f : ℕ → A) (r : List A) → n ≤ axis_limit → i ≡ n → r ≡ spaced (table i f) → take n r ≡ table n f
  spaced_table n i f r few e s =
      let t = table_length n 0 f in
      let k = spaced_length (table n f) in
      let size = length-take-le n (spaced (table n f)) (omega arith) in
      ap (take n) (s ∙ ap (λ k. spaced (table k f)) e)
      ∙ ext_get_or z (take n (spaced (table n f))) (table n f) (size ∙ sym t) (λ j h. get_or-take n (spaced (table n f)) j z (omega arith) ∙ spaced_at (table n f) j (omega arith))

-- ---- numbers, with zeros past the last

pub padded_length : (l : List ℕ) → length (padded l) ≡ axis_limit
unfolding padded
padded_length l = spaced_length 0 l

pub padded_at : (l : List ℕ) (j : ℕ) → j < axis_limit → get_or (padded l) j 0 ≡ get_or l j 0
unfolding padded
padded_at l j h = spaced_at 0 l j h

-- a list in slots is one that has its elements there
pub padded_of : (l m : List ℕ) → length m ≡ axis_limit → ((j : ℕ) → j < axis_limit → get_or m j 0 ≡ get_or l j 0) → m ≡ padded l
unfolding padded
padded_of l m e h = spaced_of 0 l m e h

-- past the table all is 0
pub table_or_zero : (n : ℕ) (f : ℕ → ℕ) (j : ℕ) → n ≤ j → get_or (table n f) j 0 ≡ 0
table_or_zero n f j h = table_or_spare 0 n f j h

pub table_here : (n : ℕ) (f : ℕ → ℕ) (j : ℕ) → j < n → get_or (table n f) j 0 ≡ f j
table_here n f j h = table_there 0 n f j h

-- a table in slots: eight of them, each that of the table where it has one
pub table_slots : (n : ℕ) (f : ℕ → ℕ) (r : List ℕ) → n ≤ axis_limit → r ≡ padded (table n f) → (length r ≡ axis_limit) × ((d : ℕ) → d < n → get_or r d 0 ≡ f d)
table_slots n f r few e =
    (ap length e ∙ padded_length (table n f), λ d h. ap (λ l. get_or l d 0) e ∙ padded_at (table n f) d (omega arith) ∙ table_here n f d h)

-- and back: zeros from n on
pub slots_table : (n : ℕ) (f : ℕ → ℕ) (r : List ℕ) → length r ≡ axis_limit
    → ((d : ℕ) → d < n → get_or r d 0 ≡ f d) → ((d : ℕ) → n ≤ d → get_or r d 0 ≡ 0) → r ≡ padded (table n f)
slots_table n f r e here past = padded_of (table n f) r e (λ j k. go j (dec_lt j n))
  where
    go : (j : ℕ) → Dec (j < n) → get_or r j 0 ≡ get_or (table n f) j 0
    go j (yes q) = here j q ∙ sym (table_here n f j q)
    go j (no q) = past j (omega (arith, q)) ∙ sym (table_or_zero n f j (omega (arith, q)))

-- one slot more is filled
pub padded_next : (i : ℕ) (f : ℕ → ℕ) → i < axis_limit → set (padded (table i f)) i (f i) ≡ padded (table (i + 1) f)
unfolding padded
padded_next i f h = spaced_next 0 i f h

-- the elements, and then the slots that are left
pub padded_rest : (l : List ℕ) → length l ≤ axis_limit → l ++ drop (length l) (replicate axis_limit 0) ≡ padded l
padded_rest l h = padded_of l (l ++ drop (length l) (replicate axis_limit 0)) whole one
  where
    whole : length (l ++ drop (length l) (replicate {A = ℕ} axis_limit 0)) ≡ axis_limit
    whole = simp (length-append, length-drop, length-replicate) (omega arith)

    one : (j : ℕ) → j < axis_limit → get_or (l ++ drop (length l) (replicate axis_limit 0)) j 0 ≡ get_or l j 0
    one j k = go (dec_lt j (length l))
      where
        go : Dec (j < length l) → get_or (l ++ drop (length l) (replicate axis_limit 0)) j 0 ≡ get_or l j 0
        go (yes q) = get_or-append l (drop (length l) (replicate axis_limit 0)) 0 j q
        go (no q) =
            let s : length l + (j - length l) ≡ j = omega (arith, q) in
            ap (λ i. get_or (l ++ drop (length l) (replicate axis_limit 0)) i 0) (sym s)
            ∙ get_or-append-add l (drop (length l) (replicate axis_limit 0)) (j - length l) 0
            ∙ get_or-drop (length l) (replicate axis_limit 0) (j - length l) 0
            ∙ ap (λ i. get_or (replicate axis_limit 0) i 0) s
            ∙ get_or-replicate axis_limit j 0 0 k
            ∙ sym (get_or-eq_default l 0 (omega (arith, q)))

-- all of a list, element by element
pub padded_all : (l : List ℕ) (n : ℕ) → length l ≡ n → padded (table n (λ i. get_or l i 0)) ≡ padded l
padded_all l n e = padded_of l (padded (table n (λ i. get_or l i 0))) (padded_length _) one
  where
    one : (j : ℕ) → j < axis_limit → get_or (padded (table n (λ i. get_or l i 0))) j 0 ≡ get_or l j 0
    one j k = padded_at (table n (λ i. get_or l i 0)) j k ∙ go (dec_lt j n)
      where
        go : Dec (j < n) → get_or (table n (λ i. get_or l i 0)) j 0 ≡ get_or l j 0
        go (yes q) = table_here n (λ i. get_or l i 0) j q
        go (no q) = table_or_zero n (λ i. get_or l i 0) j (omega (arith, q)) ∙ sym (get_or-eq_default l 0 (omega (arith, q)))

-- the elements out of the slots again
pub padded_take : (l : List ℕ) (c : ℕ) → length l ≡ c → c ≤ axis_limit → take c (padded l) ≡ l
padded_take l c e h =
    ext_get_or 0 (take c (padded l)) l (length-take-le c (padded l) (let q = padded_length l in omega arith) ∙ sym e) (λ j k. let q = length-take-le c (padded l) (let q = padded_length l in omega arith) in get_or-take c (padded l) j 0 (omega arith) ∙ padded_at l j (omega arith))

-- a list that is one longer takes the place of another in its slots
pub padded_tail : (l m : List ℕ) (c : ℕ) → length l ≡ c → length m ≡ c + 1 → c + 1 ≤ axis_limit → m ++ drop (c + 1) (padded l) ≡ padded m
padded_tail l m c e f h = padded_of m (m ++ drop (c + 1) (padded l)) whole one
  where
    whole : length (m ++ drop (c + 1) (padded l)) ≡ axis_limit
    whole = let q = padded_length l in simp (length-append, length-drop) (omega arith)

    one : (j : ℕ) → j < axis_limit → get_or (m ++ drop (c + 1) (padded l)) j 0 ≡ get_or m j 0
    one j k = go (dec_lt j (length m))
      where
        go : Dec (j < length m) → get_or (m ++ drop (c + 1) (padded l)) j 0 ≡ get_or m j 0
        go (yes q) = get_or-append m (drop (c + 1) (padded l)) 0 j q
        go (no q) =
            let s : length m + (j - length m) ≡ j = omega (arith, q) in
            let t : c + 1 + (j - length m) ≡ j = omega (arith, q) in
            ap (λ k. get_or (m ++ drop (c + 1) (padded l)) k 0) (sym s) ∙ get_or-append-add m (drop (c + 1) (padded l)) (j - length m) 0 ∙ get_or-drop (c + 1) (padded l) (j - length m) 0 ∙ ap (λ k. get_or (padded l) k 0) t ∙ padded_at l j k ∙ get_or-eq_default l 0 (omega (arith, q)) ∙ sym (get_or-eq_default m 0 (omega (arith, q)))
