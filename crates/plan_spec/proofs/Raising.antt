-- Which axis a raise takes, place by place from the last, and what the raise leaves.
use Prim.Native.Nat.{ℕ, zero, suc, ◌+◌, ◌-◌, ◌*◌, ◌%◌, ◌^◌, ◌≤◌, ◌<◌}
use mathlib.Core.Path.{◌≡◌, sym, ◌∙◌, refl, ap}
use mathlib.Core.Bool.{true, false, ◌&&◌}
use mathlib.Core.Option.{Option, none, some}
use mathlib.Core.List.{List, [], ◌∷◌}
use native.Mathlib.Nat.{one-mul, mod-eq_of_lt, mul-le-mul}
use lib.Pow.{pow_mono}
use native.Mathlib.Numerals.{add-one}
use native.Mathlib.Omega.{arith}
use borrow.Author.Tests.{eq-eqb, ne_eqb, leb-true, leb-false}
use lib.Dec.{leb, eqb}
use lib.ListN.{length, get_or, set, drop, drop_of_length-le}
use lib.Seq.{drop-cons}
use Rattle.std.specs.Prelude as std
use Rattle.std.specs.Prelude.{Some, None, unwrap_or, IfSome}
use Rattle.std.specs.List.{All}
use Rattle.std.proofs.lemmas.List.Elements.{All-set}
use Rattle.cube_spec.specs.Boxes.{pick, table}
use Rattle.cube_spec.proofs.Tables.{table_of}
use Rattle.cube_spec.proofs.Sums.{by}
use Rattle.cube_spec.proofs.Naturals.{both}
use Rattle.plan_spec.specs.Rule.{Entry, price, free, up_to, least, raise_at, raise_by, raise, greedy, exps}
use Rattle.plan_spec.specs.Choosing.{Raisable, raised_at, raised_by}

-- the place of the entry that a raise takes, and the number of entries where none may be raised
unfoldable pub first_at : ℕ → List Entry → ℕ
first_at t [] = 0
first_at t (e ∷ r) = pick (free e && eqb (price e) t) 0 (suc (first_at t r))

unfoldable pub chosen_by : Option ℕ → List Entry → ℕ
chosen_by none l = length l
chosen_by (some t) l = first_at t l

unfoldable pub chosen : List Entry → ℕ
chosen l = chosen_by (least l) l

-- the least cost, or the largest number of 64 bits where no axis may be raised
abbrev pub least_or : Option ℕ → ℕ
least_or none = 18446744073709551615
least_or (some y) = y

chosen_by_lem : (l : List Entry) (o : Option ℕ) → least l ≡ o → chosen l ≡ chosen_by o l
unfolding chosen
chosen_by_lem l o q = ap (λ (x : Option ℕ). chosen_by x l) q

first_here : (e : Entry) (r : List Entry) → free e ≡ true → chosen_by (some (price e)) (e ∷ r) ≡ 0
unfolding chosen_by first_at
first_here e r f = rw (f, eq-eqb (price e) (price e) refl)

module _ (e : Entry) (r : List Entry) where
  -- this axis may be raised, for no more than those after it
  pub takes : (free e && leb (price e) (least_or (least r))) ≡ true → (chosen (e ∷ r) ≡ 0) × (least_or (least (e ∷ r)) ≡ price e)
  takes h =
      let f = both (free e) (leb (price e) (least_or (least r))) h in
      let l = leb-true (price e) (least_or (least r)) f.1 in
      let m = lowest (least r) l in
      let q : least (e ∷ r) ≡ some (price e) = (unfold least in rw f.0 (ap (λ (x : ℕ). some x) m)) in
      (chosen_by_lem (e ∷ r) (some (price e)) q ∙ first_here e r f.0, ap least_or q)
    where
      lowest : (o : Option ℕ) → price e ≤ least_or o → up_to (price e) o ≡ price e
      lowest none l = refl
      lowest (some y) l = omega arith

  skipped : (o : Option ℕ) → ((t : ℕ) → o ≡ some t → (free e && eqb (price e) t) ≡ false) → chosen_by o (e ∷ r) ≡ suc (chosen_by o r)
  unfolding chosen_by first_at
  skipped none h = refl
  skipped (some t) h = rw (h t refl)

  -- it may not, or costs more
  pub passes : (free e && leb (price e) (least_or (least r))) ≡ false → price e ≤ 18446744073709551615 → (chosen (e ∷ r) ≡ suc (chosen r)) × (least_or (least (e ∷ r)) ≡ least_or (least r))
  passes h small = by (free e) dear shut
    where
      shut : free e ≡ false → (chosen (e ∷ r) ≡ suc (chosen r)) × (least_or (least (e ∷ r)) ≡ least_or (least r))
      shut f =
          let q : least (e ∷ r) ≡ least r = (unfold least in rw f) in
          (chosen_by_lem (e ∷ r) (least r) q ∙ skipped (least r) (λ t z. rw f) ∙ sym (ap suc (chosen_by_lem r (least r) refl)), ap least_or q)

      above : (o : Option ℕ) → leb (price e) (least_or o) ≡ false → (up_to (price e) o ≡ least_or o) × ((t : ℕ) → o ≡ some t → eqb (price e) t ≡ false) × (o ≡ some (least_or o))
      above none l = absurd (let z = leb-false (price e) 18446744073709551615 l in omega arith)
      above (some y) l = let z = leb-false (price e) y l in (omega arith, λ t q. ne_eqb (price e) t (λ s. (let w : y ≡ t = cc in omega arith)), refl)

      dear : free e ≡ true → (chosen (e ∷ r) ≡ suc (chosen r)) × (least_or (least (e ∷ r)) ≡ least_or (least r))
      dear f =
          let l : leb (price e) (least_or (least r)) ≡ false = (rw f at h) in
          let a = above (least r) l in
          let q : least (e ∷ r) ≡ least r = (unfold least in rw f (ap (λ (x : ℕ). some x) a.0 ∙ sym a.2)) in
          (chosen_by_lem (e ∷ r) (least r) q ∙ skipped (least r) (λ t z. rw (f, a.1 t z)) ∙ sym (ap suc (chosen_by_lem r (least r) refl)), ap least_or q)

-- no axis is left
pub chosen_none : (chosen [] ≡ 0) × (least_or (least []) ≡ 18446744073709551615)
unfolding chosen least chosen_by
chosen_none = (refl, refl)

-- ---- what a raise leaves

raise_first : (t : ℕ) (l : List Entry) → raise_at t l ≡ raised_at (first_at t l) l
unfolding raise_at first_at raised_at
raise_first t [] = refl
raise_first t (e ∷ r) = by (free e && eqb (price e) t) (λ h. rw h) (λ h. rw h (ap (λ (x : List Entry). e ∷ x) (raise_first t r)))

past : (i : ℕ) (l : List Entry) → length l ≤ i → raised_at i l ≡ l
unfolding raised_at
past i [] h = refl
past zero (e ∷ r) h = absurd (omega arith)
past (suc i) (e ∷ r) h = ap (λ (x : List Entry). e ∷ x) (past i r (omega arith))

raise_chosen : (l : List Entry) → raise l ≡ raised_at (chosen l) l
unfolding raise chosen
raise_chosen l = go (least l)
  where
    go : (o : Option ℕ) → raise_by o l ≡ raised_at (chosen_by o l) l
    go none = unfold raise_by chosen_by in sym (past (length l) l (omega arith))
    go (some t) = unfold raise_by chosen_by in raise_first t l

-- the place as code has it: a number, or none
pub raise_taken : (l : List Entry) (best : std.Option ℕ) → unwrap_or best (length l) ≡ chosen l → raised_by best l ≡ raise l
raise_taken l None e = sym (raise_chosen l ∙ ap (λ i. raised_at i l) (sym e) ∙ past (length l) l (omega arith))
raise_taken l (Some i) e = sym (raise_chosen l ∙ ap (λ i. raised_at i l) (sym e))

-- as code writes it
abbrev pub one_more : Entry → Entry
one_more e = record { weight = e.weight; len = e.len; exp = e.exp + 1 }

raised_set : (i : ℕ) (l : List Entry) (z : Entry) → i < length l → set l i (one_more (get_or l i z)) ≡ raised_at i l
unfolding raised_at
raised_set i [] z h = absurd (omega arith)
raised_set zero (e ∷ r) z h = ap (λ (k : ℕ). record { weight = e.weight; len = e.len; exp = k } ∷ r) (add-one e.exp)
raised_set (suc i) (e ∷ r) z h = ap (λ (x : List Entry). e ∷ x) (raised_set i r z (omega arith))

pub raised_length : (i : ℕ) (l : List Entry) → length (raised_at i l) ≡ length l
unfolding raised_at
raised_length i [] = refl
raised_length zero (e ∷ r) = refl
raised_length (suc i) (e ∷ r) = ap suc (raised_length i r)

-- ---- in the code's terms

pub room_free : (e : Entry) → e.exp ≤ 10 → free e ≡ leb (1 * 2 ^ (e.exp + 1) % 18446744073709551616) e.len
unfolding free
room_free e h =
    let q : 2 ^ (e.exp + 1) ≤ 2 ^ 11 = pow_mono {i = e.exp + 1} {j = 11} (omega arith) in
    let s : 1 * 2 ^ (e.exp + 1) < 18446744073709551616 = omega arith in
    rw (mod-eq_of_lt s, one-mul, add-one)

pub price_small : (e : Entry) → Raisable 10 e → price e ≤ 18446744073709551615
unfolding price
price_small e h = let q = mul-le-mul h.0 (pow_mono {i = e.exp} {j = 10} h.1) in omega arith

-- the entries from place i on, and one more before them
module _ (l : List Entry) (z : Entry) (i : ℕ) (some : 0 < i) (fits : i ≤ length l) where
  cut : drop (i - 1) l ≡ get_or l (i - 1) z ∷ drop i l
  cut = let q : i ≡ suc (i - 1) = omega arith in drop-cons l (i - 1) z (omega arith) ∙ ap (λ j. get_or l (i - 1) z ∷ drop j l) (sym q)

  pub turn_takes : (free (get_or l (i - 1) z) && leb (price (get_or l (i - 1) z)) (least_or (least (drop i l)))) ≡ true
      → (chosen (drop (i - 1) l) ≡ 0) × (price (get_or l (i - 1) z) ≡ least_or (least (drop (i - 1) l)))
  turn_takes h = let q = takes (get_or l (i - 1) z) (drop i l) h in (rw (cut, q.0), rw cut (sym q.1))

  pub turn_passes : (free (get_or l (i - 1) z) && leb (price (get_or l (i - 1) z)) (least_or (least (drop i l)))) ≡ false → price (get_or l (i - 1) z) ≤ 18446744073709551615
      → (chosen (drop (i - 1) l) ≡ suc (chosen (drop i l))) × (least_or (least (drop i l)) ≡ least_or (least (drop (i - 1) l)))
  turn_passes h small = let q = passes (get_or l (i - 1) z) (drop i l) h small in (rw (cut, q.0), rw cut (sym q.1))

pub turn_none : (l : List Entry) (i : ℕ) → length l ≤ i → (chosen (drop i l) ≡ 0) × (18446744073709551615 ≡ least_or (least (drop i l)))
turn_none l i h =
    let t : drop i l ≡ [] = drop_of_length-le l {i = i} h in
    let c = chosen_none in
    (rw (t, c.0), rw t (sym c.1))

-- ---- p raises

-- the entries after t raises, none of them over t
pub record Raised (first : List Entry) (t : ℕ) (l : List Entry) : Type 0 where
  pub entries : l ≡ greedy t first
  pub low : All (Raisable t) l

pub raised_none : (l : List Entry) → All (Raisable 0) l → Raised l 0 l
unfolding greedy
raised_none l h = record { entries = refl; low = h }

module _ {first l : List Entry} {t : ℕ} (ok : Raised first t l) where
  next : (l' : List Entry) → l' ≡ raise l → l' ≡ greedy (t + 1) first
  next l' e = e ∙ ap raise ok.entries ∙ (let z : t + 1 ≡ suc t = omega arith in rw z (unfold greedy in refl))

  higher : All (Raisable (t + 1)) l
  higher i z h = let q = ok.low i z h in (q.0, omega arith)

  -- none may be raised
  pub raised_same : l ≡ raise l → Raised first (t + 1) l
  raised_same e = record { entries = next l e; low = higher }

  pub raised_next : (i : ℕ) (z : Entry) → i < length l → raised_at i l ≡ raise l → Raised first (t + 1) (set l i (one_more (get_or l i z)))
  raised_next i z h e =
      record {
        entries = next (set l i (one_more (get_or l i z))) (raised_set i l z h ∙ e);
        low = let q = ok.low i z h in All-set (Raisable (t + 1)) l i (one_more (get_or l i z)) (q.0, omega arith) higher;
      }

-- the exponents of the entries, place by place
exps_length : (l : List Entry) → length (exps l) ≡ length l
unfolding exps
exps_length [] = refl
exps_length (e ∷ r) = ap suc (exps_length r)

exps_at : (l : List Entry) (z : Entry) (j : ℕ) → j < length l → get_or (exps l) j 0 ≡ (get_or l j z).exp
unfolding exps
exps_at [] z j h = absurd (omega arith)
exps_at (e ∷ r) z zero h = refl
exps_at (e ∷ r) z (suc j) h = exps_at r z j (omega arith)

pub exps_table : (l : List Entry) (z : Entry) → exps l ≡ table (length l) (λ i. (get_or l i z).exp)
exps_table l z = table_of (length l) (λ i. (get_or l i z).exp) (exps l) 0 (exps_length l) (exps_at l z)
