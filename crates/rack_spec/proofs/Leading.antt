-- The leads of a choice in ascending number are those of rank 0, 1, ..; so the transfer at a position is the one that the code finds.
use Prim.Native.Nat.{ℕ, zero, suc, ◌+◌, ◌-◌, ◌*◌, ◌/◌, ◌%◌, ◌≤◌, ◌<◌}
use mathlib.Core.Path.{◌≡◌, sym, ◌∙◌, refl, ap, ap₂}
use mathlib.Core.Bool.{Bool, true, false, ◌&&◌, ◌||◌, not}
use mathlib.Core.Option.{some}
use mathlib.Core.List.{List, [], ◌∷◌, ◌++◌, append_assoc, append-nil}
use native.Mathlib.Nat.{zero-add, add-zero, add-suc, one-mul, mul-one, zero-mul, suc-mul, div-one, mod-one, mod-lt}
use native.Mathlib.Omega.{arith}
use borrow.Author.Tests.{eqb-true, eqb-false, eq-eqb, ne_eqb, ltb-true, ltb-false}
use lib.Dec.{eqb, ltb}
use lib.ListN.{length, length-append, get_elem?}
use Rattle.cube_spec.specs.Boxes.{pick, product, place, position}
use Rattle.cube_spec.specs.Tree.{has, kept, last_of}
use Rattle.cube_spec.proofs.Sums.{by}
use Rattle.cube_spec.proofs.Naturals.{both}
use Rattle.cube_spec.proofs.Boxing.{row_of, rest_of, place_cong}
use Rattle.cube_spec.proofs.Sets.{Down, down_lt, kept_has, kept_out}
use Rattle.rack_spec.specs.Grids.{Grid, Lawful, boards, board_with, with_label, label, lead, cells}
use Rattle.rack_spec.specs.Steps.{TreeStep, transfer, each, sends, transfers}
use Rattle.rack_spec.specs.Finding.{leads, lead_label, lead_at, found}
use Rattle.rack_spec.proofs.Moving.{lead_each, lead_none}
use Rattle.rack_spec.proofs.Found.{factor_some}

-- ---- the step at a position of two lists joined, in the first and past it

pub inside : (l k : List TreeStep) (at : ℕ) → at < length l → get_elem? (l ++ k) at ≡ get_elem? l at
inside [] k at h = absurd (omega arith)
inside (x ∷ l) k zero h = refl
inside (x ∷ l) k (suc at) h = inside l k at (omega arith)

pub past : (l k : List TreeStep) (at : ℕ) → length l ≤ at → get_elem? (l ++ k) at ≡ get_elem? k (at - length l)
past [] k at h = let e : at - 0 ≡ at = omega arith in rw e refl
past (x ∷ l) k zero h = absurd (omega arith)
past (x ∷ l) k (suc at) h = let e : suc at - suc (length l) ≡ at - length l = omega arith in rw e (past l k at (omega arith))

-- ---- lists made piece by piece

each_same : (n : ℕ) {f h : ℕ → List TreeStep} → ((i : ℕ) → i < n → f i ≡ h i) → each n f ≡ each n h
unfolding each
each_same zero e = refl
each_same (suc n) e = ap₂ ◌++◌ (each_same n (λ i l. e i (omega arith))) (e n (omega arith))

each_empty : (n : ℕ) {f : ℕ → List TreeStep} → ((i : ℕ) → i < n → f i ≡ []) → each n f ≡ []
unfolding each
each_empty zero e = refl
each_empty (suc n) e = ap₂ ◌++◌ (each_empty n (λ i l. e i (omega arith))) (e n (omega arith))

each_add : (n k : ℕ) (f : ℕ → List TreeStep) → each (n + k) f ≡ each n f ++ each k (λ i. f (n + i))
unfolding each
each_add n zero f = rw add-zero (sym (append-nil (each n f)))
each_add n (suc k) f =
    rw add-suc (ap (λ (l : List TreeStep). l ++ f (n + k)) (each_add n k f) ∙ append_assoc (each n f) (each k (λ i. f (n + i))) (f (n + k)))

-- the first piece by itself
each_first : (n : ℕ) (f : ℕ → List TreeStep) → each (suc n) f ≡ f 0 ++ each n (λ i. f (suc i))
unfolding each
each_first zero f = sym (append-nil (f 0))
each_first (suc n) f = ap (λ (l : List TreeStep). l ++ f (suc n)) (each_first n f) ∙ append_assoc (f 0) (each n (λ i. f (suc i))) (f (suc n))

-- n · k pieces are n rows of k
each_rows : (n k : ℕ) (f : ℕ → List TreeStep) → each (n * k) f ≡ each n (λ i. each k (λ j. f (i * k + j)))
unfolding each
each_rows zero k f = rw zero-mul
each_rows (suc n) k f = rw suc-mul (each_add (n * k) k f ∙ ap (λ (l : List TreeStep). l ++ each k (λ j. f (n * k + j))) (each_rows n k f))

-- pieces of one length
module _ (f : ℕ → List TreeStep) (c : ℕ) where
  each_length : (n : ℕ) → ((i : ℕ) → i < n → length (f i) ≡ c) → length (each n f) ≡ n * c
  unfolding each
  each_length zero h = sym (zero-mul c)
  each_length (suc n) h = rw (length-append, suc-mul) (ap₂ ◌+◌ (each_length n (λ i q. h i (omega arith))) (h n (omega arith)))

  each_at : (n : ℕ) → ((i : ℕ) → i < n → length (f i) ≡ c) → (at : ℕ) → at < n * c → get_elem? (each n f) at ≡ get_elem? (f (at / c)) (at % c)
  unfolding each
  each_at zero h at q = absurd (let z = zero-mul c in omega arith)
  each_at (suc n) h at q =
      let whole = each_length n (λ i r. h i (omega arith)) in
      let more = suc-mul n c in
      by (ltb at (n * c))
      (λ t. let s : at < n * c = omega (arith, ltb-true) in inside (each n f) (f n) at (rw whole s) ∙ each_at n (λ i r. h i (omega arith)) at s)
      (λ t.
      let s : n * c ≤ at = omega (arith, ltb-false) in
      let r : at - n * c < c = omega arith in
      let e : n * c + (at - n * c) ≡ at = omega arith in
      let d : at / c ≡ n = ap (λ (i : ℕ). i / c) (sym e) ∙ row_of n r in
      let m : at % c ≡ at - n * c = ap (λ (i : ℕ). i % c) (sym e) ∙ rest_of n r in
      past (each n f) (f n) at (rw whole s) ∙ rw (whole, d, m) refl)

-- ---- leads, cut at an axis

module _ (g : Grid) (Y : List ℕ) where
  -- of m axes from d on: is label 0 on each summed one, and the board of a rank
  lead_from : ℕ → ℕ → ℕ → Bool
  lead_from zero d c = true
  lead_from (suc m) d c = (not (has Y d) || eqb (c / product g.parts m (d + 1)) 0) && lead_from m (d + 1) (c % product g.parts m (d + 1))

  spread : ℕ → ℕ → ℕ → ℕ
  spread zero d r = 0
  spread (suc m) d r =
      r / product (kept Y g.parts) m (d + 1) * product g.parts m (d + 1) + spread m (d + 1) (r % product (kept Y g.parts) m (d + 1))

  -- what is done for each lead is done for each rank
  Listed : ℕ → ℕ → Type 0
  Listed m d = (f : ℕ → List TreeStep) → each (product g.parts m d) (λ b. pick (lead_from m d b) (f b) []) ≡ each (product (kept Y g.parts) m d) (λ r. f (spread m d r))

  -- the boards whose first label is l, and the ranks
  boards_row : (m d l : ℕ) → Listed m (d + 1) → (f : ℕ → List TreeStep) → (not (has Y d) || eqb l 0) ≡ true → each (product g.parts m (d + 1)) (λ b. pick (lead_from (suc m) d (l * product g.parts m (d + 1) + b)) (f (l * product g.parts m (d + 1) + b)) []) ≡ each (product (kept Y g.parts) m (d + 1)) (λ r. f (l * product g.parts m (d + 1) + spread m (d + 1) r))
  unfolding lead_from Listed
  boards_row m d l ih f t =
      each_same (product g.parts m (d + 1)) (λ b h. rw (row_of l h, rest_of l h, t) refl) ∙ ih (λ b. f (l * product g.parts m (d + 1) + b))

  other_row : (m d l : ℕ) (f : ℕ → List TreeStep) → (not (has Y d) || eqb l 0) ≡ false → each (product g.parts m (d + 1)) (λ b. pick (lead_from (suc m) d (l * product g.parts m (d + 1) + b)) (f (l * product g.parts m (d + 1) + b)) []) ≡ []
  unfolding lead_from
  other_row m d l f t = each_empty (product g.parts m (d + 1)) (λ b h. rw (row_of l h, rest_of l h, t) refl)

  ranks_row : (m d l : ℕ) (f : ℕ → List TreeStep) → each (product (kept Y g.parts) m (d + 1)) (λ r. f (spread (suc m) d (l * product (kept Y g.parts) m (d + 1) + r))) ≡ each (product (kept Y g.parts) m (d + 1)) (λ r. f (l * product g.parts m (d + 1) + spread m (d + 1) r))
  unfolding spread
  ranks_row m d l f = each_same (product (kept Y g.parts) m (d + 1)) (λ r h. rw (row_of l h, rest_of l h) refl)

  module _ (m d : ℕ) (ih : Listed m (d + 1)) where
    -- a kept axis: any label
    listed_kept : has Y d ≡ false → Listed (suc m) d
    unfolding Listed product
    listed_kept t f =
        each_rows (g.parts d) (product g.parts m (d + 1)) _
        ∙ each_same (g.parts d) (λ l h. boards_row m d l ih f (rw t refl) ∙ sym (ranks_row m d l f))
        ∙ sym (each_rows (g.parts d) (product (kept Y g.parts) m (d + 1)) (λ r. f (spread (suc m) d r)))
        ∙ ap (λ (k : ℕ). each (k * product (kept Y g.parts) m (d + 1)) (λ r. f (spread (suc m) d r))) (sym (kept_out g.parts Y d t))

    -- a summed axis: label 0 alone
    listed_summed : 0 < g.parts d → has Y d ≡ true → Listed (suc m) d
    unfolding Listed product
    listed_summed one t f =
        let p : g.parts d ≡ suc (g.parts d - 1) = omega arith in
        each_rows (g.parts d) (product g.parts m (d + 1)) _
        ∙ ap (λ (k : ℕ). each k (λ l. each (product g.parts m (d + 1)) (λ b. pick (lead_from (suc m) d (l * product g.parts m (d + 1) + b)) (f (l * product g.parts m (d + 1) + b)) []))) p
        ∙ each_first (g.parts d - 1) _
        ∙ ap₂ ◌++◌ (boards_row m d 0 ih f (rw (t, eq-eqb 0 0 refl) refl) ∙ sym (ranks_row m d 0 f)) (each_empty (g.parts d - 1) (λ l h. other_row m d (suc l) f (rw (t, ne_eqb (suc l) 0 (λ z. omega arith)) refl)))
        ∙ append-nil _
        ∙ each_same (product (kept Y g.parts) m (d + 1)) (λ r h. ap (λ (x : ℕ). f (spread (suc m) d x)) (ap (λ (x : ℕ). x + r) (zero-mul (product (kept Y g.parts) m (d + 1))) ∙ zero-add r))
        ∙ ap (λ (k : ℕ). each k (λ r. f (spread (suc m) d r))) (sym (one-mul (product (kept Y g.parts) m (d + 1))) ∙ ap (λ (k : ℕ). k * product (kept Y g.parts) m (d + 1)) (sym (kept_has g.parts Y d t)))

  listed : Lawful g → (m d : ℕ) → d + m ≡ g.axes → Listed m d
  unfolding Listed product each lead_from spread
  listed ok zero d e f = refl
  listed ok (suc m) d e f =
      by (has Y d)
      (λ t. listed_summed m d (listed ok m (d + 1) (omega arith)) (ok.some d (omega arith)) t f)
      (λ t. listed_kept m d (listed ok m (d + 1) (omega arith)) t f)

  -- ---- the same by labels

  position_first : (e : ℕ → ℕ) (m d c : ℕ) → position e (suc m) d c d ≡ c / product e m (d + 1)
  unfolding position
  position_first e m d c = rw (eq-eqb d d refl) refl

  position_later : (e : ℕ → ℕ) (m d c i : ℕ) → d + 1 ≤ i → position e (suc m) d c i ≡ position e m (d + 1) (c % product e m (d + 1)) i
  unfolding position
  position_later e m d c i h = rw (ne_eqb i d (λ z. omega arith)) refl

  zeros_lead : (m d c : ℕ) → ((i : ℕ) → d ≤ i → i < d + m → has Y i ≡ true → position g.parts m d c i ≡ 0) → lead_from m d c ≡ true
  unfolding lead_from
  zeros_lead zero d c h = refl
  zeros_lead (suc m) d c h =
      let rest = zeros_lead m (d + 1) (c % product g.parts m (d + 1)) (λ i l r t. sym (position_later g.parts m d c i l) ∙ h i (omega arith) (omega arith) t) in
      by (has Y d)
      (λ t. let z = sym (position_first g.parts m d c) ∙ h d (omega arith) (omega arith) t in rw (t, eq-eqb _ 0 z, rest) refl)
      (λ t. rw (t, rest) refl)

  lead_zeros : (m d c i : ℕ) → lead_from m d c ≡ true → d ≤ i → i < d + m → has Y i ≡ true → position g.parts m d c i ≡ 0
  unfolding lead_from
  lead_zeros zero d c i t l r s = absurd (omega arith)
  lead_zeros (suc m) d c i t l r s =
      let b = both (not (has Y d) || eqb (c / product g.parts m (d + 1)) 0) _ t in
      by (eqb i d)
      (λ e.
      let q = eqb-true i d e in
      let z : eqb (c / product g.parts m (d + 1)) 0 ≡ true = (rw (ap (has Y) (sym q) ∙ s) at b.0) in
      rw q (position_first g.parts m d c ∙ eqb-true _ 0 z))
      (λ e.
      let ne = eqb-false i d e in
      position_later g.parts m d c i (omega (arith, ne)) ∙ lead_zeros m (d + 1) (c % product g.parts m (d + 1)) i b.1 (omega (arith, ne)) (omega arith) s)

  lead_same : Lawful g → Down Y g.axes → (b : ℕ) → lead g Y b ≡ lead_from g.axes 0 b
  lead_same ok h b =
      by (lead g Y b)
      (λ t. t ∙ sym (zeros_lead g.axes 0 b (λ i l r s. zero_label i (lead_each g ok Y b i t s))))
      (λ t. t ∙ sym (by (lead_from g.axes 0 b)
      (λ u.
      let w = lead_none g ok Y b t in
      let z = down_lt Y g.axes w.0 h w.1 in
      absurd (w.2 (label_zero w.0 (lead_zeros g.axes 0 b w.0 u (omega arith) (omega arith) w.1))))
      (λ u. u)))
    where
      zero_label : (i : ℕ) → label g b i ≡ 0 → position g.parts g.axes 0 b i ≡ 0
      zero_label i e = unfold label in e

      label_zero : (i : ℕ) → position g.parts g.axes 0 b i ≡ 0 → label g b i ≡ 0
      label_zero i e = unfold label in e

  spread_place : (m d r : ℕ) → place g.parts (position (kept Y g.parts) m d r) m d ≡ spread m d r
  unfolding place spread
  spread_place zero d r = refl
  spread_place (suc m) d r =
      ap₂ (λ (x y : ℕ). x * product g.parts m (d + 1) + y) (position_first (kept Y g.parts) m d r)
      (place_cong m (d + 1) (λ i l u. refl) (λ i l u. position_later (kept Y g.parts) m d r i l) ∙ spread_place m (d + 1) (r % product (kept Y g.parts) m (d + 1)))

  lead_spread : (r : ℕ) → spread g.axes 0 r ≡ lead_at g Y r
  unfolding lead_at board_with lead_label
  lead_spread r = sym (spread_place g.axes 0 r)

  -- THE LEADS BY RANK.
  pub leads_listed : Lawful g → Down Y g.axes → (f : ℕ → List TreeStep) → each (boards g) (λ b. pick (lead g Y b) (f b) []) ≡ each (leads g Y) (λ r. f (lead_at g Y r))
  unfolding boards leads
  leads_listed ok h f =
      each_same (product g.parts g.axes 0) (λ b l. ap (λ t. pick t (f b) []) (lead_same ok h b))
      ∙ whole (listed ok g.axes 0 (zero-add g.axes))
      ∙ each_same (product (kept Y g.parts) g.axes 0) (λ r l. ap f (lead_spread r))
    where
      whole : Listed g.axes 0 → each (product g.parts g.axes 0) (λ b. pick (lead_from g.axes 0 b) (f b) []) ≡ each (product (kept Y g.parts) g.axes 0) (λ r. f (spread g.axes 0 r))
      whole p = unfold Listed in p f

-- ---- the transfers of a choice

module _ (g : Grid) (ok : Lawful g) (Y : List ℕ) (h : Down Y g.axes) where
  by_rank : transfers g Y (boards g) ≡ each (leads g Y) (λ r. sends g Y (lead_at g Y r) (g.parts (last_of Y) - 1))
  unfolding transfers
  by_rank = leads_listed g Y ok h (λ b. sends g Y b (g.parts (last_of Y) - 1))

  sends_length : (b : ℕ) → length (sends g Y b (g.parts (last_of Y) - 1)) ≡ g.parts (last_of Y) - 1
  unfolding sends
  sends_length b = each_length _ 1 (g.parts (last_of Y) - 1) (λ i l. refl) ∙ mul-one _

  pub transfers_count : length (transfers g Y (boards g)) ≡ leads g Y * (g.parts (last_of Y) - 1)
  transfers_count = ap length by_rank ∙ each_length _ (g.parts (last_of Y) - 1) (leads g Y) (λ r l. sends_length (lead_at g Y r))

  sends_at : (b at : ℕ) → at < g.parts (last_of Y) - 1 → get_elem? (sends g Y b (g.parts (last_of Y) - 1)) at ≡ some (transfer Y (with_label g b (last_of Y) (suc at)) b (cells g Y (with_label g b (last_of Y) (suc at))))
  unfolding sends
  sends_at b at l = each_at _ 1 (g.parts (last_of Y) - 1) (λ i l. refl) at (omega arith) ∙ rw (div-one, mod-one) refl

  -- THE TRANSFER AT A POSITION.
  pub transfers_at : (at : ℕ) → at < leads g Y * (g.parts (last_of Y) - 1) → get_elem? (transfers g Y (boards g)) at ≡ some (found g Y at)
  unfolding found
  transfers_at at l =
      let n = g.parts (last_of Y) - 1 in
      ap (λ (s : List TreeStep). get_elem? s at) by_rank
      ∙ each_at (λ r. sends g Y (lead_at g Y r) (g.parts (last_of Y) - 1)) (g.parts (last_of Y) - 1) (leads g Y) (λ r u. sends_length (lead_at g Y r)) at l
      ∙ sends_at (lead_at g Y (at / (g.parts (last_of Y) - 1))) (at % (g.parts (last_of Y) - 1)) (mod-lt at (factor_some (leads g Y) (g.parts (last_of Y) - 1) at l))
