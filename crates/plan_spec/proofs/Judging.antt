-- Laws for the loops that judge lengths and plans. Each loop compares what is left of a list with the whole.
use Prim.Native.Nat.{ℕ, zero, suc, ◌+◌, ◌-◌, ◌*◌, ◌/◌, ◌^◌, ◌≤◌, ◌<◌}
use mathlib.Core.Path.{◌≡◌, sym, ◌∙◌, refl, ap}
use mathlib.Core.Bool.{Bool, true, false, ◌||◌, not}
use mathlib.Core.List.{List, [], ◌∷◌}
use native.Mathlib.Nat.{mul-one, one-mul, mul_assoc, mul-le-mul, mul-le-mul_left}
use native.Mathlib.Numerals.{add-one}
use native.Mathlib.Omega.{arith}
use borrow.Author.Tests.{eqb-true, eqb-false, eq-eqb, ne_eqb, ltb-false, lt-ltb, le-ltb, le-leb, lt-leb, leb-true}
use lib.Dec.{eqb, ltb, leb}
use lib.ListN.{length, get_or, take, drop, drop_of_length-le}
use lib.Seq.{drop-cons, get_or-take, length-take-le}
use Rattle.cube_spec.specs.Limits.{axis_limit, length_limit, point_limit, power_limit}
use Rattle.cube_spec.specs.Boxes.{product}
use Rattle.cube_spec.specs.Choices.{length_of, points}
use Rattle.cube_spec.specs.Ways.{sum_list, halvings, log2}
use Rattle.cube_spec.specs.Checks.{Check, check, first}
use Rattle.cube_spec.proofs.Sums.{by}
use Rattle.cube_spec.proofs.Naturals.{clash}
use Rattle.cube_spec.proofs.Products.{product_pos, product_next, product_none}
use Rattle.plan_spec.specs.declared.types.Plan.{Plan}
use Rattle.plan_spec.specs.Plans.{lists_of}
use Rattle.plan_spec.specs.Refusals.{all, some, bad_axes, bad_length, too_many_points, too_many_boards, names_each, slots_used, bad_order, bad_exponents, length_checks, plan_checks, plan_refusal}

-- ---- tests over a list, and over the numbers below n

pub some_false : (f : ℕ → Bool) (l : List ℕ) → some f l ≡ false → (i : ℕ) → i < length l → f (get_or l i 0) ≡ false
unfolding some
some_false f [] e i h = absurd (omega arith)
some_false f (x ∷ l) e zero h = by (f x) (λ t. clash (rw t at e)) (λ t. t)
some_false f (x ∷ l) e (suc i) h = some_false f l (by (f x) (λ t. clash (rw t at e)) (λ t. rw t at e)) i (omega arith)

pub some_none : (f : ℕ → Bool) (l : List ℕ) → ((i : ℕ) → i < length l → f (get_or l i 0) ≡ false) → some f l ≡ false
unfolding some
some_none f [] h = refl
some_none f (x ∷ l) h = rw (h 0 (omega arith)) (some_none f l (λ i r. h (suc i) (omega arith)))

pub all_true : (f : ℕ → Bool) (n : ℕ) → all n f ≡ true → (d : ℕ) → d < n → f d ≡ true
unfolding all
all_true f zero e d h = absurd (omega arith)
all_true f (suc n) e d h =
    by (all n f)
    (λ t.
    let z : f n ≡ true = rw t at e in
    by (eqb d n) (λ s. rw (eqb-true d n s) z) (λ s. let ne = eqb-false d n s in all_true f n t d (omega (arith, ne))))
    (λ t. clash (sym (rw t at e)))

pub all_each : (f : ℕ → Bool) (n : ℕ) → ((d : ℕ) → d < n → f d ≡ true) → all n f ≡ true
unfolding all
all_each f zero h = refl
all_each f (suc n) h = rw (all_each f n (λ d r. h d (omega arith)), h n (omega arith))

pub all_same : (f g : ℕ → Bool) (n : ℕ) → ((d : ℕ) → d < n → f d ≡ g d) → all n f ≡ all n g
unfolding all
all_same f g zero h = refl
all_same f g (suc n) h = rw (all_same f g n (λ d r. h d (omega arith)), h n (omega arith))

pub all_fails : (f : ℕ → Bool) (n d : ℕ) → d < n → f d ≡ false → all n f ≡ false
all_fails f n d h t = by (all n f) (λ s. clash (sym (all_true f n s d h) ∙ t)) (λ s. s)

pub or_true : (a : Bool) → (a || true) ≡ true
or_true true = refl
or_true false = refl

-- ---- slots past the last axis

pub slots_hit : (l : List ℕ) (d : ℕ) → d < length l → (get_or l d 0 ≡ 0 → ⊥) → slots_used d l ≡ true
unfolding slots_used some
slots_hit l d h ne = rw (drop-cons l d 0 h, ne_eqb (get_or l d 0) 0 ne)

pub slots_miss : (l : List ℕ) (d : ℕ) → d < length l → get_or l d 0 ≡ 0 → slots_used d l ≡ slots_used (d + 1) l
unfolding slots_used some
slots_miss l d h e = rw (drop-cons l d 0 h, eq-eqb (get_or l d 0) 0 e, add-one)

pub slots_end : (l : List ℕ) (d : ℕ) → length l ≤ d → slots_used d l ≡ false
unfolding slots_used some
slots_end l d h = rw (drop_of_length-le l {i = d} h)

-- ---- the first n of eight slots

module _ (l : List ℕ) (n : ℕ) (eight : length l ≡ 8) (few : n ≤ 8) where
  pub first_length : length (take n l) ≡ n
  first_length = length-take-le n l (omega arith)

  -- what is left from place i on
  pub left_next : (i : ℕ) → i < n → drop i (take n l) ≡ get_or l i 0 ∷ drop (i + 1) (take n l)
  left_next i h =
      let q = first_length in
      rw (add-one, ← get_or-take n l i 0 h) (drop-cons (take n l) i 0 (omega arith))

  pub left_none : (i : ℕ) → n ≤ i → drop i (take n l) ≡ []
  left_none i h = let q = first_length in drop_of_length-le (take n l) {i = i} (omega arith)

  pub some_hit : (f : ℕ → Bool) (i : ℕ) → i < n → f (get_or l i 0) ≡ true → some f (drop i (take n l)) ≡ true
  unfolding some
  some_hit f i h t = rw (left_next i h, t)

  pub some_miss : (f : ℕ → Bool) (i : ℕ) → i < n → f (get_or l i 0) ≡ false → some f (drop i (take n l)) ≡ some f (drop (i + 1) (take n l))
  unfolding some
  some_miss f i h t = rw (left_next i h, t)

  pub some_end : (f : ℕ → Bool) (i : ℕ) → n ≤ i → some f (drop i (take n l)) ≡ false
  unfolding some
  some_end f i h = rw (left_none i h)

-- ---- lengths

pub good_length : (x : ℕ) → 1 ≤ x → x ≤ length_limit → bad_length x ≡ false
unfolding bad_length
good_length x h k = rw (ne_eqb x 0 (λ e. omega arith), le-ltb 65535 x k)

pub length_good : (x : ℕ) → bad_length x ≡ false → (1 ≤ x) × (x ≤ length_limit)
unfolding bad_length
length_good x e =
    by (eqb x 0)
    (λ t. clash (rw t at e))
    (λ t. let ne = eqb-false x 0 t in let z : ltb 65535 x ≡ false = rw t at e in let q = ltb-false 65535 x z in (omega (arith, ne), omega arith))

module _ (l : List ℕ) (good : some bad_length l ≡ false) where
  pub slot_good : (i : ℕ) → i < length l → (1 ≤ length_of l i) × (length_of l i ≤ length_limit)
  slot_good i h = length_good (length_of l i) (some_false bad_length l good i h)

  -- what is left to multiply from place i on
  abbrev pub factors : ℕ → ℕ
  factors i = product (length_of l) (length l - i) i

  factors_pos : (i : ℕ) → 0 < factors i
  factors_pos i = product_pos (length_of l) (length l - i) i (λ j a b. (slot_good j (omega arith)).0)

  pub points_start : 1 * factors 0 ≡ points l
  unfolding points
  points_start = let z : length l - 0 ≡ length l = omega arith in rw (one-mul, z)

  module _ (c i : ℕ) (h : i < length l) (small : c ≤ point_limit) (e : c * factors i ≡ points l) where
    pub points_next : c * length_of l i * factors (i + 1) ≡ points l
    points_next = rw (product_next (length_of l) (length l) i h, ← mul_assoc) at e

    -- a product that has passed the limit stays past it
    pub points_past : point_limit < c * length_of l i → too_many_points l ≡ true
    unfolding too_many_points
    points_past g =
        let p = mul-le-mul_left (c * length_of l i) (factors_pos (i + 1)) in
        let q = mul-one (c * length_of l i) in
        let r = points_next in
        lt-ltb 16777216 (points l) (omega arith)

    pub points_fit : c * length_of l i < 18446744073709551616
    points_fit = let q = mul-le-mul small (slot_good i h).1 in omega arith

  pub points_end : (c i : ℕ) → length l ≤ i → c ≤ point_limit → c * factors i ≡ points l → too_many_points l ≡ false
  unfolding too_many_points
  points_end c i h small e = let q : c ≡ points l = (rw (product_none (length_of l) (length l) i h, mul-one) at e) in le-ltb 16777216 (points l) (omega arith)

-- ---- floor(log2 d)

-- more fuel changes nothing
halvings_same : (f g d : ℕ) → d ≤ f → d ≤ g → halvings f d ≡ halvings g d
unfolding halvings
halvings_same zero zero d h k = refl
halvings_same zero (suc g) d h k = rw (lt-leb 2 d (omega arith))
halvings_same (suc f) zero d h k = rw (lt-leb 2 d (omega arith))
halvings_same (suc f) (suc g) d h k = by (leb 2 d) (λ t. rw t (ap suc (halvings_same f g (d / 2) (let q = leb-true 2 d t in omega arith) (let q = leb-true 2 d t in omega arith)))) (λ t. rw t)

pub log2_next : (d : ℕ) → 1 < d → log2 d ≡ 1 + log2 (d / 2)
unfolding log2
log2_next zero h = absurd (omega arith)
log2_next (suc d) h = unfold halvings in rw (le-leb 2 (suc d) h) (ap suc (halvings_same d (suc d / 2) (suc d / 2) (omega arith) (omega arith)) ∙ (omega arith))

pub log2_none : (d : ℕ) → d ≤ 1 → log2 d ≡ 0
unfolding log2 halvings
log2_none zero h = refl
log2_none (suc d) h = rw (lt-leb 2 (suc d) (omega arith))

-- ---- a plan

pub bad_none : (n : ℕ) → n ≡ 0 → bad_axes n ≡ true
unfolding bad_axes
bad_none n h = rw (eq-eqb n 0 h)

pub bad_many : (n : ℕ) → axis_limit < n → bad_axes n ≡ true
unfolding bad_axes
bad_many n h = rw (lt-ltb 8 n h) (or_true (eqb n 0))

pub good_axes : (n : ℕ) → 1 ≤ n → n ≤ axis_limit → bad_axes n ≡ false
unfolding bad_axes
good_axes n h k = rw (ne_eqb n 0 (λ e. omega arith), le-ltb 8 n k)

-- the checks of lengths before others: the first number is theirs, where they have one
two_due : (s t : Bool) (r : List Check) → (first (check 4 s ∷ check 5 t ∷ []) ≡ 0 → ⊥) → first (check 4 s ∷ check 5 t ∷ r) ≡ first (check 4 s ∷ check 5 t ∷ [])
unfolding first
two_due true t r h = refl
two_due false true r h = refl
two_due false false r h = absurd (h refl)

two_none : (s t : Bool) (r : List Check) → first (check 4 s ∷ check 5 t ∷ []) ≡ 0 → first (check 4 s ∷ check 5 t ∷ r) ≡ first r
unfolding first
two_none true t r h = absurd (omega arith)
two_none false true r h = absurd (omega arith)
two_none false false r h = refl

pub skip : (n : ℕ) (t : Bool) (r : List Check) → t ≡ false → first (check n t ∷ r) ≡ first r
unfolding first
skip n t r h = rw h

module _ (q : Plan) where
  pub plan_3 : bad_axes q.axes ≡ true → plan_refusal q ≡ 3
  unfolding plan_refusal plan_checks length_checks first
  plan_3 h = rw h

  abbrev bad_slot : Bool
  bad_slot = some bad_length (take q.axes q.lengths)

  abbrev too_many : Bool
  too_many = too_many_points (take q.axes q.lengths)

  -- what is judged after the lengths
  abbrev pub later : List Check
  later = check 6 (too_many_boards q.p) ∷ check 8 (bad_order q) ∷ check 9 (bad_exponents (lists_of q)) ∷ []

  pub plan_list : plan_refusal q ≡ first (check 3 (bad_axes q.axes) ∷ check 4 bad_slot ∷ check 5 too_many ∷ later)
  unfolding plan_refusal plan_checks length_checks lists_of
  plan_list = refl

  pub plan_lengths : bad_axes q.axes ≡ false → (first (check 4 bad_slot ∷ check 5 too_many ∷ []) ≡ 0 → ⊥) → plan_refusal q ≡ first (check 4 bad_slot ∷ check 5 too_many ∷ [])
  plan_lengths axes h = plan_list ∙ skip 3 (bad_axes q.axes) (check 4 bad_slot ∷ check 5 too_many ∷ later) axes ∙ two_due bad_slot too_many later h

  pub plan_later : bad_axes q.axes ≡ false → first (check 4 bad_slot ∷ check 5 too_many ∷ []) ≡ 0 → plan_refusal q ≡ first later
  plan_later axes h = plan_list ∙ skip 3 (bad_axes q.axes) (check 4 bad_slot ∷ check 5 too_many ∷ later) axes ∙ two_none bad_slot too_many later h

  pub bad_order_lem : bad_order q ≡ (not (names_each q.axes (take q.axes q.order)) || (slots_used q.axes q.lengths || (slots_used q.axes q.order || slots_used q.axes q.exponents)))
  unfolding bad_order lists_of
  bad_order_lem = refl

  pub bad_exponents_lem : length q.lengths ≡ 8 → q.axes ≤ 8 → bad_exponents (lists_of q) ≡ (not (all q.axes (λ d. leb (2 ^ get_or (take q.axes q.exponents) d 0) (length_of (take q.axes q.lengths) d))) || not (eqb (sum_list (take q.axes q.exponents)) q.p))
  unfolding bad_exponents lists_of
  bad_exponents_lem e h = rw (first_length q.lengths q.axes e h)

pub few_boards : (p : ℕ) → p ≤ power_limit → too_many_boards p ≡ false
unfolding too_many_boards
few_boards p h = le-ltb 10 p h

pub many_boards : (p : ℕ) → power_limit < p → too_many_boards p ≡ true
unfolding too_many_boards
many_boards p h = lt-ltb 10 p h
