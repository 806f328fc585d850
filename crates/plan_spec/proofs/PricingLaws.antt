-- Laws of pricing: the recursion over undecided axes gives the sums over every set, and stays far below 2^64.
use Prim.Native.Nat.{ℕ, zero, suc, ◌+◌, ◌-◌, ◌*◌, ◌/◌, ◌%◌, ◌^◌, ◌≤◌, ◌<◌, min}
use mathlib.Core.Path.{◌≡◌, sym, ◌∙◌, refl, ap, ap₂}
use mathlib.Core.List.{List, [], ◌∷◌, ◌++◌}
use native.Mathlib.Nat.{one-mul, mul-one, mul_assoc, mul_right_comm, mul-le-mul, mul-le-mul_left, mul-le-mul_right, le_trans, mod-eq_of_lt, div-le_of_le-mul, le-div_iff_mul-le, div-lt_iff_lt-mul, pow-succ', sub-zero}
use native.Mathlib.Numerals.{add-one}
use native.Mathlib.Omega.{arith}
use borrow.Author.Tests.{eqb-true, eqb-false}
use lib.Dec.{eqb, leb}
use lib.ListN.{length, get_or, take, replicate}
use lib.Pow.{pow_pos, pow_mono}
use lib.Seq.{get_or-take}
use Rattle.std.proofs.lemmas.Grind.{div_ceil_times}
use Rattle.cube_spec.specs.Limits.{axis_limit, point_limit, power_limit, padded}
use Rattle.cube_spec.specs.Boxes.{pick, sum_n, product, table_from, table}
use Rattle.cube_spec.specs.Choices.{points, length_of}
use Rattle.cube_spec.specs.Portions.{ceiling}
use Rattle.cube_spec.specs.Tree as Tree
use Rattle.cube_spec.specs.Tree.{has, kept, choice_cells, sent, region_size, region_start, share_size}
use Rattle.cube_spec.specs.Ways.{sum_list}
use Rattle.cube_spec.specs.Checks.{gives, refuses, answered}
use Rattle.cube_spec.proofs.Sums.{by}
use Rattle.cube_spec.proofs.Boxing.{product_cong}
use Rattle.cube_spec.proofs.Naturals.{sum_n_cong, impossible}
use Rattle.cube_spec.proofs.Products.{product_pos, product_le, factor_le, product_next, product_none}
use Rattle.cube_spec.proofs.Slots.{padded_take, table_here}
use Rattle.cube_spec.proofs.Tables.{table_length}
use Rattle.cube_spec.proofs.Sets.{has_head, kept_has, kept_out, kept_other}
use Rattle.cube_spec.proofs.Axes.{axis, tree, moved_tree, added_tree}
use Rattle.plan_spec.specs.declared.types.Plan.{Plan}
use Rattle.plan_spec.specs.Plans as Plans
use Rattle.plan_spec.specs.Plans.{length_at, exponent_at, most_at, lists_of}
use Rattle.plan_spec.specs.Accepted.{Accepted}
use Rattle.plan_spec.specs.Answers.{prices_of, never_rise, fewest_added}
use Rattle.plan_spec.specs.Pricing.{moved_from, added_from, most_of, Priceable, Undecided}
use Rattle.plan_spec.proofs.Orders.{order_below, product_order}
use Rattle.plan_spec.proofs.Judging.{all_same}

-- ---- powers of two

-- as a shift of w values gives them
pub shift_in : (w k : ℕ) → 1024 < w → k ≤ power_limit → (1 * 2 ^ k) % w ≡ 2 ^ k
shift_in w k g h =
    let l : 2 ^ k ≤ 2 ^ 10 = pow_mono h in
    let m : 2 ^ k < w = omega arith in
    rw (one-mul, mod-eq_of_lt m)

pub shifted : (k : ℕ) → k ≤ power_limit → (1 * 2 ^ k) % 18446744073709551616 ≡ 2 ^ k
shifted k h = shift_in 18446744073709551616 k (omega arith) h

pub power_small : (k : ℕ) → k ≤ power_limit → (1 ≤ 2 ^ k) × (2 ^ k ≤ 1024)
power_small k h = (pow_pos k, pow_mono {j = 10} h)

pub sent_small : (k : ℕ) → k ≤ power_limit → sent k < 1024
unfolding sent
sent_small k h = let q = power_small k h in omega arith

pub sent_fits : (c r : ℕ) → c ≤ point_limit → r < 1024 → c * r < 18446744073709551616
sent_fits c r h k = let q = mul-le-mul {n₁ = c} {m₁ = r} {n₂ = point_limit} {m₂ = 1024} h (omega arith) in omega arith

-- ---- a turn of the recursion

module _ (L E : List ℕ) (n i : ℕ) (h : i < n) where
  pub moved_next : (k c : ℕ) → moved_from L E (n - i) i k c ≡ moved_from L E (n - (i + 1)) (i + 1) k (c * length_of L i) + moved_from L E (n - (i + 1)) (i + 1) (get_or E i 0) c
  unfolding moved_from
  moved_next k c = let q : n - i ≡ suc (n - (i + 1)) = omega arith in rw q

  pub added_next : (c q : ℕ) → added_from L (n - i) i c q ≡ added_from L (n - (i + 1)) (i + 1) (c * length_of L i) (q * length_of L i) + added_from L (n - (i + 1)) (i + 1) c (c * length_of L i)
  unfolding added_from
  added_next c q = let z : n - i ≡ suc (n - (i + 1)) = omega arith in rw z

  -- kept and summed together
  module _ (k c q x y : ℕ) where
    pub moved_both : x ≡ moved_from L E (n - (i + 1)) (i + 1) k (c * length_of L i) → y ≡ moved_from L E (n - (i + 1)) (i + 1) (get_or E i 0) c → x + y ≡ moved_from L E (n - i) i k c
    moved_both e f = rw (e, f) (sym (moved_next k c))

    pub added_both : x ≡ added_from L (n - (i + 1)) (i + 1) (c * length_of L i) (q * length_of L i) → y ≡ added_from L (n - (i + 1)) (i + 1) c (c * length_of L i) → x + y ≡ added_from L (n - i) i c q
    added_both e f = rw (e, f) (sym (added_next c q))

module _ (L E : List ℕ) (n i : ℕ) (h : i ≡ n) where
  pub moved_end : (k c r : ℕ) → r ≡ sent k → c * r ≡ moved_from L E (n - i) i k c
  unfolding moved_from
  moved_end k c r e = let q : n - i ≡ 0 = omega arith in rw (q, e)

  pub added_end : (c q : ℕ) → q ≡ added_from L (n - i) i c q
  unfolding added_from
  added_end c q = let z : n - i ≡ 0 = omega arith in rw z

-- ---- bounds

-- a factor that is at least 1 only makes a product larger
shrink : (c l r : ℕ) → 1 ≤ l → c * r ≤ c * (l * r)
shrink c l r h = let q = mul-le-mul_right r h in let p = one-mul r in mul-le-mul_left c (omega arith)

moved_bound : (L E : List ℕ) (m i k c B : ℕ) → k ≤ power_limit → ((j : ℕ) → j < i + m → get_or E j 0 ≤ power_limit) → ((j : ℕ) → j < i + m → 1 ≤ length_of L j) → c * product (length_of L) m i ≤ B → moved_from L E m i k c ≤ 2 ^ m * (B * 1024)
unfolding moved_from product
moved_bound L E zero i k c B h hs ls b =
    let s = sent_small k h in
    let q = mul-le-mul {n₁ = c} {m₁ = sent k} {n₂ = B} {m₂ = 1024} (omega arith) (omega arith) in
    omega arith
moved_bound L E (suc m) i k c B h hs ls b =
    let l = length_of L i in
    let r = product (length_of L) m (i + 1) in
    let s = shrink c l r (ls i (omega arith)) in
    let a = moved_bound L E m (i + 1) k (c * l) B h (λ j q. hs j (omega arith)) (λ j q. ls j (omega arith)) (rw mul_assoc b) in
    let d = moved_bound L E m (i + 1) (get_or E i 0) c B (hs i (omega arith)) (λ j q. hs j (omega arith)) (λ j q. ls j (omega arith)) (omega arith) in
    let p = pow-succ' 2 m in
    rw p (omega arith)

added_bound : (L : List ℕ) (m i c q B : ℕ) → ((j : ℕ) → j < i + m → 1 ≤ length_of L j) → c * product (length_of L) m i ≤ B → q * product (length_of L) m i ≤ B → added_from L m i c q ≤ 2 ^ m * B
unfolding added_from product
added_bound L zero i c q B ls b d = omega arith
added_bound L (suc m) i c q B ls b d =
    let l = length_of L i in
    let r = product (length_of L) m (i + 1) in
    let s = shrink c l r (ls i (omega arith)) in
    let x = added_bound L m (i + 1) (c * l) (q * l) B (λ j q. ls j (omega arith)) (rw mul_assoc b) (rw mul_assoc d) in
    let y = added_bound L m (i + 1) c (c * l) B (λ j q. ls j (omega arith)) (omega arith) (rw mul_assoc b) in
    let p = pow-succ' 2 m in
    rw p (omega arith)

module _ (L E : List ℕ) (n : ℕ) (ok : Priceable L E n) where
  rest_pos : (i : ℕ) → 0 < product (length_of L) (n - i) i
  rest_pos i = product_pos (length_of L) (n - i) i (λ j a b. ok.some j (omega arith))

  pub length_small : (i : ℕ) → i < n → length_of L i ≤ point_limit
  length_small i h = le_trans (factor_le (length_of L) n 0 i (λ j a b. ok.some j (omega arith)) (omega arith) (omega arith)) ok.small

  -- a number times what is left is at least the number
  small_factor : (x i : ℕ) → x * product (length_of L) (n - i) i ≤ point_limit → x ≤ point_limit
  small_factor x i h = let q = mul-le-mul_left x (rest_pos i) in let p = mul-one x in omega arith

  pub undecided : Undecided L E n 0 0 1 0
  undecided = record { axes = ok; within = omega arith; last = omega arith; cells = rw (sub-zero, one-mul) ok.small; parent = omega arith }

module _ {L E : List ℕ} {n i k c q : ℕ} (ok : Undecided L E n i k c q) where
  pub cells_small : c ≤ point_limit
  cells_small = small_factor L E n ok.axes c i ok.cells

  pub moved_small : moved_from L E (n - i) i k c ≤ 2 ^ 42
  moved_small =
      let w = ok.within in
      let f = ok.axes.few in
      let b = moved_bound L E (n - i) i k c point_limit ok.last (λ j r. ok.axes.cut j (omega arith)) (λ j r. ok.axes.some j (omega arith)) ok.cells in
      let p : 2 ^ (n - i) ≤ 2 ^ 8 = pow_mono {j = 8} (omega arith) in
      omega arith

  pub added_small : added_from L (n - i) i c q ≤ 2 ^ 42
  added_small =
      let w = ok.within in
      let f = ok.axes.few in
      let b = added_bound L (n - i) i c q point_limit (λ j r. ok.axes.some j (omega arith)) ok.cells ok.parent in
      let p : 2 ^ (n - i) ≤ 2 ^ 8 = pow_mono {j = 8} (omega arith) in
      omega arith

  module _ (h : i < n) where
    cells_next : c * length_of L i * product (length_of L) (n - (i + 1)) (i + 1) ≤ point_limit
    cells_next = rw (product_next (length_of L) n i h, ← mul_assoc) at ok.cells

    parent_next : q * length_of L i * product (length_of L) (n - (i + 1)) (i + 1) ≤ point_limit
    parent_next = rw (product_next (length_of L) n i h, ← mul_assoc) at ok.parent

    pub more_small : c * length_of L i ≤ point_limit
    more_small = small_factor L E n ok.axes (c * length_of L i) (i + 1) cells_next

    pub parent_small : q * length_of L i ≤ point_limit
    parent_small = small_factor L E n ok.axes (q * length_of L i) (i + 1) parent_next

    pub cells_le : c ≤ c * length_of L i
    cells_le = let q = mul-le-mul_left c (ok.axes.some i h) in let p = mul-one c in omega arith

    -- the axis kept: cells and parent grow by at most its length; and summed: the cells so far are the parent's
    pub kept_undecided : (k' c' q' : ℕ) → k' ≤ power_limit → c' ≤ c * length_of L i → q' ≤ q * length_of L i → Undecided L E n (i + 1) k' c' q'
    kept_undecided k' c' q' a b d =
        let r = product (length_of L) (n - (i + 1)) (i + 1) in
        record { axes = ok.axes; within = omega arith; last = a; cells = le_trans (mul-le-mul_right r b) cells_next; parent = le_trans (mul-le-mul_right r d) parent_next }

    pub summed_undecided : (k' c' q' : ℕ) → k' ≤ power_limit → c' ≤ c * length_of L i → q' ≤ c * length_of L i → Undecided L E n (i + 1) k' c' q'
    summed_undecided k' c' q' a b d =
        let r = product (length_of L) (n - (i + 1)) (i + 1) in
        record { axes = ok.axes; within = omega arith; last = a; cells = le_trans (mul-le-mul_right r b) cells_next; parent = le_trans (mul-le-mul_right r d) cells_next }

-- ---- the sums over every set of summed axes

module _ (L E : List ℕ) (n : ℕ) (len exp : ℕ → ℕ) (lens : (d : ℕ) → d < n → length_of L d ≡ len d) (exps : (d : ℕ) → d < n → get_or E d 0 ≡ exp d) where
  moved_from_lem : (m d k c : ℕ) → d + m ≡ n → moved_from L E m d k c ≡ tree sent k c (table_from m d (axis len exp))
  unfolding moved_from tree table_from
  moved_from_lem zero d k c e = refl
  moved_from_lem (suc m) d k c e =
      rw (← lens d (omega arith), ← exps d (omega arith)) (ap₂ ◌+◌ (moved_from_lem m (d + 1) k (c * length_of L d) (omega arith)) (moved_from_lem m (d + 1) (get_or E d 0) c (omega arith)))

  pub moved_same : moved_from L E n 0 0 1 ≡ Tree.moved n len exp
  moved_same = moved_from_lem n 0 0 1 (omega arith) ∙ sym (moved_tree n len exp)

  -- the parent's cells are the choice's times the length of the last axis summed, its key
  added_from_lem : (m d k c q : ℕ) → d + m ≡ n → q ≡ c * k → added_from L m d c q ≡ tree (λ k. k) k c (table_from m d (axis len len))
  unfolding added_from tree table_from
  added_from_lem zero d k c q e f = f
  added_from_lem (suc m) d k c q e f =
      rw (← lens d (omega arith)) (ap₂ ◌+◌ (added_from_lem m (d + 1) k (c * length_of L d) (q * length_of L d) (omega arith) (rw f (mul_right_comm c k (length_of L d)))) (added_from_lem m (d + 1) (length_of L d) c (c * length_of L d) (omega arith) refl))

  pub added_same : added_from L n 0 1 0 ≡ Tree.added n len
  added_same = added_from_lem n 0 0 1 0 (omega arith) refl ∙ sym (added_tree n len)

-- ---- A

-- the library's division that rounds up
pub ceiling_divides : (D m : ℕ) → 0 < m → D / m + min 1 (D % m) ≡ ceiling D m
unfolding ceiling
ceiling_divides D m h =
    let b = div_ceil_times D m h in
    let l = (le-div_iff_mul-le {k = m} {x = D / m + min 1 (D % m)} {y = D + (m - 1)} h).1 (omega arith) in
    let r = (div-lt_iff_lt-mul {k = m} {x = D + (m - 1)} {y = D / m + min 1 (D % m) + 1} h).1 (omega arith) in
    omega arith

ceiling_le : (D m : ℕ) → 1 ≤ D → 1 ≤ m → ceiling D m ≤ D
unfolding ceiling
ceiling_le zero m h k = absurd (omega arith)
ceiling_le (suc D) zero h k = absurd (omega arith)
ceiling_le (suc D) (suc m) h k = div-le_of_le-mul (suc m) {m = suc D + (suc m - 1)} {n = suc D} (omega arith)

ceiling_pos : (D m : ℕ) → 1 ≤ D → 1 ≤ m → 0 < ceiling D m
unfolding ceiling
ceiling_pos D m h k = (le-div_iff_mul-le {k = m} {x = 1} {y = D + (m - 1)} k).1 (omega arith)

module _ (L E : List ℕ) (n : ℕ) (ok : Priceable L E n) where
  most_le : (d : ℕ) → d < n → most_of L E d ≤ length_of L d
  unfolding most_of
  most_le d h = ceiling_le (length_of L d) (2 ^ get_or E d 0) (ok.some d h) (pow_pos (get_or E d 0))

  most_pos : (d : ℕ) → d < n → 0 < most_of L E d
  unfolding most_of
  most_pos d h = ceiling_pos (length_of L d) (2 ^ get_or E d 0) (ok.some d h) (pow_pos (get_or E d 0))

  module _ (i : ℕ) where
    -- the factors of region i
    abbrev pub factor : ℕ → ℕ
    factor d = kept (i ∷ []) (most_of L E) d

    factor_other : (d : ℕ) → (d ≡ i → ⊥) → factor d ≡ most_of L E d
    unfolding has
    factor_other d ne = kept_other (most_of L E) i d [] ne ∙ kept_out (most_of L E) [] d refl

    factor_same : factor i ≡ 1
    factor_same = kept_has (most_of L E) (i ∷ []) i (has_head i [])

    factor_le_length : (d : ℕ) → d < n → factor d ≤ length_of L d
    factor_le_length d h =
        by (eqb d i)
        (λ t. let e = eqb-true d i t in let f = factor_same in let s = ok.some d h in rw e (let s : 1 ≤ length_of L i = (rw e at s) in omega arith))
        (λ t. rw (factor_other d (eqb-false d i t)) (most_le d h))

    factor_pos : (d : ℕ) → d < n → 0 < factor d
    factor_pos d h =
        by (eqb d i)
        (λ t. rw (eqb-true d i t, factor_same) (omega arith))
        (λ t. rw (factor_other d (eqb-false d i t)) (most_pos d h))

    pub region_small : region_size n (most_of L E) i ≤ point_limit
    unfolding region_size choice_cells
    region_small = le_trans (product_le factor (length_of L) n 0 (λ d a b. factor_le_length d (omega arith))) ok.small

    -- a region's size as a product that goes on axis by axis
    pub region_start_lem : 1 * product factor (n - 0) 0 ≡ region_size n (most_of L E) i
    unfolding region_size choice_cells
    region_start_lem = rw (sub-zero, one-mul)

    pub region_end : (d size : ℕ) → n ≤ d → size * product factor (n - d) d ≡ region_size n (most_of L E) i → size ≡ region_size n (most_of L E) i
    region_end d size h e = rw (product_none factor n d h, mul-one) at e

    module _ (d size : ℕ) (h : d < n) (e : size * product factor (n - d) d ≡ region_size n (most_of L E) i) where
      pub region_other : (d ≡ i → ⊥) → size * most_of L E d * product factor (n - (d + 1)) (d + 1) ≡ region_size n (most_of L E) i
      region_other ne = rw (product_next factor n d h, factor_other d ne, ← mul_assoc) at e

      pub region_same : d ≡ i → size * product factor (n - (d + 1)) (d + 1) ≡ region_size n (most_of L E) i
      region_same z = let f : factor d ≡ 1 = rw z factor_same in rw (product_next factor n d h, f, one-mul) at e

      -- so far the product is at most the region
      pub region_fits : (d ≡ i → ⊥) → size * most_of L E d ≤ point_limit
      region_fits ne =
          let r = region_other ne in
          let s = region_small in
          let p = mul-le-mul_left (size * most_of L E d) (product_pos factor (n - (d + 1)) (d + 1) (λ j a b. factor_pos j (omega arith))) in
          let q = mul-one (size * most_of L E d) in
          omega arith

pub share_next : (n i : ℕ) (most : ℕ → ℕ) → region_start n most (i + 1) ≡ region_start n most i + region_size n most i
unfolding region_start sum_n
share_next n i most = rw add-one

pub share_none : (n : ℕ) (most : ℕ → ℕ) → region_start n most 0 ≡ 0
unfolding region_start sum_n
share_none n most = refl

pub share_end : (n i : ℕ) (most : ℕ → ℕ) → i ≤ n → n ≤ i → region_start n most i ≡ share_size n most
unfolding share_size
share_end n i most h k = let e : i ≡ n = omega arith in rw e

-- the sizes below n alone matter
pub starts_cong : (n k : ℕ) (most most' : ℕ → ℕ) → ((d : ℕ) → d < n → most d ≡ most' d) → region_start n most k ≡ region_start n most' k
unfolding region_start region_size choice_cells kept
starts_cong n k most most' same = sum_n_cong k (λ i h. product_cong n 0 (λ d a b. ap (λ x. pick (has (i ∷ []) d) 1 x) (same d (omega arith))))

-- ---- a plan along its order

pub sum_member : (l : List ℕ) (d : ℕ) → get_or l d 0 ≤ sum_list l
unfolding sum_list
sum_member [] d = omega arith
sum_member (x ∷ l) zero = omega arith
sum_member (x ∷ l) (suc d) = let q = sum_member l d in omega arith

pub few_axes : {q : Plan} → Accepted q → q.axes ≤ 8
few_axes ok = let e = ok.axes in let f = ok.lengths.few in omega arith

module _ (q : Plan) (ok : Accepted q) where
  below : (d : ℕ) → d < q.axes → get_or (take q.axes q.order) d 0 < q.axes
  unfolding lists_of
  below d h = let e = ok.axes in let b = order_below (lists_of q) ok.sound d (omega arith) in omega arith

  order_length : length (take q.axes q.order) ≡ q.axes
  unfolding lists_of
  order_length = ok.sound.places ∙ ok.axes

  -- the axis at place d is one of the slots
  pub order_fits : (length (take q.axes q.order) ≤ axis_limit) × ((d : ℕ) → d < length (take q.axes q.order) → get_or (take q.axes q.order) d 0 < axis_limit)
  unfolding lists_of
  order_fits =
      let n = order_length in
      let f = few_axes ok in
      (omega arith, λ d h. let b = below d (omega arith) in omega arith)

  -- what stands in slots along the order, as far as the order goes
  abbrev pub Along : List ℕ → List ℕ → Type 0
  Along slots r = r ≡ take axis_limit (table (length (take q.axes q.order)) (λ d. get_or slots (get_or (take q.axes q.order) d 0) 0) ++ replicate axis_limit 0)

  module _ (slots r : List ℕ) (along : Along slots r) where
    along_table : take q.axes r ≡ table q.axes (λ d. get_or slots (get_or (take q.axes q.order) d 0) 0)
    unfolding padded
    along_table =
        ap (take q.axes) along
        ∙ ap (λ n. take q.axes (padded (table n (λ d. get_or slots (get_or (take q.axes q.order) d 0) 0)))) order_length
        ∙ padded_take (table q.axes (λ d. get_or slots (get_or (take q.axes q.order) d 0) 0)) q.axes (table_length q.axes 0 _) (few_axes ok)

    pub along_length : length (take q.axes r) ≡ q.axes
    along_length = ap length along_table ∙ table_length q.axes 0 _

    pub along_at : (d : ℕ) → d < q.axes → get_or (take q.axes r) d 0 ≡ get_or slots (get_or q.order d 0) 0
    along_at d h =
        ap (λ l. get_or l d 0) along_table
        ∙ table_here q.axes (λ d. get_or slots (get_or (take q.axes q.order) d 0) 0) d h
        ∙ ap (λ a. get_or slots a 0) (get_or-take q.axes q.order d 0 h)

  -- what the axis at place d has in its slot
  pub along : (slots : List ℕ) (d : ℕ) → d < q.axes → get_or slots (get_or q.order d 0) 0 ≡ get_or (take q.axes slots) (get_or (take q.axes q.order) d 0) 0
  along slots d h =
      let b = below d h in
      sym (get_or-take q.axes slots (get_or (take q.axes q.order) d 0) 0 b ∙ ap (λ a. get_or slots a 0) (get_or-take q.axes q.order d 0 h))

  -- lengths along the order rise where those of the plan do
  pub fewest_same : (L : List ℕ) → ((d : ℕ) → d < q.axes → get_or L d 0 ≡ get_or q.lengths (get_or q.order d 0) 0)
      → never_rise q.axes (length_of L) ≡ fewest_added (lists_of q)
  unfolding never_rise fewest_added lists_of
  fewest_same L lens =
      let e = ok.axes in
      let at : (d : ℕ) → d < q.axes → get_or L d 0 ≡ length_at (lists_of q) d = λ d h. lens d h ∙ along q.lengths d h in
      rw e (all_same _ _ (q.axes - 1) (λ i h. ap₂ leb (at (suc i) (omega arith)) (at i (omega arith))))

  module _ (L E : List ℕ) (lens : (d : ℕ) → d < q.axes → get_or L d 0 ≡ get_or q.lengths (get_or q.order d 0) 0) (exps : (d : ℕ) → d < q.axes → get_or E d 0 ≡ get_or q.exponents (get_or q.order d 0) 0) where
    lens_along : (d : ℕ) → d < q.axes → get_or L d 0 ≡ length_at (lists_of q) d
    unfolding lists_of
    lens_along d h = lens d h ∙ along q.lengths d h

    exps_along : (d : ℕ) → d < q.axes → get_or E d 0 ≡ exponent_at (lists_of q) d
    unfolding lists_of
    exps_along d h = exps d h ∙ along q.exponents d h

    points_along : product (length_of L) q.axes 0 ≤ point_limit
    unfolding points
    points_along =
        let a = lists_of q in
        let e : product (length_of L) q.axes 0 ≡ product (length_at a) q.axes 0 = product_cong q.axes 0 (λ d l r. lens_along d (omega arith)) in
        let s : product (length_of L) q.axes 0 ≡ points a.lengths = e ∙ ap (λ n. product (length_at a) n 0) (sym ok.axes) ∙ product_order a ok.sound (length_of a.lengths) in
        rw s ok.lengths.small

    cut_along : (d : ℕ) → d < q.axes → get_or E d 0 ≤ power_limit
    unfolding lists_of
    cut_along d h =
        let m = sum_member (take q.axes q.exponents) (get_or (take q.axes q.order) d 0) in
        let s = ok.sound.sums in
        let p = ok.boards in
        let g = exps_along d h in
        omega arith

    some_along : (d : ℕ) → d < q.axes → 1 ≤ length_of L d
    unfolding lists_of
    some_along d h = let b = below d h in let e = ok.axes in rw (lens_along d h) (ok.lengths.some (get_or (take q.axes q.order) d 0) (omega arith))

    pub priceable : Priceable L E q.axes
    priceable = let e = ok.axes in let f = ok.lengths.few in record { few = omega arith; some = some_along; cut = cut_along; small = points_along }

    most_along : (d : ℕ) → d < q.axes → most_of L E d ≡ most_at (lists_of q) d
    unfolding most_of most_at
    most_along d h = rw (lens_along d h, exps_along d h)

    share_same : share_size q.axes (most_of L E) ≡ share_size q.axes (most_at (lists_of q))
    unfolding share_size
    share_same = starts_cong q.axes q.axes (most_of L E) (most_at (lists_of q)) most_along

    -- what the code returns is what the plan costs
    pub prices_same : record { moved = moved_from L E (q.axes - 0) 0 0 1; added = added_from L (q.axes - 0) 0 1 0; share = share_size q.axes (most_of L E) } ≡ prices_of (lists_of q)
    unfolding prices_of Plans.moved Plans.added Plans.share_size
    prices_same =
        let n = q.axes in
        let e = ok.axes in
        rw (sub-zero, e, moved_same L E n (length_at (lists_of q)) (exponent_at (lists_of q)) lens_along exps_along, added_same L E n (length_at (lists_of q)) (exponent_at (lists_of q)) lens_along exps_along, share_same)

    pub starts_same : (i : ℕ) → region_start q.axes (most_of L E) i ≡ region_start q.axes (most_at (lists_of q)) i
    starts_same i = starts_cong q.axes i (most_of L E) (most_at (lists_of q)) most_along

-- ---- the entry's answer

pub answer_given : {A : Type 0} (n : ℕ) (a : A) → n ≡ 0 → gives a ≡ answered n a
unfolding answered
answer_given n a h = rw h

pub answer_refused : {A : Type 0} (n : ℕ) (a : A) → (n ≡ 0 → ⊥) → refuses n ≡ answered n a
unfolding answered
answer_refused zero a h = absurd (h refl)
answer_refused (suc n) a h = refl

-- and what it says of the refusal
pub given_is : {A : Type 0} (n : ℕ) (a v : A) → gives v ≡ answered n a → (n ≡ 0) × (v ≡ a)
unfolding answered
given_is zero a v e = (refl, cc)
given_is (suc n) a v e = impossible (cc)

pub refused_is : {A : Type 0} (n : ℕ) (a : A) (k : ℕ) → refuses k ≡ answered n a → (k ≡ n) × (k ≡ 0 → ⊥)
unfolding answered
refused_is zero a k e = impossible (cc)
refused_is (suc n) a k e = let q : k ≡ suc n = cc in (q, λ z. omega arith)
