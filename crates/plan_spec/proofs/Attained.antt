-- The tree of an order that names each axis once is a way; the planner's tree and exponents are a way and a division, so the least is attained.
use Prim.Native.Nat.{ℕ, zero, suc, ◌+◌, ◌-◌, ◌*◌, ◌^◌, ◌≤◌, ◌<◌, min}
use mathlib.Core.Path.{◌≡◌, ◌∙◌, ap, ap₂, sym, refl, fun_ext}
use mathlib.Core.Bool.{Bool, true, false}
use mathlib.Core.List.{List, [], ◌∷◌}
use mathlib.Core.Option.{Option, none, some}
use native.Mathlib.Omega.{arith}
use native.Mathlib.Nat.{one-mul, mul-one, le_refl, min-eq_right, zero-add}
use lib.ListN.{length, get_or}
use lib.Pow.{pow_pos}
use Rattle.cube_spec.specs.Boxes.{pick, sum_n, table_from, table}
use Rattle.cube_spec.specs.Choices.{keeps, full_mask, length_of, cells}
use Rattle.cube_spec.specs.Tree.{sent}
use Rattle.cube_spec.specs.Ways.{Way, Division, sum_list, cost_by, moved_by, added_by}
use Rattle.cube_spec.proofs.Sums.{by}
use Rattle.cube_spec.proofs.Naturals.{sum_n_cong, impossible}
use Rattle.cube_spec.proofs.Masks.{all_kept, parent_cells}
use Rattle.cube_spec.proofs.Tables.{table_length, table_of}
use Rattle.cube_spec.proofs.Axes.{Axis, lens, keys, tree, axis, axes_same, lens_length, lens_table, keys_table, moved_tree, added_tree}
use Rattle.plan_spec.specs.Plans as Plans
use Rattle.plan_spec.specs.Plans.{PlanLists, count, find, length_at, exponent_at}
use Rattle.plan_spec.specs.Rule.{Typed, numbered, numbers, order, ordered_length, exponents, plan_of}
use Rattle.plan_spec.specs.Trees.{last_summed, tree_axis}
use Rattle.plan_spec.proofs.Orders.{find_lt, get_find, find_get, once_below}
use Rattle.plan_spec.proofs.Sorted.{lengths, Falls, falls_more, numbered_lengths, ordered_sorted}
use Rattle.plan_spec.proofs.Shuffled.{Shuffled, same, under, swap, then, All}
use Rattle.plan_spec.proofs.Places.{order_length, order_once, ordered_length_lem, all_at, all_along}
use Rattle.plan_spec.proofs.Named.{named, named_length, named_numbers, planner_shuffled, once_shuffled}
use Rattle.plan_spec.proofs.Cost.{lower, lower_swap, rate, cost, cost_swap, falling_tree, Fits}
use Rattle.plan_spec.proofs.Ways.{least_key, cheapest, cost_below}
use Rattle.plan_spec.proofs.Chosen.{planned, planned_lens, planned_keys, planned_length, exponent_of, exponents_table}
use Rattle.plan_spec.proofs.Least.{sent_zero, planned_fits, planned_sum}
use Rattle.plan_spec.proofs.Tools.{bool_cases, add_same}

-- ---- a key for each axis number

-- the keys of typed axes, and the axes with them
unfoldable pub each : (ℕ → ℕ) → List Typed → List ℕ
each e [] = []
each e (t ∷ r) = e t.num ∷ each e r

unfoldable pub keyed : (ℕ → ℕ) → List Typed → List Axis
keyed e [] = []
keyed e (t ∷ r) = record { len = t.len; key = e t.num } ∷ keyed e r

keyed_lens : (e : ℕ → ℕ) (l : List Typed) → lens (keyed e l) ≡ lengths l
unfolding keyed lens lengths
keyed_lens e [] = refl
keyed_lens e (t ∷ r) = ap (λ (x : List ℕ). t.len ∷ x) (keyed_lens e r)

pub keyed_keys : (e : ℕ → ℕ) (l : List Typed) → keys (keyed e l) ≡ each e l
unfolding keyed keys each
keyed_keys e [] = refl
keyed_keys e (t ∷ r) = ap (λ (x : List ℕ). e t.num ∷ x) (keyed_keys e r)

pub cost_shuffled : (price e : ℕ → ℕ) {l s : List Typed} → Shuffled l s → (m : Option ℕ) (c : ℕ) → cost price m c (keyed e l) ≡ cost price m c (keyed e s)
unfolding keyed cost
cost_shuffled price e (same l) m c = refl
cost_shuffled price e (under a s) m c = add_same (cost_shuffled price e s m _) (cost_shuffled price e s _ c)
cost_shuffled price e (swap a b l) m c = cost_swap price m c _ _ (keyed e l)
cost_shuffled price e (then s t) m c = cost_shuffled price e s m c ∙ cost_shuffled price e t m c

sum_shuffled : (e : ℕ → ℕ) {l s : List Typed} → Shuffled l s → sum_list (each e l) ≡ sum_list (each e s)
unfolding each sum_list
sum_shuffled e (same l) = refl
sum_shuffled e (under a s) = ap (λ (x : ℕ). e a.num + x) (sum_shuffled e s)
sum_shuffled e (swap a b l) = omega arith
sum_shuffled e (then s t) = sum_shuffled e s ∙ sum_shuffled e t

each_typed : (e : ℕ → ℕ) (j : ℕ) (ds : List ℕ) → each e (numbered j ds) ≡ table_from (length ds) j e
unfolding each numbered table_from
each_typed e j [] = refl
each_typed e j (d ∷ ds) = let q : suc j ≡ j + 1 = omega arith in rw q (ap (λ (x : List ℕ). e j ∷ x) (each_typed e (j + 1) ds))

each_length : (e : ℕ → ℕ) (l : List Typed) → length (each e l) ≡ length l
unfolding each
each_length e [] = refl
each_length e (t ∷ r) = ap suc (each_length e r)

each_at : (e : ℕ → ℕ) (l : List Typed) (i : ℕ) → i < length l → get_or (each e l) i 0 ≡ e (get_or (numbers l) i 0)
unfolding each numbers
each_at e [] i h = absurd (omega arith)
each_at e (t ∷ r) zero h = refl
each_at e (t ∷ r) (suc i) h = each_at e r i (omega arith)

lengths_along : (len : ℕ → ℕ) (o : List ℕ) → lengths (named len o) ≡ each len (named len o)
unfolding lengths named each
lengths_along len [] = refl
lengths_along len (a ∷ o) = ap (λ (x : List ℕ). len a ∷ x) (lengths_along len o)

module _ (len : ℕ → ℕ) (o : List ℕ) where
  -- along an order, by place
  pub each_along : (e : ℕ → ℕ) → each e (named len o) ≡ table (length o) (λ i. e (get_or o i 0))
  each_along e =
      table_of (length o) _ (each e (named len o)) 0 (each_length e (named len o) ∙ named_length len o)
      (λ i l. rw (named_numbers len o) at (each_at e (named len o) i (rw (named_length len o) l)))

  pub keyed_along : (e : ℕ → ℕ) → keyed e (named len o) ≡ table (length o) (axis (λ i. len (get_or o i 0)) (λ i. e (get_or o i 0)))
  keyed_along e =
      let l : ℕ → ℕ = λ i. len (get_or o i 0) in
      let k : ℕ → ℕ = λ i. e (get_or o i 0) in
      axes_same _ _
      (keyed_lens e (named len o) ∙ lengths_along len o ∙ each_along len ∙ sym (lens_table l k (length o) 0))
      (keyed_keys e (named len o) ∙ each_along e ∙ sym (keys_table l k (length o) 0))

-- ---- the last axis summed

-- Choices by axis numbers: `kept i` says whether axis i is kept.
some_summed : (ℕ → Bool) → List Typed → Bool
some_summed kept [] = false
some_summed kept (t ∷ r) = pick (kept t.num) (some_summed kept r) true

pick_swap : (x y b : Bool) → pick x (pick y b true) true ≡ pick y (pick x b true) true
pick_swap true true b = refl
pick_swap true false b = refl
pick_swap false true b = refl
pick_swap false false b = refl

some_shuffled : (kept : ℕ → Bool) {l s : List Typed} → Shuffled l s → some_summed kept l ≡ some_summed kept s
unfolding some_summed
some_shuffled kept (same l) = refl
some_shuffled kept (under a s) = ap (λ (x : Bool). pick (kept a.num) x true) (some_shuffled kept s)
some_shuffled kept (swap a b l) = pick_swap (kept a.num) (kept b.num) (some_summed kept l)
some_shuffled kept (then s t) = some_shuffled kept s ∙ some_shuffled kept t

-- where none is summed, all are kept
none_summed : (kept : ℕ → Bool) (l : List Typed) → some_summed kept l ≡ false → All (λ t. kept t.num ≡ true) l
unfolding some_summed All
none_summed kept [] h = tt
none_summed kept (t ∷ r) h =
    by (kept t.num) (λ q. (q, none_summed kept r (rw q at h))) (λ q. impossible (let z : true ≡ false = (rw q at h) in cc))

-- the last axis summed is summed, if there is one
last_keeps : (kept : ℕ → Bool) (i : ℕ) (l : List Typed) → kept i ≡ false → kept (last_summed kept i (numbers l)) ≡ false
unfolding last_summed numbers
last_keeps kept i [] h = h
last_keeps kept i (t ∷ r) h =
    bool_cases (λ b. kept (last_summed kept (pick b i t.num) (numbers r)) ≡ false) (kept t.num) (λ q. last_keeps kept i r h)
    (λ q. last_keeps kept t.num r q)

last_summed_lem : (kept : ℕ → Bool) (i : ℕ) (l : List Typed) → some_summed kept l ≡ true → kept (last_summed kept i (numbers l)) ≡ false
unfolding last_summed numbers some_summed
last_summed_lem kept i [] = λ h. cc
last_summed_lem kept i (t ∷ r) =
    bool_cases (λ b. pick b (some_summed kept r) true ≡ true → kept (last_summed kept (pick b i t.num) (numbers r)) ≡ false) (kept t.num)
    (λ q. last_summed_lem kept i r) (λ q h. last_keeps kept t.num r q)

last_below : (kept : ℕ → Bool) (n i : ℕ) (l : List Typed) → i < n → All (λ t. t.num < n) l → last_summed kept i (numbers l) < n
unfolding last_summed numbers All
last_below kept n i [] h a = h
last_below kept n i (t ∷ r) h a =
    bool_cases (λ b. last_summed kept (pick b i t.num) (numbers r) < n) (kept t.num) (λ q. last_below kept n i r h a.1)
    (λ q. last_below kept n t.num r a.0 a.1)

-- the least key of the axes summed, by axis numbers
least_summed : (ℕ → Bool) → (ℕ → ℕ) → Option ℕ → List Typed → Option ℕ
least_summed kept e m [] = m
least_summed kept e m (t ∷ r) = least_summed kept e (pick (kept t.num) m (lower m (e t.num))) r

lower_picks : (x y : Bool) (m : Option ℕ) (j k : ℕ)
    → pick y (pick x m (lower m j)) (lower (pick x m (lower m j)) k) ≡ pick x (pick y m (lower m k)) (lower (pick y m (lower m k)) j)
lower_picks true true m j k = refl
lower_picks true false m j k = refl
lower_picks false true m j k = refl
lower_picks false false m j k = lower_swap m j k

least_shuffled : (kept : ℕ → Bool) (e : ℕ → ℕ) {l s : List Typed} → Shuffled l s → (m : Option ℕ) → least_summed kept e m l ≡ least_summed kept e m s
unfolding least_summed
least_shuffled kept e (same l) m = refl
least_shuffled kept e (under a s) m = least_shuffled kept e s _
least_shuffled kept e (swap a b l) m =
    ap (λ (x : Option ℕ). least_summed kept e x l) (lower_picks (kept a.num) (kept b.num) m (e a.num) (e b.num))
least_shuffled kept e (then s t) m = least_shuffled kept e s m ∙ least_shuffled kept e t m

least_typed : (kept : ℕ → Bool) (e : ℕ → ℕ) (m : Option ℕ) (j : ℕ) (ds : List ℕ)
    → least_key m (λ d. kept (j + d)) (keyed e (numbered j ds)) ≡ least_summed kept e m (numbered j ds)
unfolding least_key keyed numbered least_summed
least_typed kept e m j [] = refl
least_typed kept e m j (d ∷ ds) =
    let q : j + 0 ≡ j = omega arith in
    let f : ◌≡◌ {A = ℕ → Bool} (λ d. kept (j + suc d)) (λ d. kept (suc j + d)) = fun_ext (λ d. ap kept (omega arith)) in
    ap₂ (λ (x : ℕ) (g : ℕ → Bool). least_key (pick (kept x) m (lower m (e j))) g (keyed e (numbered (suc j) ds))) q f ∙ least_typed kept e (pick (kept j) m (lower m (e j))) (suc j) ds

-- where keys fall along the order, the last axis summed has the least key
last_least : (kept : ℕ → Bool) (e : ℕ → ℕ) (i : ℕ) (l : List Typed) → Falls (e i) (each e l) → least_summed kept e (some (e i)) l ≡ some (e (last_summed kept i (numbers l)))
unfolding least_summed last_summed numbers each Falls lower
last_least kept e i [] f = refl
last_least kept e i (t ∷ r) f =
    bool_cases (λ b. least_summed kept e (pick b (some (e i)) (some (min (e i) (e t.num)))) r ≡ some (e (last_summed kept (pick b i t.num) (numbers r))))
    (kept t.num) (λ q. last_least kept e i r (falls_more (each e r) f.0 f.1))
    (λ q. rw (min-eq_right f.0) (last_least kept e t.num r f.1))

first_least : (kept : ℕ → Bool) (e : ℕ → ℕ) (b i : ℕ) (l : List Typed) → Falls b (each e l) → some_summed kept l ≡ true
    → least_summed kept e none l ≡ some (e (last_summed kept i (numbers l)))
unfolding least_summed last_summed numbers each Falls lower some_summed
first_least kept e b i [] f = λ h. impossible (cc)
first_least kept e b i (t ∷ r) f =
    bool_cases
    (λ x. pick x (some_summed kept r) true ≡ true
    → least_summed kept e (pick x none (some (e t.num))) r ≡ some (e (last_summed kept (pick x i t.num) (numbers r))))
    (kept t.num) (λ q. first_least kept e (e t.num) i r f.1) (λ q h. last_least kept e t.num r f.1)

-- ---- the tree of an order is a way

-- numbers by place that never rise fall
pub falls_table : (len : ℕ → ℕ) (m d b : ℕ) → ((i : ℕ) → d ≤ i → suc i < d + m → len (suc i) ≤ len i) → len d ≤ b → Falls b (table_from m d len)
unfolding Falls table_from
falls_table len zero d b h l = tt
falls_table len (suc zero) d b h l = (l, tt)
falls_table len (suc (suc m)) d b h l =
    let q : d + 1 ≡ suc d = omega arith in
    (l, falls_table len (suc m) (d + 1) (len d) (λ i r s. h i (omega arith) (omega arith)) (rw q (h d (le_refl d) (omega arith))))

some_axis : (n mask : ℕ) → mask < full_mask n → 0 < n
some_axis zero mask h = absurd (unfold full_mask in omega arith)
some_axis (suc n) mask h = omega arith

-- with other keys of the same prices it is the same tree
tree_same : (price price' e e' : ℕ → ℕ) (k k' c : ℕ) (l : List Typed) → price k ≡ price' k' → All (λ t. price (e t.num) ≡ price' (e' t.num)) l
    → tree price k c (keyed e l) ≡ tree price' k' c (keyed e' l)
unfolding tree keyed All
tree_same price price' e e' k k' c [] z h = ap (λ x. c * x) z
tree_same price price' e e' k k' c (t ∷ r) z h =
    add_same (tree_same price price' e e' k k' (c * t.len) r z h.1) (tree_same price price' e e' (e t.num) (e' t.num) c r h.0 h.1)

-- of an order that names each axis once
module _ (ds o : List ℕ) (places : length o ≡ length ds) (once : (d : ℕ) → d < length ds → count d o ≡ 1) where
  abbrev n : ℕ
  n = length ds

  abbrev along : List Typed
  along = named (length_of ds) o

  shuffled : Shuffled along (numbered 0 ds)
  shuffled = once_shuffled ds o places once

  -- a choice below the full one sums some axis
  below_some : (mask : ℕ) → mask < full_mask n → some_summed (keeps mask) along ≡ true
  unfolding full_mask
  below_some mask h =
      some_shuffled (keeps mask) shuffled ∙ by (some_summed (keeps mask) (numbered 0 ds)) (λ t. t) (λ t. absurd (all t))
    where
      all : some_summed (keeps mask) (numbered 0 ds) ≡ false → ⊥
      all t =
          let a = all_at (λ d x. keeps mask d ≡ true) 0 ds (none_summed (keeps mask) (numbered 0 ds) t) in
          let p = pow_pos n in
          let q = all_kept n mask (omega arith) (λ d l. rw (zero-add d) at (a d l)) in
          unfold full_mask in omega arith

  pub order_way : Way (length ds)
  order_way =
      record {
        axis = λ mask. last_summed (keeps mask) 0 o;
        within = λ mask h.
            rw (named_numbers (length_of ds) o) at
            (last_below (keeps mask) n 0 along (some_axis n mask h) (all_along (λ d x. d < n) ds shuffled (λ d l. l)));
        summed = λ mask h. rw (named_numbers (length_of ds) o) at (last_summed_lem (keeps mask) 0 along (below_some mask h));
      }

  pub order_way_axis : (mask : ℕ) → order_way.axis mask ≡ last_summed (keeps mask) 0 o
  unfolding order_way
  order_way_axis mask = refl

  -- ---- what that way costs

  -- the places from an axis's own on: this falls along any order, so that of the axes summed the last has the least
  left : ℕ → ℕ
  left d = n - find d o

  left_falls : Falls n (each left along)
  unfolding left
  left_falls =
      rw (each_along (length_of ds) o left, places)
      (falls_table (λ i. left (get_or o i 0)) n 0 n (λ i h l. rw (here i (omega arith), here (suc i) (omega arith)) (omega arith)) (omega arith))
    where
      here : (i : ℕ) → i < n → find (get_or o i 0) o ≡ i
      here i h = find_get o i (rw places h) (once _ (once_below n o places once i h))

  least_left : (mask : ℕ) → mask < full_mask n → least_key none (keeps mask) (keyed left (numbered 0 ds)) ≡ some (left (last_summed (keeps mask) 0 o))
  least_left mask h =
      let k = keeps mask in
      let z : ◌≡◌ {A = ℕ → Bool} k (λ d. k (0 + d)) = fun_ext (λ d. ap k (sym (zero-add d))) in
      let f = rw (named_numbers (length_of ds) o) at (first_least k left n 0 along left_falls (below_some mask h)) in
      ap (λ (g : ℕ → Bool). least_key none g (keyed left (numbered 0 ds))) z ∙ least_typed k left none 0 ds ∙ sym (least_shuffled k left shuffled none) ∙ f

  module _ (price key : ℕ → ℕ) where
    -- the price of the axis with so many places left
    price_left : ℕ → ℕ
    price_left zero = 0
    price_left (suc k) = price (key (get_or o (n - suc k) 0))

    price_left_lem : (d : ℕ) → d < n → price_left (left d) ≡ price (key d)
    unfolding left price_left
    price_left_lem d h =
        let c : 0 < count d o = (let q = once d h in omega arith) in
        let f = find_lt d o c in
        let k : n - find d o ≡ suc (n - suc (find d o)) = omega arith in
        let i : n - suc (n - suc (find d o)) ≡ find d o = omega arith in
        rw (k, i, get_find d o c) refl

    cheapest_left : (mask : ℕ) → mask < full_mask n → cheapest price_left none 1 (keyed left (numbered 0 ds)) mask ≡ cells ds mask * price (key (order_way.axis mask))
    unfolding cheapest rate
    cheapest_left mask h =
        let p = price_left_lem _ (order_way.within mask h) in
        rw (keyed_lens left (numbered 0 ds), numbered_lengths 0 ds, one-mul, least_left mask h, ← order_way_axis mask, p) refl

    -- The tree of the order costs its sum over every set of summed axes. `f` is what a choice costs by that way.
    pub order_costs : price 0 ≡ 0 → (f : ℕ → ℕ) → ((mask : ℕ) → mask < full_mask n → f mask ≡ cells ds mask * price (key (order_way.axis mask)))
        → sum_n (full_mask n) f ≡ tree price 0 1 (table n (axis (λ i. length_of ds (get_or o i 0)) (λ i. key (get_or o i 0))))
    order_costs z f g =
        let t = numbered 0 ds in
        let l : lens (keyed left t) ≡ ds = keyed_lens left t ∙ numbered_lengths 0 ds in
        let q : length (keyed left t) ≡ n = sym (lens_length (keyed left t)) ∙ ap length l in
        let c : cost price_left none 1 (keyed left along) ≡ cost price_left none 1 (keyed left t) = cost_shuffled price_left left shuffled none 1 in
        let h : cost price_left none 1 (keyed left along) ≡ tree price_left 0 1 (keyed left along) =
        falling_tree price_left n 1 (keyed left along) (unfold price_left in refl) (rw keyed_keys left_falls) in
        let u : tree price_left 0 1 (keyed left along) ≡ tree price 0 1 (keyed key along) =
        tree_same price_left price left key 0 0 1 along (unfold price_left in sym z) (all_along (λ d x. price_left (left d) ≡ price (key d)) ds shuffled price_left_lem) in
        let v : keyed key along ≡ table n (axis (λ i. length_of ds (get_or o i 0)) (λ i. key (get_or o i 0))) = rw places at (keyed_along (length_of ds) o key) in
        rw (← v, ← u, ← h, c, cost_below, q) (sum_n_cong (full_mask n) (λ mask r. g mask r ∙ sym (cheapest_left mask r)))

-- a plan's own tree moves, with its exponents, and adds up what the plan says
module _ (a : PlanLists) (places : length a.order ≡ length a.lengths) (once : (d : ℕ) → d < length a.lengths → count d a.order ≡ 1) where
  abbrev own : Way (length a.lengths)
  own = order_way a.lengths a.order places once

  pub own_moves : cost_by (λ d. 1) a.lengths a.exponents own ≡ Plans.moved a
  unfolding cost_by Plans.moved
  own_moves =
      order_costs a.lengths a.order places once sent (λ d. get_or a.exponents d 0) sent_zero _ (λ mask h. mul-one _)
      ∙ sym (moved_tree (length a.lengths) (length_at a) (exponent_at a))

  pub own_adds : added_by a.lengths own ≡ Plans.added a
  unfolding added_by Plans.added
  own_adds =
      order_costs a.lengths a.order places once (λ k. k) (length_of a.lengths) refl _
      (λ mask h. parent_cells a.lengths mask _ (own.within mask h) (own.summed mask h))
      ∙ sym (added_tree (length a.lengths) (length_at a))

-- ---- the planner's tree

pub tree_way : (ds : List ℕ) → Way (length ds)
tree_way ds = order_way ds (order ds) (order_length ds) (order_once ds)

pub tree_way_axis : (ds : List ℕ) (mask : ℕ) → (tree_way ds).axis mask ≡ tree_axis ds mask
unfolding tree_way order_way tree_axis
tree_way_axis ds mask = refl

-- it adds up what the plan says
pub adds_attained : (ds : List ℕ) (p : ℕ) → added_by ds (tree_way ds) ≡ Plans.added (plan_of ds p)
unfolding tree_way plan_of
adds_attained ds p = own_adds (plan_of ds p) (order_length ds) (order_once ds)

-- ---- the exponents are a division

fits_at : (r : List Axis) → Fits r → (i : ℕ) → i < length r → 2 ^ get_or (keys r) i 0 ≤ get_or (lens r) i 0
unfolding Fits keys lens
fits_at [] f i h = absurd (omega arith)
fits_at (a ∷ r) f zero h = f.0
fits_at (a ∷ r) f (suc i) h = fits_at r f.1 i (omega arith)

module _ (ds : List ℕ) (p : ℕ) where
  -- the planner's exponent of each axis number
  exponent : ℕ → ℕ
  exponent a = get_or (exponents ds p) a 0

  each_exponent : each exponent (named (length_of ds) (order ds)) ≡ keys (planned ds p)
  unfolding exponent plan_of
  each_exponent = each_along (length_of ds) (order ds) exponent ∙ rw order_length (sym (planned_keys ds p ∙ exponents_table ds p))

  -- the exponents by axis number fit, and have the sum asked for, if any do
  exponent_fits : Division ds p → (a : ℕ) → a < length ds → 2 ^ get_or (exponents ds p) a 0 ≤ length_of ds a
  exponent_fits e a h =
      let c : 0 < count a (order ds) = (let o = order_once ds a h in omega arith) in
      let l : find a (order ds) < length ds = (let o = order_length ds in let f = find_lt a (order ds) c in omega arith) in
      let g = fits_at (planned ds p) (planned_fits ds p e) (find a (order ds)) (rw (planned_length ds p) l) in
      let x : get_or (lens (planned ds p)) (find a (order ds)) 0 ≡ length_of ds a = ap (λ (y : List ℕ). get_or y (find a (order ds)) 0) (planned_lens ds p ∙ sym (ordered_sorted ds)) ∙ ordered_length_lem ds _ l ∙ (unfold ordered_length in ap (length_of ds) (get_find a (order ds) c)) in
      rw (exponent_of ds p a h, ← planned_keys ds p, ← x) g

  exponents_each : length (exponents ds p) ≡ length ds
  unfolding exponents
  exponents_each = table_length (length ds) 0 _

  exponents_numbered : exponents ds p ≡ each exponent (numbered 0 ds)
  unfolding exponent
  exponents_numbered = table_of (length ds) exponent (exponents ds p) 0 exponents_each (λ i l. refl) ∙ sym (each_typed exponent 0 ds)

  pub tree_division : Division ds p → Division ds p
  tree_division e =
      record {
        exponents = exponents ds p;
        each = exponents_each;
        fits = exponent_fits e;
        sums = ap sum_list exponents_numbered ∙ sym (sum_shuffled exponent (planner_shuffled ds)) ∙ ap sum_list each_exponent ∙ planned_sum ds p e;
      }

  pub tree_division_exponents : (e : Division ds p) → (tree_division e).exponents ≡ exponents ds p
  unfolding tree_division
  tree_division_exponents e = refl

  -- the tree with the planner's exponents moves what the plan says
  pub moves_attained : (e : Division ds p) → moved_by ds (tree_division e) (tree_way ds) ≡ Plans.moved (plan_of ds p)
  unfolding moved_by tree_way tree_division plan_of
  moves_attained e = own_moves (plan_of ds p) (order_length ds) (order_once ds)
