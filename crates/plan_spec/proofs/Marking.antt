-- The mark of a plan, 12/12: yes where no way adds up fewer cells than the plan, no where the planner's tree does.
use Prim.Native.Nat.{ℕ, suc, ◌+◌, ◌-◌, ◌*◌, ◌≤◌, ◌<◌, min}
use mathlib.Core.Path.{◌≡◌, ◌∙◌, sym, refl}
use mathlib.Core.Bool.{Bool, true, false}
use mathlib.Core.List.{List, [], ◌∷◌}
use mathlib.Core.Option.{none, some}
use native.Mathlib.Omega.{arith}
use native.Mathlib.Decide.{dec_le}
use native.Mathlib.Nat.{mul-le-mul_left, mul-le-mul, le_refl, add-le-add, min-eq_left, min-eq_right}
use borrow.Author.Tests.{eq-eqb, ne_eqb, leb-true, le-leb}
use lib.ListN.{length, replicate}
use Rattle.cube_spec.specs.Boxes.{table_from, table}
use Rattle.cube_spec.specs.Choices.{length_of}
use Rattle.cube_spec.specs.Ways.{Way, sum_list, added_by}
use Rattle.cube_spec.proofs.Sums.{by}
use Rattle.cube_spec.proofs.Naturals.{clash}
use Rattle.cube_spec.proofs.Slots.{table_here}
use Rattle.cube_spec.proofs.Axes.{Axis, keys, tree, added_tree}
use Rattle.plan_spec.specs.Plans as Plans
use Rattle.plan_spec.specs.Plans.{PlanLists, count, length_at}
use Rattle.plan_spec.specs.Rule.{Typed, numbered, ordered_length, plan_of}
use Rattle.plan_spec.specs.Refusals.{all}
use Rattle.plan_spec.specs.Answers.{steady_at, never_rise, fewest_added}
use Rattle.plan_spec.specs.Marking.{Marking}
use Rattle.plan_spec.proofs.Sorted.{Falls}
use Rattle.plan_spec.proofs.Cost.{lower, rate, cost, falling_tree}
use Rattle.plan_spec.proofs.Shuffled.{Shuffled, All}
use Rattle.plan_spec.proofs.Places.{falls_at, lengths_fall, order_length, order_once, all_along}
use Rattle.plan_spec.proofs.Named.{named, once_shuffled}
use Rattle.plan_spec.proofs.Judging.{all_true, all_each}
use Rattle.plan_spec.proofs.Least.{adds_least}
use Rattle.plan_spec.proofs.Attained.{keyed, keyed_keys, each_along, keyed_along, cost_shuffled, falls_table, order_way, order_way_axis, own_adds, tree_way, tree_way_axis, adds_attained}

-- ---- yes and no, computed: equal neighbours count as yes, and lengths alone decide, not axis numbers or exponents

abbrev mark : List ℕ → List ℕ → List ℕ → Bool
mark ds o ks = fewest_added (record { lengths = ds; order = o; exponents = ks; p = sum_list ks })

marked_cases : (mark (5 ∷ []) (0 ∷ []) (0 ∷ []) ≡ true)
    × (mark (3 ∷ 2 ∷ []) (0 ∷ 1 ∷ []) (0 ∷ 1 ∷ []) ≡ true)
    × (mark (3 ∷ 2 ∷ []) (1 ∷ 0 ∷ []) (0 ∷ 1 ∷ []) ≡ false)
    × (mark (2 ∷ 3 ∷ []) (1 ∷ 0 ∷ []) (1 ∷ 0 ∷ []) ≡ true)
    × (mark (3 ∷ 3 ∷ []) (1 ∷ 0 ∷ []) (1 ∷ 0 ∷ []) ≡ true)
    × (mark (4 ∷ 2 ∷ 3 ∷ []) (0 ∷ 1 ∷ 2 ∷ []) (0 ∷ 0 ∷ 0 ∷ []) ≡ false)
    × (mark (4 ∷ 2 ∷ 3 ∷ []) (0 ∷ 2 ∷ 1 ∷ []) (0 ∷ 0 ∷ 0 ∷ []) ≡ true)
    × (mark (3 ∷ 4 ∷ 2 ∷ []) (0 ∷ 1 ∷ 2 ∷ []) (0 ∷ 0 ∷ 0 ∷ []) ≡ false)
unfolding fewest_added never_rise all
marked_cases = (refl, refl, refl, refl, refl, refl, refl, refl)

-- sixteen axes, the last first: all equal, and with one rise at the end
sixteen_cases : (mark (replicate 16 2) (table 16 (λ i. 15 - i)) [] ≡ true) × (mark (3 ∷ replicate 15 2) (table 16 (λ i. 15 - i)) [] ≡ false)
unfolding fewest_added never_rise all table_from
sixteen_cases = (refl, refl)

-- ---- the last axis summed as parent, beside the cheapest

abbrev plain : ℕ → ℕ
plain k = k

-- lengths of which none is 0
Filled : List Axis → Type 0
Filled [] = Unit {0}
Filled (a ∷ r) = (1 ≤ a.len) × Filled r

-- with the last axis summed each choice costs at least what it costs with the cheapest one, whose key so far is `m`
some_above : (m k c : ℕ) (r : List Axis) → m ≤ k → cost plain (some m) c r ≤ tree plain k c r
unfolding cost rate lower tree
some_above m k c [] h = mul-le-mul_left c h
some_above m k c (a ∷ r) h = add-le-add (some_above m k (c * a.len) r h) (some_above (min m a.key) a.key c r (omega arith))

none_above : (c : ℕ) (r : List Axis) → cost plain none c r ≤ tree plain 0 c r
unfolding cost rate lower tree
none_above c [] = le_refl _
none_above c (a ∷ r) = add-le-add (none_above (c * a.len) r) (some_above a.key a.key c r (le_refl _))

cells_some : (c l : ℕ) → 1 ≤ c → 1 ≤ l → 1 ≤ c * l
cells_some c l h k = mul-le-mul {n₁ = 1} {m₁ = 1} {n₂ = c} {m₂ = l} h k

-- and all of them more, where the last one's key is above the least
strictly : (m k c : ℕ) (r : List Axis) → 1 ≤ c → Filled r → m < k → cost plain (some m) c r < tree plain k c r
unfolding cost rate lower tree Filled
strictly m k c [] h f l =
    let q = mul-le-mul_left c l in
    let e : c * suc m ≡ c * m + c = omega arith in
    omega arith
strictly m k c (a ∷ r) h f l =
    let p = strictly m k (c * a.len) r (cells_some c a.len h f.0) f.1 l in
    let q = some_above (min m a.key) a.key c r (omega arith) in
    omega arith

-- so where keys rise along the order the tree costs more
some_rise : (k c : ℕ) (r : List Axis) → 1 ≤ c → Filled r → (Falls k (keys r) → ⊥) → cost plain (some k) c r < tree plain k c r
unfolding cost rate lower tree keys Falls Filled
some_rise k c [] h f n = absurd (n tt)
some_rise k c (a ∷ r) h f n = go (dec_le a.key k) (λ l. some_rise a.key c r h f.1 (λ z. n (l, z)))
  where
    go : Dec (a.key ≤ k) → (a.key ≤ k → cost plain (some a.key) c r < tree plain a.key c r)
        → cost plain (some k) (c * a.len) r + cost plain (some (min k a.key)) c r < tree plain k (c * a.len) r + tree plain a.key c r
    go (yes l) i =
        let p = i l in
        let q = some_above k k (c * a.len) r (le_refl k) in
        rw (min-eq_right l) (omega arith)
    go (no l) i =
        let u : k ≤ a.key = omega (arith, l) in
        let p = strictly k a.key c r h f.1 (omega (arith, l)) in
        let q = some_above k k (c * a.len) r (le_refl k) in
        rw (min-eq_left u) (omega arith)

none_rise : (c : ℕ) (r : List Axis) → 1 ≤ c → Filled r → ((k : ℕ) → Falls k (keys r) → ⊥) → cost plain none c r < tree plain 0 c r
unfolding cost rate lower tree keys Falls Filled
none_rise c [] h f n = absurd (n 0 tt)
none_rise c (a ∷ r) h f n =
    let p = some_rise a.key c r h f.1 (λ z. n a.key (le_refl _, z)) in
    let q = none_above (c * a.len) r in
    omega arith

-- ---- neighbours along the order

module _ (len : ℕ → ℕ) where
  module _ (n : ℕ) where
    yes_falls : never_rise n len ≡ true → Falls (len 0) (table n len)
    unfolding never_rise
    yes_falls e = falls_table len n 0 (len 0) (λ i h l. leb-true _ _ (all_true (steady_at len) (n - 1) e i (omega arith))) (le_refl _)

    no_falls : never_rise n len ≡ false → (k : ℕ) → Falls k (table n len) → ⊥
    unfolding never_rise
    no_falls e k f =
        clash (sym (all_each (steady_at len) (n - 1) (λ i l. le-leb _ _ (steady i (omega arith)))) ∙ e)
      where
        steady : (i : ℕ) → suc i < n → len (suc i) ≤ len i
        steady i l = rw (table_here n len (suc i) l, table_here n len i (omega arith)) at (falls_at k (table n len) f i)

-- ---- what the tree of an order adds up

filled_keyed : (e : ℕ → ℕ) (l : List Typed) → All (λ t. 1 ≤ t.len) l → Filled (keyed e l)
unfolding Filled keyed All
filled_keyed e [] h = tt
filled_keyed e (t ∷ r) h = (h.0, filled_keyed e r h.1)

-- lengths never rise along the planner's order
pub planned_yes : (ds : List ℕ) (p : ℕ) → fewest_added (plan_of ds p) ≡ true
unfolding fewest_added never_rise plan_of ordered_length
planned_yes ds p = all_each _ (length ds - 1) (λ i l. le-leb _ _ (lengths_fall ds i (omega arith)))

-- No exponent plays a part in what follows: of a plan, the order names each axis once, and for a no each length is at least 1.
module _ (a : PlanLists) (places : length a.order ≡ length a.lengths) (once : (d : ℕ) → d < length a.lengths → count d a.order ≡ 1) where
  abbrev ds : List ℕ
  ds = a.lengths

  abbrev n : ℕ
  n = length a.lengths

  abbrev len : ℕ → ℕ
  len = length_of a.lengths

  -- the axes in plan order
  abbrev along : List Typed
  along = named (length_of a.lengths) a.order

  shuffled : Shuffled along (numbered 0 ds)
  shuffled = once_shuffled ds a.order places once

  plan_tree : Plans.added a ≡ tree plain 0 1 (keyed len along)
  unfolding Plans.added
  plan_tree = rw (keyed_along len a.order len, places) (added_tree n _)

  -- ---- the cheapest parents, whatever the order

  cost_along : cost plain none 1 (keyed len along) ≡ cost plain none 1 (keyed len (numbered 0 ds))
  cost_along = cost_shuffled plain len shuffled none 1

  keys_along : keys (keyed len along) ≡ table n (length_at a)
  keys_along = keyed_keys len along ∙ rw (each_along len a.order len, places) refl

  -- where lengths never rise, the plan's tree has them
  yes_cost : fewest_added a ≡ true → Plans.added a ≡ cost plain none 1 (keyed len (numbered 0 ds))
  unfolding fewest_added
  yes_cost e = plan_tree ∙ sym (falling_tree plain (length_at a 0) 1 (keyed len along) refl (rw keys_along (yes_falls (length_at a) n e))) ∙ cost_along

  -- and where one rises, it adds up more
  no_cost : ((d : ℕ) → d < n → 1 ≤ len d) → fewest_added a ≡ false → cost plain none 1 (keyed len (numbered 0 ds)) < Plans.added a
  unfolding fewest_added
  no_cost h e =
      rw (← cost_along, plan_tree)
      (none_rise 1 (keyed len along) (le_refl 1) (filled_keyed len along (all_along (λ d x. 1 ≤ x) ds shuffled h))
      (λ k f. no_falls (length_at a) n e k (rw keys_along at f)))

-- the planner's tree has the cheapest parents
planned_cost : (ds : List ℕ) → added_by ds (tree_way ds) ≡ cost plain none 1 (keyed (length_of ds) (numbered 0 ds))
unfolding plan_of
planned_cost ds = adds_attained ds 0 ∙ yes_cost (plan_of ds 0) (order_length ds) (order_once ds) (planned_yes ds 0)

pub marking : (a : PlanLists) → length a.order ≡ length a.lengths → ((d : ℕ) → d < length a.lengths → count d a.order ≡ 1)
    → ((d : ℕ) → d < length a.lengths → 1 ≤ length_of a.lengths d) → Marking a.lengths a.order (Plans.added a) (fewest_added a)
marking a places once h =
    let ds = a.lengths in
    let best = added_by ds (tree_way ds) in
    let least : (w : Way (length ds)) → best ≤ added_by ds w = λ w. rw (adds_attained ds 0) (adds_least ds 0 w) in
    let yes : fewest_added a ≡ true → Plans.added a ≡ best = λ e. yes_cost a places once e ∙ sym (planned_cost ds) in
    let no : fewest_added a ≡ false → best < Plans.added a = λ e. rw planned_cost (no_cost a places once h e) in
    record {
      test = unfold fewest_added in refl;
      own = order_way ds a.order places once;
      own_axes = λ choice r. order_way_axis ds a.order places once choice;
      own_adds = own_adds a places once;
      best = tree_way ds;
      best_axes = λ choice r. tree_way_axis ds choice;
      best_adds = adds_attained ds;
      least = least;
      yes = λ e w. rw (yes e) (least w);
      no = no;
      same = by (fewest_added a) (λ e. e ∙ sym (eq-eqb _ _ (yes e))) (λ e. e ∙ sym (ne_eqb (Plans.added a) best (λ z. let q = no e in omega arith)));
    }
