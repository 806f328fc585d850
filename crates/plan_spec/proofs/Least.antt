-- The planner's plan moves least and adds least.
use Prim.Native.Nat.{ℕ, zero, suc, ◌+◌, ◌^◌, ◌≤◌, ◌<◌}
use mathlib.Core.Path.{◌≡◌, ◌∙◌, ap, sym, refl}
use mathlib.Core.List.{List}
use mathlib.Core.Option.{none}
use native.Mathlib.Omega.{arith}
use native.Mathlib.Nat.{le_trans, le_refl, mul-one}
use lib.ListN.{length, get_or}
use lib.Pow.{pow_mono}
use Rattle.cube_spec.specs.Boxes.{table_from, table}
use Rattle.cube_spec.specs.Choices.{length_of}
use Rattle.cube_spec.specs.Tree.{sent}
use Rattle.cube_spec.specs.Ways.{Way, Division, sum_list, cost_by, moved_by, added_by}
use Rattle.cube_spec.proofs.Masks.{parent_cells}
use Rattle.cube_spec.proofs.Tables.{table_length, table_of}
use Rattle.cube_spec.proofs.Axes.{Axis, lens, keys, tree, axis, lens_table, keys_table}
use Rattle.plan_spec.specs.Plans as Plans
use Rattle.plan_spec.specs.Rule.{entries, plan_of}
use Rattle.plan_spec.proofs.Sorted.{sorted, sorted_falls, sorted_sum, largest}
use Rattle.plan_spec.proofs.Cost.{cost, arranged, arranged_cost, arranged_lens, arranged_keys, arranged_fits, Fits, falling_tree}
use Rattle.plan_spec.proofs.Greedy.{greedy_least, greedy_sum, greedy_fits}
use Rattle.plan_spec.proofs.Ways.{ways_cost}
use Rattle.plan_spec.proofs.Chosen.{entries_start, entries_lens, paid_tree, planned, planned_lens, plan_moved, plan_added}

-- sorted along the planner's order, the tree costs at most what the cheapest parents cost in any order
tree_least : (price : ℕ → ℕ) → ((j k : ℕ) → j ≤ k → price j ≤ price k) → price 0 ≡ 0 → (r : List Axis) → tree price 0 1 (arranged r) ≤ cost price none 1 r
tree_least price up z r =
    rw (← falling_tree price (largest (keys r)) 1 (arranged r) z (rw arranged_keys (sorted_falls (keys r)))) (arranged_cost price up r none 1)

-- ---- axes by number, of these lengths and with these keys

unfoldable pub typed : List ℕ → List ℕ → List Axis
typed ds ks = table (length ds) (axis (length_of ds) (λ d. get_or ks d 0))

pub typed_lens : (ds ks : List ℕ) → lens (typed ds ks) ≡ ds
unfolding typed
typed_lens ds ks = lens_table (length_of ds) (λ d. get_or ks d 0) (length ds) 0 ∙ sym (table_of (length ds) (length_of ds) ds 0 refl (λ i l. refl))

pub typed_keys : (ds ks : List ℕ) → length ks ≡ length ds → keys (typed ds ks) ≡ ks
unfolding typed
typed_keys ds ks e = keys_table (length_of ds) (λ d. get_or ks d 0) (length ds) 0 ∙ sym (table_of (length ds) (λ d. get_or ks d 0) ks 0 e (λ i l. refl))

typed_length : (ds ks : List ℕ) → length (typed ds ks) ≡ length ds
unfolding typed
typed_length ds ks = table_length (length ds) 0 (axis (length_of ds) (λ d. get_or ks d 0))

fits_table : (len key : ℕ → ℕ) (m d : ℕ) → ((i : ℕ) → d ≤ i → i < d + m → 2 ^ key i ≤ len i) → Fits (table_from m d (axis len key))
unfolding Fits table_from
fits_table len key zero d h = tt
fits_table len key (suc m) d h = (h d (omega arith) (omega arith), fits_table len key m (d + 1) (λ i l r. h i (omega arith) (omega arith)))

pub typed_fits : (ds ks : List ℕ) → ((d : ℕ) → d < length ds → 2 ^ get_or ks d 0 ≤ length_of ds d) → Fits (typed ds ks)
unfolding typed
typed_fits ds ks h = fits_table (length_of ds) (λ d. get_or ks d 0) (length ds) 0 (λ i l r. h i (omega arith))

-- ---- values moved

sent_rises : (j k : ℕ) → j ≤ k → sent j ≤ sent k
unfolding sent
sent_rises j k h = let p = pow_mono h in omega arith

pub sent_zero : sent 0 ≡ 0
unfolding sent
sent_zero = refl

module _ (ds : List ℕ) (p : ℕ) (e : Division ds p) where
  -- the division's exponents, sorted from the largest down along the planner's order
  given : List Axis
  given = typed ds e.exponents

  given_sum : sum_list (keys (arranged given)) ≡ p
  unfolding given
  given_sum = ap sum_list (arranged_keys given) ∙ sorted_sum (keys given) ∙ ap sum_list (typed_keys ds e.exponents e.each) ∙ e.sums

  given_lens : lens (arranged given) ≡ sorted ds
  unfolding given
  given_lens = arranged_lens given ∙ ap sorted (typed_lens ds e.exponents)

  given_fits : Fits (arranged given)
  unfolding given
  given_fits = arranged_fits given (typed_fits ds e.exponents e.fits)

  -- the planner's exponents have the sum asked for, and fit, if any do
  pub planned_sum : sum_list (keys (planned ds p)) ≡ p
  unfolding planned
  planned_sum = rw given_sum at (greedy_sum (entries ds) (entries_start ds) (arranged given) (given_lens ∙ sym (entries_lens ds)) given_fits)

  pub planned_fits : Fits (planned ds p)
  unfolding planned
  planned_fits = greedy_fits (entries ds) (entries_start ds) (arranged given) (given_lens ∙ sym (entries_lens ds)) given_fits p

  -- the planner's tree moves at most what the cheapest parents move with these exponents
  plan_cost : tree sent 0 1 (planned ds p) ≤ cost sent none 1 given
  unfolding planned
  plan_cost =
      let g = (rw given_sum at (greedy_least (entries ds) (entries_start ds) (arranged given) (given_lens ∙ sym (entries_lens ds)) given_fits)) in
      let a = paid_tree ds (planned ds p) (planned_lens ds p) in
      let b = paid_tree ds (arranged given) given_lens in
      let c = tree_least sent sent_rises sent_zero given in
      omega arith

  -- NO WAY WITH ANY DIVISION MOVES LESS
  pub moves_least : (w : Way (length ds)) → Plans.moved (plan_of ds p) ≤ moved_by ds e w
  unfolding moved_by cost_by given
  moves_least w =
      rw (plan_moved ds p)
      (le_trans plan_cost
      (ways_cost sent sent_rises given (typed_length ds e.exponents) w _
      (λ mask l. rw (typed_lens ds e.exponents, typed_keys ds e.exponents e.each, mul-one) (le_refl _))))

-- ---- cells added

-- NO WAY ADDS LESS
pub adds_least : (ds : List ℕ) (p : ℕ) (w : Way (length ds)) → Plans.added (plan_of ds p) ≤ added_by ds w
unfolding added_by
adds_least ds p w =
    let r = typed ds ds in
    let l = typed_lens ds ds in
    let k = typed_keys ds ds refl in
    rw (plan_added ds p (arranged r) (arranged_lens r ∙ ap sorted l) (arranged_keys r ∙ ap sorted k))
    (le_trans (tree_least (λ k. k) (λ j k h. h) refl r)
    (ways_cost (λ k. k) (λ j k h. h) r (typed_length ds ds) w _
    (λ mask h. rw (l, k, parent_cells ds mask (w.axis mask) (w.within mask h) (w.summed mask h)) (le_refl _))))
