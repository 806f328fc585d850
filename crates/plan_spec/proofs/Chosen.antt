-- The planner's plan as a list of axes in its order, and what it costs.
use Prim.Native.Nat.{ℕ, zero, suc, ◌+◌, ◌*◌, ◌<◌}
use mathlib.Core.Path.{◌≡◌, ◌∙◌, ap, ap₂, sym, refl}
use mathlib.Core.List.{List, ◌∷◌}
use native.Mathlib.Omega.{arith}
use native.Mathlib.Nat.{zero-add, add-zero}
use lib.ListN.{length, get_or}
use Rattle.cube_spec.specs.Boxes.{sum_n, table_from, table}
use Rattle.cube_spec.specs.Tree.{sent, weight, weighted}
use Rattle.cube_spec.proofs.Naturals.{sum_n_cong, sum_n_first}
use Rattle.cube_spec.proofs.Tables.{table_length, table_at, table_of}
use Rattle.cube_spec.proofs.Axes.{Axis, lens, keys, tree, axis, axes_same, lens_length, keys_length, lens_table, keys_table, moved_tree, added_tree}
use Rattle.cube_spec.proofs.Weights.{moved_weighted}
use Rattle.plan_spec.specs.Plans as Plans
use Rattle.plan_spec.specs.Plans.{find, exponent_at}
use Rattle.plan_spec.specs.Rule.{entries, greedy, order, ordered_length, ordered_exponents, exponents, plan_of}
use Rattle.plan_spec.proofs.Orders.{find_get}
use Rattle.plan_spec.proofs.Sorted.{sorted, ordered_sorted}
use Rattle.plan_spec.proofs.Greedy.{axes, axes_keys, Unraised, paid, greedy_lens}
use Rattle.plan_spec.proofs.Places.{order_length, order_within, order_once, ordered_table}

-- ---- the entries

unraised_table : (m d : ℕ) (w len : ℕ → ℕ) → Unraised (table_from m d (λ i. record { weight = w i; len = len i; exp = 0 }))
unfolding Unraised table_from
unraised_table zero d w len = tt
unraised_table (suc m) d w len = (refl, unraised_table m (d + 1) w len)

lens_entries : (m d : ℕ) (w len : ℕ → ℕ) → lens (axes (table_from m d (λ i. record { weight = w i; len = len i; exp = 0 }))) ≡ table_from m d len
unfolding lens axes table_from
lens_entries zero d w len = refl
lens_entries (suc m) d w len = ap (λ (x : List ℕ). len d ∷ x) (lens_entries m (d + 1) w len)

paid_table : (m d : ℕ) (w len key : ℕ → ℕ) → paid (table_from m d (λ i. record { weight = w i; len = len i; exp = 0 })) (table_from m d (axis len key)) ≡ sum_n m (λ i. w (d + i) * sent (key (d + i)))
unfolding paid table_from
paid_table zero d w len key = unfold sum_n in refl
paid_table (suc m) d w len key =
    ap₂ ◌+◌ (ap (λ i. w i * sent (key i)) (sym (add-zero d))) (paid_table m (d + 1) w len key ∙ sum_n_cong m (λ i l. ap (λ i. w i * sent (key i)) (omega arith)))
    ∙ sym (sum_n_first m (λ i. w (d + i) * sent (key (d + i))))

module _ (ds : List ℕ) where
  pub entries_start : Unraised (entries ds)
  unfolding entries
  entries_start = unraised_table (length ds) 0 (weight (length ds) (ordered_length ds)) (ordered_length ds)

  table_sorted : table (length ds) (ordered_length ds) ≡ sorted ds
  table_sorted = sym (ordered_table ds) ∙ ordered_sorted ds

  pub entries_lens : lens (axes (entries ds)) ≡ sorted ds
  unfolding entries
  entries_lens = lens_entries (length ds) 0 (weight (length ds) (ordered_length ds)) (ordered_length ds) ∙ table_sorted

  -- axes along the planner's order, with any keys
  along : (s : List Axis) (key : ℕ → ℕ) → lens s ≡ sorted ds → keys s ≡ table (length ds) key → s ≡ table (length ds) (axis (ordered_length ds) key)
  along s key e f =
      axes_same s _ (e ∙ sym (lens_table (ordered_length ds) key (length ds) 0 ∙ table_sorted)) (f ∙ sym (keys_table (ordered_length ds) key (length ds) 0))

  along_length : (s : List Axis) → lens s ≡ sorted ds → length s ≡ length ds
  along_length s e = sym (lens_length s) ∙ ap length (e ∙ sym table_sorted) ∙ table_length (length ds) 0 (ordered_length ds)

  paid_weighted : (key : ℕ → ℕ) → paid (entries ds) (table (length ds) (axis (ordered_length ds) key)) ≡ weighted (length ds) (ordered_length ds) key
  unfolding entries weighted
  paid_weighted key =
      paid_table (length ds) 0 (weight (length ds) (ordered_length ds)) (ordered_length ds) key ∙ sum_n_cong (length ds) (λ i l. ap (λ i. weight (length ds) (ordered_length ds) i * sent (key i)) (zero-add i))

  -- what is paid by weights, the tree moves
  pub paid_tree : (s : List Axis) → lens s ≡ sorted ds → paid (entries ds) s ≡ tree sent 0 1 s
  paid_tree s e =
      let n = length ds in
      let key : ℕ → ℕ = λ i. get_or (keys s) i 0 in
      let q = along s key e (table_of n key (keys s) 0 (keys_length s ∙ along_length s e) (λ i l. refl)) in
      ap (paid (entries ds)) q ∙ paid_weighted key ∙ sym (moved_weighted n (ordered_length ds) key) ∙ moved_tree n (ordered_length ds) key ∙ ap (tree sent 0 1) (sym q)

module _ (ds : List ℕ) (p : ℕ) where
  unfoldable pub planned : List Axis
  planned = axes (greedy p (entries ds))

  pub planned_lens : lens planned ≡ sorted ds
  unfolding planned
  planned_lens = greedy_lens p (entries ds) ∙ entries_lens ds

  pub planned_keys : keys planned ≡ ordered_exponents ds p
  unfolding planned ordered_exponents
  planned_keys = axes_keys (greedy p (entries ds))

  pub planned_length : length planned ≡ length ds
  planned_length = along_length ds planned planned_lens

  pub exponents_length : length (ordered_exponents ds p) ≡ length ds
  exponents_length = ap length (sym planned_keys) ∙ keys_length planned ∙ planned_length

  -- the exponent of an axis stands at its place of the order
  pub exponent_of : (a : ℕ) → a < length ds → get_or (exponents ds p) a 0 ≡ get_or (ordered_exponents ds p) (find a (order ds)) 0
  unfolding exponents
  exponent_of a h = table_at (length ds) 0 _ a 0 h ∙ ap (λ (x : ℕ). get_or (ordered_exponents ds p) (find x (order ds)) 0) (zero-add a)

  exponent_at_lem : (i : ℕ) → i < length ds → get_or (ordered_exponents ds p) i 0 ≡ exponent_at (plan_of ds p) i
  unfolding plan_of
  exponent_at_lem i h =
      let l = order_within ds i h in
      let q = order_length ds in
      sym (exponent_of (get_or (order ds) i 0) l ∙ ap (λ (x : ℕ). get_or (ordered_exponents ds p) x 0) (find_get (order ds) i (omega arith) (order_once ds _ l)))

  pub exponents_table : ordered_exponents ds p ≡ table (length ds) (exponent_at (plan_of ds p))
  exponents_table = table_of (length ds) (exponent_at (plan_of ds p)) (ordered_exponents ds p) 0 exponents_length exponent_at_lem

  planned_table : planned ≡ table (length ds) (axis (ordered_length ds) (exponent_at (plan_of ds p)))
  planned_table = along ds planned (exponent_at (plan_of ds p)) planned_lens (planned_keys ∙ exponents_table)

  -- what the plan moves and adds
  pub plan_moved : Plans.moved (plan_of ds p) ≡ tree sent 0 1 planned
  unfolding Plans.moved plan_of ordered_length
  plan_moved = moved_tree (length ds) (ordered_length ds) (exponent_at (plan_of ds p)) ∙ ap (tree sent 0 1) (sym planned_table)

  pub plan_added : (s : List Axis) → lens s ≡ sorted ds → keys s ≡ sorted ds → Plans.added (plan_of ds p) ≡ tree (λ k. k) 0 1 s
  unfolding Plans.added plan_of ordered_length
  plan_added s e f = added_tree (length ds) (ordered_length ds) ∙ ap (tree (λ k. k) 0 1) (sym (along ds s (ordered_length ds) e (f ∙ sym (table_sorted ds))))
