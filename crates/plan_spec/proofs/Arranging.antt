-- The planner's arrays are those of the rule.
use Prim.Native.Nat.{ℕ, suc, ◌+◌, ◌-◌, ◌*◌, ◌≤◌, ◌<◌}
use mathlib.Core.Path.{◌≡◌, ◌∙◌, ap, ap₂}
use mathlib.Core.List.{List, ◌++◌}
use native.Mathlib.Nat.{zero-add}
use native.Mathlib.Omega.{arith}
use lib.ListN.{length, get_or, take, replicate}
use Rattle.std.specs.List.{All}
use Rattle.cube_spec.specs.Limits.{axis_limit, length_limit, padded}
use Rattle.cube_spec.specs.Boxes.{product, table}
use Rattle.cube_spec.specs.Choices.{length_of, points}
use Rattle.cube_spec.specs.Tree.{weight}
use Rattle.cube_spec.proofs.Boxing.{product_cong}
use Rattle.cube_spec.proofs.Slots.{padded_at, padded_take, table_here}
use Rattle.cube_spec.proofs.Tables.{table_length, table_at, table_cong}
use Rattle.plan_spec.specs.Plans.{Sound, find}
use Rattle.plan_spec.specs.Rule.{Entry, order, ordered_length, entries, greedy, exps, ordered_exponents, plan_of}
use Rattle.plan_spec.specs.Accepted.{PlanningAccepted}
use Rattle.plan_spec.specs.Choosing.{Bounded, Raisable}
use Rattle.plan_spec.proofs.Places.{order_length}
use Rattle.plan_spec.proofs.Orders.{order_below, rank_below, product_order}
use Rattle.plan_spec.proofs.Demand.{plan_sound}
use Rattle.plan_spec.proofs.Bounding.{weight_small}

-- the lengths below n alone matter
pub weight_cong : (n : ℕ) (f g : ℕ → ℕ) (i : ℕ) → i < n → ((j : ℕ) → j < n → f j ≡ g j) → weight n f i ≡ weight n g i
unfolding weight
weight_cong n f g i h e = ap₂ ◌*◌ (product_cong i 0 (λ j l r. ap (λ x. x + 1) (e j (omega arith)))) (product_cong (n - suc i) (suc i) (λ j l r. e j (omega arith)))

module _ (ds : List ℕ) (p : ℕ) (ok : PlanningAccepted ds p) where
  sound : Sound (plan_of ds p)
  sound = plan_sound ds p ok.lengths.some ok.enough

  below : (i : ℕ) → i < length ds → get_or (order ds) i 0 < length ds
  unfolding plan_of
  below i h = order_below (plan_of ds p) (unfold plan_of in sound) i h

  pub place_below : (a : ℕ) → a < length ds → find a (order ds) < length ds
  unfolding plan_of
  place_below a h = rank_below (plan_of ds p) (unfold plan_of in sound) a h

  ordered_points : product (ordered_length ds) (length ds) 0 ≡ points ds
  unfolding plan_of ordered_length points
  ordered_points = product_order (plan_of ds p) (unfold plan_of in sound) (length_of ds)

  ordered_some : (i : ℕ) → i < length ds → 1 ≤ ordered_length ds i
  unfolding ordered_length
  ordered_some i h = ok.lengths.some (get_or (order ds) i 0) (below i h)

  ordered_short : (i : ℕ) → i < length ds → ordered_length ds i ≤ length_limit
  unfolding ordered_length
  ordered_short i h = ok.lengths.short (get_or (order ds) i 0) (below i h)

module _ (ds : List ℕ) (p : ℕ) (ok : PlanningAccepted ds p) where
  few : length ds ≤ axis_limit
  few = ok.lengths.few

  taken : take (length ds) (padded (order ds)) ≡ order ds
  taken = padded_take (order ds) (length ds) (order_length ds) few

  -- the order, out of its slots
  pub order_named : (length (take (length ds) (padded (order ds))) ≤ axis_limit)
      × ((i : ℕ) → i < length (take (length ds) (padded (order ds))) → get_or (take (length ds) (padded (order ds))) i 0 < axis_limit)
  order_named =
      let o = order_length ds in
      let f = few in
      rw taken (omega arith, λ i h. let b = below ds p ok i (omega arith) in omega arith)

  -- the lengths along it
  abbrev pub Lengths : List ℕ → Type 0
  Lengths r = r ≡ padded (table (length (take (length ds) (padded (order ds)))) (λ i. get_or (padded ds) (get_or (take (length ds) (padded (order ds))) i 0) 0))

  -- as code has them
  pub lengths_along : (r o s : List ℕ) → o ≡ padded (order ds) → s ≡ padded ds
      → r ≡ take axis_limit (table (length (take (length ds) o)) (λ i. get_or s (get_or (take (length ds) o) i 0) 0) ++ replicate axis_limit 0) → Lengths r
  unfolding padded
  lengths_along r o s e f g =
      g
      ∙ ap₂ (λ (o s : List ℕ). take axis_limit (table (length (take (length ds) o)) (λ i. get_or s (get_or (take (length ds) o) i 0) 0) ++ replicate axis_limit 0)) e f

  module _ (r : List ℕ) (along : Lengths r) where
    abbrev pub lens : List ℕ
    lens = take (length ds) r

    lens_table : lens ≡ table (length ds) (ordered_length ds)
    unfolding ordered_length
    lens_table =
        let o = order_length ds in
        let f = few in
        ap (take (length ds)) along
        ∙ ap (λ o. take (length ds) (padded (table (length o) (λ i. get_or (padded ds) (get_or o i 0) 0)))) taken
        ∙ ap (λ n. take (length ds) (padded (table n (λ i. get_or (padded ds) (get_or (order ds) i 0) 0)))) o
        ∙ padded_take (table (length ds) (λ i. get_or (padded ds) (get_or (order ds) i 0) 0)) (length ds) (table_length (length ds) 0 _) few
        ∙ table_cong (length ds) 0 _ _ (λ i _ h. padded_at ds (get_or (order ds) i 0) (let b = below ds p ok i (omega arith) in omega arith))

    pub lens_length : length lens ≡ length ds
    lens_length = ap length lens_table ∙ table_length (length ds) 0 (ordered_length ds)

    lens_at : (i : ℕ) → i < length ds → get_or lens i 0 ≡ ordered_length ds i
    lens_at i h = ap (λ l. get_or l i 0) lens_table ∙ table_here (length ds) (ordered_length ds) i h

    pub lens_bounded : Bounded (length_of lens) (length lens)
    lens_bounded =
        let n = lens_length in
        let f = few in
        record {
          few = omega arith;
          some = λ d h. let e = lens_at d (omega arith) in let s = ordered_some ds p ok d (omega arith) in omega arith;
          short = λ d h. let e = lens_at d (omega arith) in let s = ordered_short ds p ok d (omega arith) in omega arith;
          small =
              let e = product_cong {e = length_of lens} {e' = ordered_length ds} (length ds) 0 (λ i l r. lens_at i (omega arith)) in
              let s = ok.lengths.small in
              let m = ordered_points ds p ok in
              rw n (omega arith);
        }

    -- so they make the rule's own entries
    module _ (l : List Entry) (made : l ≡ table (length lens) (λ i. record { weight = weight (length lens) (length_of lens) i; len = length_of lens i; exp = 0 })) where
      pub entries_length : length l ≡ length ds
      entries_length = ap length made ∙ table_length (length lens) 0 _ ∙ lens_length

      same_entries : l ≡ entries ds
      unfolding entries
      same_entries =
          made
          ∙ ap (λ n. table n (λ i. record { weight = weight n (length_of lens) i; len = length_of lens i; exp = 0 })) lens_length
          ∙ table_cong (length ds) 0 _ _ (λ i _ h. one i (omega arith))
        where
          one : (i : ℕ) → i < length ds → ◌≡◌ {A = Entry} (record { weight = weight (length ds) (length_of lens) i; len = length_of lens i; exp = 0 }) (record { weight = weight (length ds) (ordered_length ds) i; len = ordered_length ds i; exp = 0 })
          one i h =
              let w : weight (length ds) (length_of lens) i ≡ weight (length ds) (ordered_length ds) i = weight_cong (length ds) (length_of lens) (ordered_length ds) i h (λ j r. lens_at j r) in
              let e = lens_at i h in
              (λ j. record { weight = w j; len = e j; exp = 0 })

      pub arranged : padded (exps (greedy p l)) ≡ padded (ordered_exponents ds p)
      unfolding ordered_exponents
      arranged = ap (λ l. padded (exps (greedy p l))) same_entries

-- the entries of lengths along the order can be priced
pub entries_raisable : (l : List ℕ) → Bounded (length_of l) (length l) → All (Raisable 0) (table (length l) (λ i. record { weight = weight (length l) (length_of l) i; len = length_of l i; exp = 0 }))
entries_raisable l ok i z h =
    let E : ℕ → Entry = λ i. record { weight = weight (length l) (length_of l) i; len = length_of l i; exp = 0 } in
    let r : i < length l = (let t = table_length (length l) 0 E in omega arith) in
    let e : get_or (table (length l) E) i z ≡ E i = table_at (length l) 0 E i z r ∙ ap E (zero-add i) in
    rw e (weight_small (length_of l) (length l) ok i r, omega arith)
