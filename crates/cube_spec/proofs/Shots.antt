-- Laws of points that were shot or not: a sum and a count over shot points are totals, of the points as a sum takes them and as a count does.
use Prim.Native.Nat.{ℕ, zero, suc, ◌≤◌, ◌<◌}
use mathlib.Core.Path.{◌≡◌, sym, ◌∙◌, refl, ap}
use mathlib.Core.Bool.{Bool, true, false, ◌&&◌, not}
use mathlib.Core.List.{List, [], ◌∷◌}
use native.Mathlib.Omega.{arith}
use lib.ListN.{length, get_or}
use lib.IntN.{ℤ, pos, ◌+ℤ◌, nat_abs}
use Rattle.cube_spec.specs.Boxes.{pick, sum_n, sum_z}
use Rattle.cube_spec.specs.Shots.{unshot, value_of, shot_of, values, shots}
use Rattle.cube_spec.specs.Choices.{points, cells, agrees, cell_position, total, totals, shot_sum, shot_count, sums, counts}
use Rattle.cube_spec.proofs.Sums.{by, sum_cong}
use Rattle.cube_spec.proofs.Tables.{table_cong}

-- ---- one point

pub value_none : (x : ℤ) → unshot x ≡ true → pos 0 ≡ value_of x
unfolding value_of
value_none x q = rw q

pub value_some : (x : ℤ) → unshot x ≡ false → x ≡ value_of x
unfolding value_of
value_some x q = rw q

pub shot_none : (x : ℤ) → unshot x ≡ true → pos 0 ≡ shot_of x
unfolding shot_of
shot_none x q = rw q

pub shot_some : (x : ℤ) → unshot x ≡ false → pos 1 ≡ shot_of x
unfolding shot_of
shot_some x q = rw q

-- a point as either takes it is no larger than the point, or 1
pub value_small : (x : ℤ) (n : ℕ) → nat_abs x ≤ n → nat_abs (value_of x) ≤ n
unfolding value_of
value_small x n h = by (unshot x) (λ t. rw t (omega arith)) (λ t. rw t h)

pub shot_small : (x : ℤ) → nat_abs (shot_of x) ≤ 1
unfolding shot_of
shot_small x = by (unshot x) (λ t. rw t (omega arith)) (λ t. rw t (omega arith))

-- ---- an array

pub length_values : (l : List ℤ) → length (values l) ≡ length l
unfolding values
length_values [] = refl
length_values (x ∷ l) = ap suc (length_values l)

pub length_shots : (l : List ℤ) → length (shots l) ≡ length l
unfolding shots
length_shots [] = refl
length_shots (x ∷ l) = ap suc (length_shots l)

pub value_at : (l : List ℤ) (i : ℕ) → get_or (values l) i (pos 0) ≡ value_of (get_or l i (pos 0))
unfolding values value_of unshot
value_at [] i = refl
value_at (x ∷ l) zero = refl
value_at (x ∷ l) (suc i) = value_at l i

pub shot_at : (l : List ℤ) (i : ℕ) → i < length l → get_or (shots l) i (pos 0) ≡ shot_of (get_or l i (pos 0))
unfolding shots
shot_at [] i h = absurd (omega arith)
shot_at (x ∷ l) zero h = refl
shot_at (x ∷ l) (suc i) h = shot_at l i (omega arith)

pub values_small : (l : List ℤ) (n : ℕ) → ((i : ℕ) → nat_abs (get_or l i (pos 0)) ≤ n) → (i : ℕ) → nat_abs (get_or (values l) i (pos 0)) ≤ n
values_small l n h i = rw (value_at l i) (value_small (get_or l i (pos 0)) n (h i))

pub shots_small : (l : List ℤ) (i : ℕ) → nat_abs (get_or (shots l) i (pos 0)) ≤ 1
unfolding shots
shots_small [] i = omega arith
shots_small (x ∷ l) zero = shot_small x
shots_small (x ∷ l) (suc i) = shots_small l i

-- ---- sums and counts of a choice

-- what a point adds to a cell: nothing if it does not share the positions, nothing if it is the mark
value_picked : (t : Bool) (x : ℤ) → pick (t && not (unshot x)) x (pos 0) ≡ pick t (value_of x) (pos 0)
unfolding value_of
value_picked false x = refl
value_picked true x = by (unshot x) (λ q. rw q) (λ q. rw q)

shot_picked : (t : Bool) (x : ℤ) → pos (pick (t && not (unshot x)) 1 0) ≡ pick t (shot_of x) (pos 0)
unfolding shot_of
shot_picked false x = refl
shot_picked true x = by (unshot x) (λ q. rw q) (λ q. rw q)

-- a sum of numbers without a sign is the same sum with one
pub sum_pos : (n : ℕ) (f : ℕ → ℕ) → pos (sum_n n f) ≡ sum_z n (λ i. pos (f i))
unfolding sum_n sum_z
sum_pos zero f = refl
sum_pos (suc n) f = ap (λ z. z +ℤ pos (f n)) (sum_pos n f)

module _ (ds : List ℕ) (l : List ℤ) (all : points ds ≤ length l) (mask : ℕ) where
  abbrev point : ℕ → ℤ
  point i = get_or l i (pos 0)

  pub sum_total : (x : ℕ → ℕ) → total ds (λ i. get_or (values l) i (pos 0)) mask x ≡ shot_sum ds point mask x
  unfolding total shot_sum
  sum_total x = sum_cong (points ds) (λ q h. ap (λ v. pick (agrees ds mask q x (length ds)) v (pos 0)) (value_at l q) ∙ sym (value_picked (agrees ds mask q x (length ds)) (point q)))

  pub count_total : (x : ℕ → ℕ) → total ds (λ i. get_or (shots l) i (pos 0)) mask x ≡ pos (shot_count ds point mask x)
  unfolding total shot_count
  count_total x =
      sum_cong (points ds) (λ q h. ap (λ v. pick (agrees ds mask q x (length ds)) v (pos 0)) (shot_at l q (omega arith)) ∙ sym (shot_picked (agrees ds mask q x (length ds)) (point q)))
      ∙ sym (sum_pos (points ds) _)

  pub sums_totals : totals ds (λ i. get_or (values l) i (pos 0)) mask ≡ sums ds point mask
  unfolding totals sums
  sums_totals = table_cong (cells ds mask) 0 _ _ (λ c l u. sum_total (cell_position ds mask c))

  pub counts_totals : totals ds (λ i. get_or (shots l) i (pos 0)) mask ≡ counts ds point mask
  unfolding totals counts
  counts_totals = table_cong (cells ds mask) 0 _ _ (λ c l u. count_total (cell_position ds mask c))

-- "a cell with none has 0 and 0"
none_summed : (n : ℕ) (t : ℕ → Bool) (f : ℕ → ℤ) → sum_n n (λ q. pick (t q) 1 0) ≡ 0 → sum_z n (λ q. pick (t q) (f q) (pos 0)) ≡ pos 0
unfolding sum_n sum_z
none_summed zero t f h = refl
none_summed (suc n) t f h =
    let i = none_summed n t f (omega arith) in
    by (t n) (λ q. absurd (let e : pick {A = ℕ} (t n) 1 0 ≡ 1 = rw q in omega arith)) (λ q. rw (i, q))

pub none_shot : (ds : List ℕ) (array : ℕ → ℤ) (mask : ℕ) (x : ℕ → ℕ) → shot_count ds array mask x ≡ 0 → shot_sum ds array mask x ≡ pos 0
unfolding shot_count shot_sum
none_shot ds array mask x h = none_summed (points ds) (λ q. agrees ds mask q x (length ds) && not (unshot (array q))) array h
