-- Laws for counting the cells of a choice, axis by axis.
use Prim.Native.Nat.{ℕ, zero, suc, ◌+◌, ◌*◌, ◌≤◌, ◌<◌, min}
use mathlib.Core.Path.{◌≡◌, sym, ◌∙◌, refl, ap}
use mathlib.Core.Bool.{true, false}
use mathlib.Core.List.{List, [], ◌∷◌, ◌++◌}
use native.Mathlib.Nat.{mul-zero, mul-one, zero-add, le_trans, mul-le-mul_right}
use native.Mathlib.Omega.{arith}
use native.Mathlib.Decide.{dec_le}
use lib.ListN.{length}
use lib.Pow.{pow_pos}
use Rattle.cube_spec.specs.Limits.{point_limit}
use Rattle.cube_spec.specs.Boxes.{product}
use Rattle.cube_spec.specs.Choices.{keeps, full_mask, grand_mask, length_of, kept_length, cells, cell_cap, counted_cells, points, Countable}
use Rattle.cube_spec.proofs.Sums.{by}
use Rattle.cube_spec.proofs.Boxing.{product_cong}
use Rattle.cube_spec.proofs.Products.{product_le, product_ones, product_last, product_shift}
use Rattle.cube_spec.proofs.Digits.{keeps_past, keeps_full}

pub kept_length_lem : (ds : List ℕ) (mask d : ℕ) → keeps mask d ≡ true → kept_length ds mask d ≡ length_of ds d
unfolding kept_length
kept_length_lem ds mask d h = rw h

pub summed_length : (ds : List ℕ) (mask d : ℕ) → keeps mask d ≡ false → kept_length ds mask d ≡ 1
unfolding kept_length
summed_length ds mask d h = rw h

kept_le : (ds : List ℕ) (mask d : ℕ) → 0 < length_of ds d → kept_length ds mask d ≤ length_of ds d
kept_le ds mask d h =
    by (keeps mask d)
    (λ t. let q = kept_length_lem ds mask d t in omega arith)
    (λ t. let q = summed_length ds mask d t in omega arith)

module _ (ds : List ℕ) (n mask : ℕ) (ok : Countable ds n) where
  pub cells_le : cells ds mask ≤ points ds
  unfolding cells points
  cells_le =
      let q = ok.each in
      product_le (kept_length ds mask) (length_of ds) (length ds) 0 (λ i l r. kept_le ds mask i (ok.some i (omega arith)))

  pub cells_small : cells ds mask ≤ point_limit
  cells_small = le_trans cells_le ok.small

  -- accepted lengths are counted exactly
  pub counted_is : counted_cells ds mask ≡ cells ds mask
  unfolding counted_cells
  counted_is = let s = cells_small in omega arith

-- ---- counting axis by axis, for any lengths

-- a product that is cut on the way is cut where the whole one is
cut_times : (a b : ℕ) → min cell_cap (min cell_cap a * b) ≡ min cell_cap (a * b)
cut_times a zero = ap (min cell_cap) (mul-zero (min cell_cap a) ∙ sym (mul-zero a))
cut_times a (suc b) = go (dec_le a cell_cap)
  where
    go : Dec (a ≤ cell_cap) → min cell_cap (min cell_cap a * suc b) ≡ min cell_cap (a * suc b)
    go (yes h) = let e : min cell_cap a ≡ a = omega arith in rw e refl
    go (no h) =
        let e : min cell_cap a ≡ cell_cap = omega (arith, h) in
        let l : cell_cap ≤ a = omega (arith, h) in
        let m : cell_cap * suc b ≤ a * suc b = mul-le-mul_right (suc b) l in
        rw e (omega arith)

module _ (ds : List ℕ) (mask : ℕ) where
  -- what is counted along the first d axes
  abbrev pub counted : ℕ → ℕ
  counted d = min cell_cap (product (kept_length ds mask) d 0)

  pub counted_start : 1 ≡ counted 0
  unfolding product
  counted_start = refl

  next_axis : (d : ℕ) → product (kept_length ds mask) (d + 1) 0 ≡ product (kept_length ds mask) d 0 * kept_length ds mask d
  next_axis d = product_last (kept_length ds mask) d 0 ∙ ap (λ i. product (kept_length ds mask) d 0 * kept_length ds mask i) (zero-add d)

  module _ (d count : ℕ) (e : count ≡ counted d) where
    pub counted_kept : keeps mask d ≡ true → min cell_cap (count * length_of ds d) ≡ counted (d + 1)
    counted_kept t =
        let k = kept_length_lem ds mask d t in
        rw (e, next_axis d, k) (cut_times (product (kept_length ds mask) d 0) (length_of ds d))

    pub counted_summed : keeps mask d ≡ false → count ≡ counted (d + 1)
    counted_summed t =
        let k = summed_length ds mask d t in
        rw (next_axis d, k, mul-one) e

    pub counted_end : d ≡ length ds → count ≡ counted_cells ds mask
    unfolding counted_cells cells
    counted_end z = rw (← z) e

-- "The grand total, which keeps no axis, has .. one cell."
pub grand_cell : (ds : List ℕ) → cells ds grand_mask ≡ 1
unfolding cells
grand_cell ds = product_ones (kept_length ds grand_mask) (length ds) 0 (λ d l r. summed_length ds 0 d (keeps_past 0 d (pow_pos d)))

-- the full choice's cells are the points
pub full_cells : (ds : List ℕ) → cells ds (full_mask (length ds)) ≡ points ds
unfolding cells points
full_cells ds = product_cong (length ds) 0 (λ d l r. kept_length_lem ds (full_mask (length ds)) d (keeps_full (length ds) d (omega arith)))

-- ---- the points, one length after the other

pub points_none : points [] ≡ 1
unfolding points product
points_none = refl

pub points_first : (d : ℕ) (ds : List ℕ) → points (d ∷ ds) ≡ d * points ds
unfolding points product
points_first d ds = ap (λ x. d * x) (sym (product_shift (length_of (d ∷ ds)) (length ds) 0))

pub points_last : (ds : List ℕ) (d : ℕ) → points (ds ++ d ∷ []) ≡ points ds * d
points_last [] d = let e = points_first d [] in let n = points_none in omega arith
points_last (x ∷ ds) d = rw (points_first x (ds ++ d ∷ []), points_first x ds, points_last ds d) (omega arith)
