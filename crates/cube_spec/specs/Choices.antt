-- Choices, their cells, and the total of a cell, over axes by number. `ds` are the lengths.
use Rattle.std.specs.Prelude.{ℕ, zero, suc, ◌+◌, ◌-◌, ◌/◌, ◌%◌, ◌^◌, ◌≤◌, ◌<◌, min, ◌≡◌, Bool, true, ◌&&◌, ◌||◌, not, List, eqb, length, get_or, ℤ, pos}
use Rattle.cube_spec.specs.Limits.{axis_limit, point_limit}
use Rattle.cube_spec.specs.Boxes.{pick, sum_n, sum_z, table, product, position}
use Rattle.cube_spec.specs.Shots.{unshot}

-- "A choice is the set of kept axes, written as a one-byte mask with bit d set when axis d is kept."
unfoldable pub keeps : ℕ → ℕ → Bool
keeps mask d = eqb (mask / 2 ^ d % 2) 1

-- the choice that keeps all of n axes
unfoldable pub full_mask : ℕ → ℕ
full_mask n = 2 ^ n - 1

-- the choice with axis d summed out too, and with axis d kept too
unfoldable pub without_mask : ℕ → ℕ → ℕ
without_mask mask d = pick (keeps mask d) (mask - 2 ^ d) mask

unfoldable pub with_mask : ℕ → ℕ → ℕ
with_mask mask d = pick (keeps mask d) mask (mask + 2 ^ d)

-- "The grand total, which keeps no axis, has mask 0 and one cell."
abbrev pub grand_mask : ℕ
grand_mask = 0

-- the length of axis d
abbrev pub length_of : List ℕ → ℕ → ℕ
length_of ds d = get_or ds d 0

-- a choice as a box: an axis that is summed out has extent 1
unfoldable pub kept_length : List ℕ → ℕ → ℕ → ℕ
kept_length ds mask d = pick (keeps mask d) (length_of ds d) 1

-- the cells of a choice, and the points of the array
unfoldable pub cells : List ℕ → ℕ → ℕ
cells ds mask = product (kept_length ds mask) (length ds) 0

unfoldable pub points : List ℕ → ℕ
points ds = product (length_of ds) (length ds) 0

-- the cells of a choice as code counts them for lengths that nobody has judged: cut at a cap, whose product with any 32-bit length fits 64 bits
abbrev pub cell_cap : ℕ
cell_cap = 4294967295

unfoldable pub counted_cells : List ℕ → ℕ → ℕ
counted_cells ds mask = min cell_cap (cells ds mask)

-- "Arrays are row-major in axis order": the position of point q on axis d, and that of cell c of a choice
unfoldable pub point_position : List ℕ → ℕ → ℕ → ℕ
point_position ds q d = position (length_of ds) (length ds) 0 q d

unfoldable pub cell_position : List ℕ → ℕ → ℕ → ℕ → ℕ
cell_position ds mask c d = position (kept_length ds mask) (length ds) 0 c d

-- does point q share the positions x on each of the first m axes that is kept?
unfoldable pub agrees : List ℕ → ℕ → ℕ → (ℕ → ℕ) → ℕ → Bool
agrees ds mask q x zero = true
agrees ds mask q x (suc m) = (not (keeps mask m) || eqb (point_position ds q m) (x m)) && agrees ds mask q x m

-- Demand 2: a total is the exact sum of all points that share its positions x on the kept axes; of any numbers in place of points
unfoldable pub total : List ℕ → (ℕ → ℤ) → ℕ → (ℕ → ℕ) → ℤ
total ds array mask x = sum_z (points ds) (λ q. pick (agrees ds mask q x (length ds)) (array q) (pos 0))

-- all totals of a choice, row-major in axis order
unfoldable pub totals : List ℕ → (ℕ → ℤ) → ℕ → List ℤ
totals ds array mask = table (cells ds mask) (λ c. total ds array mask (cell_position ds mask c))

-- "Every result cell carries the sum of the points shot and, beside it, how many were shot": of the points that share its positions x on the kept axes
unfoldable pub shot_sum : List ℕ → (ℕ → ℤ) → ℕ → (ℕ → ℕ) → ℤ
shot_sum ds array mask x = sum_z (points ds) (λ q. pick (agrees ds mask q x (length ds) && not (unshot (array q))) (array q) (pos 0))

unfoldable pub shot_count : List ℕ → (ℕ → ℤ) → ℕ → (ℕ → ℕ) → ℕ
shot_count ds array mask x = sum_n (points ds) (λ q. pick (agrees ds mask q x (length ds) && not (unshot (array q))) 1 0)

-- all of these of a choice, row-major in axis order
unfoldable pub sums : List ℕ → (ℕ → ℤ) → ℕ → List ℤ
sums ds array mask = table (cells ds mask) (λ c. shot_sum ds array mask (cell_position ds mask c))

unfoldable pub counts : List ℕ → (ℕ → ℤ) → ℕ → List ℤ
counts ds array mask = table (cells ds mask) (λ c. pos (shot_count ds array mask (cell_position ds mask c)))

-- lengths whose choices can be counted by the machine: n of them, none 0, within the limits of axes and points
pub record Countable (ds : List ℕ) (n : ℕ) : Type 0 where
  pub few : n ≤ axis_limit
  pub each : length ds ≡ n
  pub some : (d : ℕ) → d < n → 0 < length_of ds d
  pub small : points ds ≤ point_limit
