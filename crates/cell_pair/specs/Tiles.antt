-- Columns of points, summed in 32-bit numbers: each point raised by 2^31, so that none is negative and the mark is 0, and cut into two halves of 16 bits.
use Rattle.std.specs.Prelude.{◌≡◌, ℕ, ◌+◌, ◌-◌, ◌*◌, ◌/◌, ◌%◌, ◌≤◌, ◌<◌, List, length, get_or, eqb, ltb, ℤ, pos, negsuc, ◌+ℤ◌, ◌-ℤ◌}
use Rattle.cube_spec.specs.Boxes.{pick, sum_z}
use Rattle.cube_spec.specs.Shots.{values, shots}
use Rattle.cell_spec.specs.Rows.{every}

unfoldable pub raised_of : ℤ → ℕ
raised_of (pos n) = n + 2147483648
raised_of (negsuc n) = 2147483647 - n

-- what a point adds to the low halves, to the high halves and to the count
unfoldable pub low_of : ℤ → ℕ
low_of x = raised_of x % 65536

unfoldable pub high_of : ℤ → ℕ
high_of x = raised_of x / 65536

unfoldable pub count_of : ℤ → ℕ
count_of x = pick (eqb (raised_of x) 0) 0 1

-- what a column holds of k points that stand t apart
pub record Column (a : List ℤ) (at t k low high hits : ℕ) : Type 0 where
  pub low_most : low ≤ k * 65535
  pub high_most : high ≤ k * 65535
  pub hits_most : hits ≤ k
  pub sums : pos (high * 65536 + low) ≡ sum_z k (every (values a) at t) +ℤ pos (hits * 2147483648)
  pub counts : pos hits ≡ sum_z k (every (shots a) at t)

-- n columns, u apart, each of k points
pub record Tile (a : List ℤ) (at u t n k : ℕ) (l h c : List ℕ) : Type 0 where
  pub low_room : n ≤ length l
  pub high_room : n ≤ length h
  pub hits_room : n ≤ length c
  pub columns : (j : ℕ) → j < n → Column a (at + j * u) t k (get_or l j 0) (get_or h j 0) (get_or c j 0)

-- n neighbouring columns, of which the first i have k points more than the m that the others have
pub record Part (a : List ℤ) (at t n m k i : ℕ) (l h c : List ℕ) : Type 0 where
  pub low_room : n ≤ length l
  pub high_room : n ≤ length h
  pub hits_room : n ≤ length c
  pub columns : (j : ℕ) → j < n → Column a (at + j * 1) t (pick (ltb j i) (m + k) m) (get_or l j 0) (get_or h j 0) (get_or c j 0)

-- the sum and the count of column i
unfoldable pub sums_of : List ℕ → List ℕ → List ℕ → (ℕ → ℤ)
sums_of l h c i = pos (get_or h i 0 * 65536 + get_or l i 0) -ℤ pos (get_or c i 0 * 2147483648)

unfoldable pub counts_of : List ℕ → (ℕ → ℤ)
counts_of c i = pos (get_or c i 0)
