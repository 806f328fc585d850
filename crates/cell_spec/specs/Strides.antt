-- A box of points in an array: m axes from axis d on, axis i of e i positions that stand t i points apart.
-- Its cells go row-major, the last axis fastest; the array's own order of the axes shows in the strides t alone.
use Rattle.std.specs.Prelude.{◌≡◌, ℕ, zero, suc, ◌+◌, ◌-◌, ◌*◌, ◌/◌, ◌%◌, ◌≤◌, ◌<◌, List, length, get_or, ℤ, pos}
use Rattle.cube_spec.specs.Boxes.{sum_z, product}
use Rattle.cube_spec.specs.Limits.{point_limit}
use Rattle.cell_spec.specs.Wrapped.{wrapped}
use Rattle.cell_spec.specs.Rows.{every}

-- the number of cells
unfoldable pub box_size : List ℕ → ℕ → ℕ → ℕ
box_size e m d = product (λ i. get_or e i 0) m d

-- how far cell q stands from the first one in the array
unfoldable pub offset : List ℕ → List ℕ → ℕ → ℕ → ℕ → ℕ
offset e t zero d q = 0
offset e t (suc m) d q = q / box_size e m (d + 1) * get_or t d 0 + offset e t m (d + 1) (q % box_size e m (d + 1))

-- the places of the cells of the box whose first one stands at a place of the array, and what they hold
unfoldable pub box_place : List ℕ → List ℕ → ℕ → ℕ → ℕ → (ℕ → ℕ)
box_place e t m d at q = at + offset e t m d q

unfoldable pub box_cell : List ℤ → List ℕ → List ℕ → ℕ → ℕ → ℕ → (ℕ → ℤ)
box_cell array e t m d at q = get_or array (box_place e t m d at q) (pos 0)

-- sum q of a box of sums: its n points stand step apart, the first of them at the box's cell q
unfoldable pub box_sums : List ℤ → List ℕ → List ℕ → ℕ → ℕ → ℕ → ℕ → ℕ → (ℕ → ℤ)
box_sums array e t m d at n step q = wrapped (sum_z n (every array (box_place e t m d at q) step))

-- the box lies within an array of a points, and has cells
pub record InArray (a : ℕ) (e t : List ℕ) (m d at : ℕ) : Type 0 where
  pub extents : d + m ≤ length e
  pub strides : d + m ≤ length t
  pub some : 0 < box_size e m d
  pub places : (q : ℕ) → q < box_size e m d → at + offset e t m d q < a

-- and a slice of w cells has as many cells from a place on, where the box's cells stand side by side
pub record Boxed (w a : ℕ) (e t : List ℕ) (m d at beside : ℕ) : Type 0 where
  pub within : InArray a e t m d at
  pub fits : beside + box_size e m d ≤ w

-- a box of sums of n points each lies within an array of a points, and a slice of w cells has as many cells from a place on
pub record Sums (w a : ℕ) (e t : List ℕ) (m d at n step dst : ℕ) : Type 0 where
  pub extents : d + m ≤ length e
  pub strides : d + m ≤ length t
  pub some : 0 < box_size e m d
  pub any : 0 < n
  pub places : (q : ℕ) → q < box_size e m d → at + offset e t m d q + n * step < a + step
  pub writes : dst + box_size e m d ≤ w

-- two boxes with the same cells at the same places
pub record Same (e t : List ℕ) (m d : ℕ) (e' t' : List ℕ) (m' d' : ℕ) : Type 0 where
  pub size_same : box_size e m d ≡ box_size e' m' d'
  pub offset_same : (q : ℕ) → q < box_size e m d → offset e t m d q ≡ offset e' t' m' d' q

-- what merging asks of a box: it has cells, and so few points that no product passes 64 bits
pub record Mergeable (e t : List ℕ) (n : ℕ) : Type 0 where
  pub extents : n ≤ length e
  pub strides : n ≤ length t
  pub some : 0 < box_size e n 0
  pub most : box_size e n 0 ≤ point_limit
  pub near : (i : ℕ) → i < n → get_or t i 0 ≤ point_limit

-- what it leaves: the same box, as that of the axes from d up to n
pub record Merged (e t e' t' : List ℕ) (n d : ℕ) : Type 0 where
  pub axes : d ≤ n
  pub extents : length e' ≡ length e
  pub strides : length t' ≡ length t
  pub same : Same e t n 0 e' t' (n - d) d

-- one axis at a time: the box of the axes from d up to n, whose first axis is merged into the next one, left out or kept
pub record FirstAxis (e t : List ℕ) (n d : ℕ) : Type 0 where
  pub below : d < n
  pub extents : n ≤ length e
  pub strides : n ≤ length t
  pub some : 0 < box_size e (n - d) d
  pub most : box_size e (n - d) d ≤ point_limit
  pub near : (i : ℕ) → i < n → get_or t i 0 ≤ point_limit

-- the same box, as that of the axes from k up to n; only an extent after axis d has changed
pub record FirstMerged (e t e' : List ℕ) (n d k : ℕ) : Type 0 where
  pub least : d ≤ k
  pub axes : k ≤ n
  pub extents : length e' ≡ length e
  pub before : (i : ℕ) → i ≤ d → get_or e' i 0 ≡ get_or e i 0
  pub same : Same e t (n - d) d e' t (n - k) k
