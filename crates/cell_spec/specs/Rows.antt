-- What the loops leave in a slice of cells. A source is a function of an index: a slice read from a place on, a sum, a constant.
use Rattle.std.specs.Prelude.{ℕ, zero, suc, ◌+◌, ◌*◌, ◌/◌, ◌%◌, ◌≤◌, List, ◌⊎◌, get_or, set, ℤ, pos, ◌+ℤ◌}
use Rattle.cube_spec.specs.Boxes.{sum_z}
use Rattle.cell_spec.specs.Wrapped.{wrapped}

-- the cells of l from a place on
unfoldable pub from : List ℤ → ℕ → (ℕ → ℤ)
from l at i = get_or l (at + i) (pos 0)

-- every step-th cell of l from a place on
unfoldable pub every : List ℤ → ℕ → ℕ → (ℕ → ℤ)
every l at step m = get_or l (at + m * step) (pos 0)

-- w with the values f 0, f 1, .., n of them, at the places g 0, g 1, ..
unfoldable pub placed : List ℤ → ℕ → (ℕ → ℕ) → (ℕ → ℤ) → List ℤ
placed w zero g f = w
placed w (suc n) g f = set (placed w n g f) (g n) (f n)

-- w with the values f 0, f 1, .. in the n cells from a place on
unfoldable pub written : List ℤ → ℕ → ℕ → (ℕ → ℤ) → List ℤ
written w at n f = placed w n (λ i. at + i) f

unfoldable pub zeros : ℕ → ℤ
zeros i = pos 0

-- w with x added to one cell, modulo 2^64
abbrev pub add_at : List ℤ → ℕ → ℤ → List ℤ
add_at w i x = set w i (wrapped (get_or w i (pos 0) +ℤ x))

-- the values p added to the cells of w from a place on
unfoldable pub added_to : List ℤ → ℕ → (ℕ → ℤ) → (ℕ → ℤ)
added_to w at p i = wrapped (from w at i +ℤ p i)

-- cell c of the child that sums out the middle axis of a parent p of (outer, e, inner) cells
unfoldable pub axis_sums : (ℕ → ℤ) → ℕ → ℕ → (ℕ → ℤ)
axis_sums p e inner c = wrapped (sum_z e (λ m. p ((c / inner * e + m) * inner + c % inner)))

-- cell i of the sum of e rows of n cells each
unfoldable pub row_sums : (ℕ → ℤ) → ℕ → ℕ → (ℕ → ℤ)
row_sums p e n i = wrapped (sum_z e (λ m. p (m * n + i)))

-- sum i of a row of sums: the e values of a sum stand t apart, the sums u apart
unfoldable pub combs : List ℤ → ℕ → ℕ → ℕ → ℕ → (ℕ → ℤ)
combs l at u e t i = wrapped (sum_z e (every l (at + i * u) t))

-- the n cells from a on and those from b on do not meet
abbrev pub Apart : ℕ → ℕ → ℕ → Type 0
Apart a b n = (a + n ≤ b) ⊎ (b + n ≤ a)
