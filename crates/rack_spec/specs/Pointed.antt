-- "A grid division gives every axis an exponent k with 2^k at most its length, the exponents summing to p; exactly then each board has a point": the second half, over exponents of any size.
use Rattle.std.specs.Prelude.{ℕ, ◌^◌, ◌≤◌, ◌<◌, ◌≡◌, List, length}
use Rattle.cube_spec.specs.Ways.{sum_list}
use Rattle.plan_spec.specs.Plans.{count}
use Rattle.rack_spec.specs.Grids.{Grid, grid_of, extent}

-- board b has a point: none of its portions is empty
abbrev pub HasPoint : Grid → ℕ → Type 0
HasPoint g b = (d : ℕ) → d < g.axes → 1 ≤ extent g b d

-- an exponent for each axis, p in all, and an order by which the boards get their numbers, with a point for each of the 2^p boards
pub record Pointed (ds : List ℕ) (p : ℕ) : Type 0 where
  pub exponents : List ℕ
  pub each : length exponents ≡ length ds
  pub sums : sum_list exponents ≡ p
  pub order : List ℕ
  pub places : length order ≡ length ds
  pub once : (d : ℕ) → d < length ds → count d order ≡ 1
  pub points : (b : ℕ) → b < 2 ^ p → HasPoint (grid_of (record { lengths = ds; order = order; exponents = exponents; p = p })) b
