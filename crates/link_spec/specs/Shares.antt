-- A division's cost as the code adds it up: each axis has the cells of the choices whose cheapest axis it is, and they multiply out as a weight does.
use Rattle.std.specs.Prelude.{ℕ, ◌+◌, ◌*◌, ◌≤◌, ◌<◌, Bool, ◌&&◌, ◌||◌, List, eqb, ltb, get_or}
use Rattle.cube_spec.specs.Limits.{axis_limit, power_limit}
use Rattle.cube_spec.specs.Boxes.{pick, sum_n, product}
use Rattle.plan_spec.specs.Choosing.{Bounded}
use Rattle.link_spec.specs.Search.{link_limit}

-- does axis j, at the fare a, go before axis i, at the fare b: at a lower one, or at the same with a lower number?
unfoldable pub goes_before : ℕ → ℕ → ℕ → ℕ → Bool
goes_before a b j i = ltb a b || (eqb a b && ltb j i)

-- a choice whose cheapest axis is i sums i out and keeps each axis that goes before i; any other axis is kept or summed
unfoldable pub factor_of : ℕ → ℕ → ℕ → ℕ → ℕ → ℕ
factor_of len a b j i = pick (eqb j i) 1 (pick (goes_before a b j i) len (len + 1))

abbrev pub factor : (ℕ → ℕ) → (ℕ → ℕ) → ℕ → ℕ → ℕ
factor len fares i j = factor_of (len j) (fares j) (fares i) j i

-- the cells of those choices, of n axes
unfoldable pub share : (ℕ → ℕ) → (ℕ → ℕ) → ℕ → ℕ → ℕ
share len fares n i = product (factor len fares i) n 0

unfoldable pub shares_cost : (ℕ → ℕ) → (ℕ → ℕ) → ℕ → ℕ
shares_cost len fares n = sum_n n (λ i. fares i * share len fares n i)

-- ---- n axes that can be priced in 64 bits

-- no cell costs more: 2^10 - 1 values at 1,000
abbrev pub fare_limit : ℕ
fare_limit = 1023000

pub record Priceable (lens fares : List ℕ) (n : ℕ) : Type 0 where
  pub axes : Bounded (λ d. get_or lens d 0) n
  pub low : (d : ℕ) → d < n → get_or fares d 0 ≤ fare_limit

-- exponents and link weights in their ranges
pub record Rated (exponents links : List ℕ) (n : ℕ) : Type 0 where
  pub few : n ≤ axis_limit
  pub cut : (d : ℕ) → d < n → get_or exponents d 0 ≤ power_limit
  pub low : (d : ℕ) → d < n → get_or links d 0 ≤ link_limit
