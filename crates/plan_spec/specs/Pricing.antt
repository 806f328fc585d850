-- Pricing as the code computes it: recursion over the axes still undecided, each kept or summed. Lengths and exponents are in plan order.
use Rattle.std.specs.Prelude.{ℕ, zero, suc, ◌+◌, ◌-◌, ◌*◌, ◌^◌, ◌≤◌, ◌<◌, List, get_or}
use Rattle.cube_spec.specs.Limits.{axis_limit, point_limit, power_limit}
use Rattle.cube_spec.specs.Boxes.{product}
use Rattle.cube_spec.specs.Choices.{length_of}
use Rattle.cube_spec.specs.Portions.{ceiling}
use Rattle.cube_spec.specs.Tree.{sent}

-- What the choices move that the m axes from i on may still give: k is the exponent of the last axis summed so far, 0 while there is none, and c the cells so far.
unfoldable pub moved_from : List ℕ → List ℕ → ℕ → ℕ → ℕ → ℕ → ℕ
moved_from lens exps zero i k c = c * sent k
moved_from lens exps (suc m) i k c = moved_from lens exps m (i + 1) k (c * length_of lens i) + moved_from lens exps m (i + 1) (get_or exps i 0) c

-- What they add up: q are the cells of the parent so far, 0 while nothing is summed.
unfoldable pub added_from : List ℕ → ℕ → ℕ → ℕ → ℕ → ℕ
added_from lens zero i c q = q
added_from lens (suc m) i c q = added_from lens m (i + 1) (c * length_of lens i) (q * length_of lens i) + added_from lens m (i + 1) c (c * length_of lens i)

-- ceil(D/2^k) of the axis at place d
unfoldable pub most_of : List ℕ → List ℕ → ℕ → ℕ
most_of lens exps d = ceiling (length_of lens d) (2 ^ get_or exps d 0)

-- n axes in plan order, within the limits
pub record Priceable (lens exps : List ℕ) (n : ℕ) : Type 0 where
  pub few : n ≤ axis_limit
  pub some : (d : ℕ) → d < n → 1 ≤ length_of lens d
  pub cut : (d : ℕ) → d < n → get_or exps d 0 ≤ power_limit
  pub small : product (length_of lens) n 0 ≤ point_limit

-- the first i of them are decided
pub record Undecided (lens exps : List ℕ) (n i k c q : ℕ) : Type 0 where
  pub axes : Priceable lens exps n
  pub within : i ≤ n
  pub last : k ≤ power_limit
  pub cells : c * product (length_of lens) (n - i) i ≤ point_limit
  pub parent : q * product (length_of lens) (n - i) i ≤ point_limit
