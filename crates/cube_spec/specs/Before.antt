-- The portion rule of paper 01, and portion rules in general, to say what request 4/12 leaves as it was.
use Rattle.std.specs.Prelude.{ℕ, suc, ◌+◌, ◌*◌, ◌/◌, ◌≤◌, ◌<◌, ◌≡◌}
use Rattle.cube_spec.specs.Portions.{ceiling}

-- "Portion l of an axis of length D runs from floor(l·D/2^k) up to, not including, floor((l+1)·D/2^k)", for any number m of parts
unfoldable pub floor_start : ℕ → ℕ → ℕ → ℕ
floor_start D m l = l * D / m

-- starts that cut an axis of length D in m portions, each of a point at least and of ceil(D/m) at most
pub record Cuts (D m : ℕ) (start : ℕ → ℕ) : Type 0 where
  pub first : start 0 ≡ 0
  pub last : start m ≡ D
  pub rising : (l : ℕ) → l < m → start l < start (suc l)
  pub widest : (l : ℕ) → l < m → start (suc l) ≤ start l + ceiling D m

-- a rule cuts an axis so in any number of portions from 1 to its length
abbrev pub Cutting : (ℕ → ℕ → ℕ → ℕ) → Type 0
Cutting rule = (D m : ℕ) → 0 < m → m ≤ D → Cuts D m (rule D m)
