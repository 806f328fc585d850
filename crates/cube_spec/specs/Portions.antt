-- The portion rule, for any number m of parts from 1 on. Every proof goes by its laws (`proofs/Portions.antt`), and none by its formula but for computed cases.
use Rattle.std.specs.Prelude.{ℕ, ◌+◌, ◌-◌, ◌/◌, ◌%◌, ltb}
use Rattle.cube_spec.specs.Boxes.{pick, sum_n}

-- "When an axis of length D is divided in 2^k, the first D mod 2^k portions get one point more than the others": how many points portion l gets. Where there are
-- fewer points than parts, the first D get one each.
unfoldable pub portion_extent : ℕ → ℕ → ℕ → ℕ
portion_extent D m l = D / m + pick (ltb l (D % m)) 1 0

-- where it starts: after the points of the portions before it. The last one ends at start m.
unfoldable pub portion_start : ℕ → ℕ → ℕ → ℕ
portion_start D m l = sum_n l (portion_extent D m)

-- ceil(D/m): the longest portion
unfoldable pub ceiling : ℕ → ℕ → ℕ
ceiling D m = (D + (m - 1)) / m
