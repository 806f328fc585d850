-- A plan's boards with its axes cut by another portion rule, to say what request 4/12 leaves as it was.
use Rattle.std.specs.Prelude.{ℕ, ◌≡◌, List, [], ◌∷◌, length}
use Rattle.cube_spec.specs.Boxes.{sum_n}
use Rattle.plan_spec.specs.Plans.{PlanLists, moved, share_size, board_count, step_count}
use Rattle.rack_spec.specs.Grids.{Grid, grid_of, boards, share}
use Rattle.rack_spec.specs.Held.{held}
use Rattle.rack_spec.specs.Steps.{TreeStep, expand, transfer, finish, steps, values}

-- the same axes, boards and regions, whose room for a portion stays ceil(D/2^k), with other starts
abbrev pub recut : (ℕ → ℕ → ℕ → ℕ) → Grid → Grid
recut rule g =
    record {
      axes = g.axes;
      len = g.len;
      parts = g.parts;
      start = λ d. rule (g.len d) (g.parts d);
      most = g.most;
      order = g.order;
      rank = g.rank;
    }

-- a step without its number of values
abbrev pub uncounted : TreeStep → TreeStep
uncounted (expand Y) = expand Y
uncounted (transfer Y s r n) = transfer Y s r 0
uncounted (finish Y) = finish Y

unfoldable pub uncounted_all : List TreeStep → List TreeStep
uncounted_all [] = []
uncounted_all (m ∷ l) = uncounted m ∷ uncounted_all l

-- "Printed totals and prices come out as they did": what a grid h has from the plan's lengths, order and exponents, however its axes are cut. The prices
-- themselves are sums that name no portion.
pub record Unmoved (a : PlanLists) (h : Grid) : Type 0 where
  -- 2^p, A and T
  pub as_many : boards h ≡ board_count a
  pub as_large : share h ≡ share_size a
  pub as_long : length (steps h) ≡ step_count a
  -- each step, but for the number of values of a transfer
  pub as_listed : uncounted_all (steps h) ≡ uncounted_all (steps (grid_of a))
  -- what these numbers add up to
  pub as_moved : values (steps h) ≡ moved a
  -- and what all boards together hold at each position
  pub as_held : (at : ℕ) → sum_n (boards h) (held h at) ≡ sum_n (boards (grid_of a)) (held (grid_of a) at)
