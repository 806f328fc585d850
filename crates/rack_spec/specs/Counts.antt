-- How many steps the walk over an axis and those after it has, as the code counts them.
use Rattle.std.specs.Prelude.{ℕ, zero, suc, ◌+◌, ◌-◌, ◌*◌, ◌^◌, List}
use Rattle.cube_spec.specs.Boxes.{product}
use Rattle.cube_spec.specs.Tree.{kept}
use Rattle.rack_spec.specs.Grids.{Grid}

-- the labellings of the m axes from d on
unfoldable pub span : Grid → ℕ → ℕ → ℕ
span g m d = product g.parts m d

-- the labellings of the axes before d that Y keeps
unfoldable pub labellings : Grid → ℕ → List ℕ → ℕ
labellings g d Y = product (kept Y g.parts) d 0

-- the transfers of a walk over the m axes from d on, for each of those labellings
unfoldable pub sendings : Grid → ℕ → ℕ → ℕ
sendings g zero d = 0
sendings g (suc m) d = sendings g m (d + 1) * (g.parts d + 1) + span g m (d + 1) * (g.parts d - 1)

-- the finishes and the expansions of a walk over m axes
unfoldable pub marks : ℕ → ℕ
marks zero = 0
marks (suc m) = 2 ^ suc m - 1 + (2 ^ m - 1)

unfoldable pub walk_count : Grid → ℕ → ℕ → ℕ → ℕ
walk_count g m d n = sendings g m d * n + marks m
