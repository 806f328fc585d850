-- The walk takes the children of a choice from right to left.
use Prim.Native.Nat.{ℕ, zero, suc, ◌+◌, ◌-◌, ◌≤◌}
use mathlib.Core.Path.{◌≡◌, refl, ap₂}
use mathlib.Core.List.{List, [], ◌∷◌, ◌++◌}
use native.Mathlib.Omega.{arith}
use Rattle.cube_spec.specs.Tree.{next, children_from, children}
use Rattle.rack_spec.specs.Grids.{Grid, boards}
use Rattle.rack_spec.specs.Steps.{TreeStep, transfers, around, walk}

-- f of the last, .., f of the first
unfoldable pub right_to_left : (List ℕ → List TreeStep) → List (List ℕ) → List TreeStep
right_to_left f [] = []
right_to_left f (c ∷ r) = right_to_left f r ++ f c

-- a child is made final by transfers, and visited: its own children are walked in turn
unfoldable pub child : Grid → List ℕ → List TreeStep
child g Y = transfers g Y (boards g) ++ around Y (g.axes - next Y) (walk g (g.axes - next Y) (next Y) Y)

walk_from : (g : Grid) (m d : ℕ) (Y : List ℕ) → d + m ≡ g.axes → walk g m d Y ≡ right_to_left (child g) (children_from m d Y)
unfolding walk right_to_left children_from
walk_from g zero d Y e = refl
walk_from g (suc m) d Y e = ap₂ ◌++◌ (walk_from g m (d + 1) Y (omega arith)) here
  where
    here : transfers g (d ∷ Y) (boards g) ++ around (d ∷ Y) m (walk g m (d + 1) (d ∷ Y)) ≡ child g (d ∷ Y)
    here = unfold child in (let p : g.axes - suc d ≡ m = omega arith in let q : suc d ≡ d + 1 = omega arith in rw (p, q))

-- "its children are taken from right to left"
pub walk_children : (g : Grid) (Y : List ℕ) → next Y ≤ g.axes → walk g (g.axes - next Y) (next Y) Y ≡ right_to_left (child g) (children g.axes Y)
unfolding children
walk_children g Y h = walk_from g (g.axes - next Y) (next Y) Y (omega arith)
