-- From one division to the next, as the code goes. `caps` are the largest exponents, floor(log2 length), in axis order.
use Rattle.std.specs.Prelude.{ℕ, suc, ◌-◌, min, Bool, true, false, ◌&&◌, List, [], ◌∷◌, ltb}
use Rattle.std.proofs.Math.Option.{Option, none, some}
use Rattle.cube_spec.specs.Boxes.{pick}
use Rattle.cube_spec.specs.Ways.{sum_list, log2}

unfoldable pub caps_of : List ℕ → List ℕ
caps_of [] = []
caps_of (d ∷ ds) = log2 d ∷ caps_of ds

-- the first division of q: each axis takes, up to its cap, what the later ones leave over
unfoldable pub filled : List ℕ → ℕ → List ℕ
filled [] q = []
filled (c ∷ cs) q = min c (q - sum_list cs) ∷ filled cs (min q (sum_list cs))

-- the division after another, if there is one: of the other axes if they have a next one, and else one more on this axis, if it has room and they have something to give
unfoldable pub raised_or : ℕ → List ℕ → ℕ → List ℕ → Option (List ℕ) → Option (List ℕ)
raised_or c cs k ks (some r) = some (k ∷ r)
raised_or c cs k ks none = pick (ltb 0 (sum_list ks) && ltb k c) (some (suc k ∷ filled cs (sum_list ks - 1))) none

unfoldable pub next_of : List ℕ → List ℕ → Option (List ℕ)
next_of [] ks = none
next_of (c ∷ cs) [] = none
next_of (c ∷ cs) (k ∷ ks) = raised_or c cs k ks (next_of cs ks)

-- the same in place: the next division, or none and the exponents as they are
pub record Next : Type 0 where
  pub found : Bool
  pub exponents : List ℕ

abbrev pub went : Bool → List ℕ → Next
went found now = record { found = found; exponents = now }

unfoldable pub next_or : List ℕ → Option (List ℕ) → Next
next_or now none = went false now
next_or now (some r) = went true r
