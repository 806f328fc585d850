-- Points that were never shot.
use Rattle.std.specs.Prelude.{Bool, false, List, [], ◌∷◌, eqb, ℤ, pos, negsuc}
use Rattle.cube_spec.specs.Boxes.{pick}

-- "The trade now marks such a point −2,147,483,648.": is x the mark? (negsuc n is −(n + 1))
unfoldable pub unshot : ℤ → Bool
unshot (pos n) = false
unshot (negsuc n) = eqb n 2147483647

-- a point as a sum takes it, the mark as 0; and as a count does, a shot point as 1
unfoldable pub value_of : ℤ → ℤ
value_of x = pick (unshot x) (pos 0) x

unfoldable pub shot_of : ℤ → ℤ
shot_of x = pick (unshot x) (pos 0) (pos 1)

-- an array as the area of sums takes it, and as the area of counts does
unfoldable pub values : List ℤ → List ℤ
values [] = []
values (x ∷ l) = value_of x ∷ values l

unfoldable pub shots : List ℤ → List ℤ
shots [] = []
shots (x ∷ l) = shot_of x ∷ shots l
