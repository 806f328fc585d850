-- Texts and decimal numbers as bytes.
use Rattle.std.specs.Prelude.{ℕ, zero, suc, ◌+◌, ◌/◌, ◌%◌, Bool, true, false, List, ◌++◌, ltb, ℤ, pos, negsuc}
use mathlib.Core.List as List
use Prim.Native.String.{String, [], ◌∷◌}
use Prim.Native.Char.{code}
use Rattle.cube_spec.specs.Boxes.{pick}

-- the bytes of a text in ASCII
unfoldable pub text : String → List ℕ
text [] = List.[]
text (c ∷ s) = List.◌∷◌ (code c) (text s)

-- the decimal digits of n; `f` is at least as many
unfoldable pub digits : ℕ → ℕ → List ℕ
digits zero n = List.[]
digits (suc f) n =
    let more = digits f (n / 10) ++ List.◌∷◌ (48 + n % 10) List.[] in
    pick (ltb n 10) (List.◌∷◌ (48 + n) List.[]) more

unfoldable pub decimal : ℕ → List ℕ
decimal n = digits (suc n) n

-- "a minus sign stands before a negative cell"
unfoldable pub signed : ℤ → List ℕ
signed (pos n) = decimal n
signed (negsuc n) = text "-" ++ decimal (suc n)
