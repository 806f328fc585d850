-- The table of readings, computed by the checker.
use mathlib.Core.Path.{◌≡◌, refl}
use mathlib.Core.List.{List, [], ◌∷◌, ◌++◌}
use lib.IntN.{ℤ, pos, negsuc}
use Rattle.cube_spec.specs.Checks.{Reply, gives, refuses}
use Rattle.tape_reading.specs.Computing.{computing}
use Rattle.tape_reading.specs.Readings.{in_range, centimetres_of, reading_of}
use Rattle.tape_reading.proofs.Listed.{Row, request, zero_or_one, ties, range, smallest, not_finite_lem, fields, whole}

unfoldable pub given : List Row → List (Reply ℤ)
given [] = []
given (r ∷ l) = centimetres_of (reading_of r.command r.bits) ∷ given l

unfoldable pub due : List Row → List (Reply ℤ)
due [] = []
due (r ∷ l) = r.due ∷ due l

unfoldable pub rows : List Row
unfolding request zero_or_one ties range smallest not_finite_lem fields whole
rows = request ++ (zero_or_one ++ (ties ++ (range ++ (smallest ++ (not_finite_lem ++ (fields ++ whole))))))

-- "0.125 m gives 12, 0.375 m gives 38, −0.125 m gives −12, and both zeros give 0"; then every border on both scales, and whole centimetres
pub table_holds : given rows ≡ due rows
unfolding computing given due rows
table_holds = refl

-- "outside −2,147,483,647 to 2,147,483,647": the ends of the range, which no float gives
pub ends : (in_range (pos 2147483647) ≡ gives (pos 2147483647))
    × (in_range (negsuc 2147483646) ≡ gives (negsuc 2147483646))
    × (in_range (pos 2147483648) ≡ refuses 15)
    × (in_range (negsuc 2147483647) ≡ refuses 15)
unfolding computing
ends = (refl, refl, refl, refl)
