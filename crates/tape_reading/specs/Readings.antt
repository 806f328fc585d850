-- "A reading arrives as whole centimetres, as metres in single precision or as kilometres in single precision."
use Rattle.std.specs.Prelude.{ℕ, ◌*◌, ◌^◌, ◌≡◌, ◌⊎◌, ltb, eqb, ℤ, pos, Float}
use Rattle.std.specs.Float.{nan, inf, fin, binary32}
use Rattle.std.specs.Float.Ieee.{up, down, of_bits}
use Rattle.std.specs.Int.{w32}
use Rattle.std.proofs.Common.{to_z}
use Rattle.cube_spec.specs.Boxes.{pick}
use Rattle.cube_spec.specs.Checks.{Reply, gives, refuses}
use Rattle.tape_reading.specs.declared.types.Reading.{Reading}
use Rattle.tape_reading.specs.declared.types.Reading.TheVariants as Reading'
use Rattle.tape_reading.specs.Nearest.{nearest, signed, magnitude}
use Rattle.tape_reading.specs.Patterns.{negative, not_finite, parts}

-- centimetres in a metre and in a kilometre
abbrev pub metre : ℕ
metre = 100

abbrev pub kilometre : ℕ
kilometre = 100000

-- "15 for a result outside −2,147,483,647 to 2,147,483,647"
abbrev pub largest : ℕ
largest = 2147483647

unfoldable pub in_range : ℤ → Reply ℤ
in_range z = pick (ltb largest (magnitude z)) (refuses 15) (gives z)

-- "The result is the whole centimetre nearest to the float's exact value, halves to the even one", and "14 for a float that is infinite or not a number".
-- The number `fin s m e` is ±m · 2^e, and 2^e is the fraction up e / down e.
unfoldable pub in_centimetres : ℕ → Float → Reply ℤ
in_centimetres scale nan = refuses 14
in_centimetres scale (inf s) = refuses 14
in_centimetres scale (fin s m e) = in_range (signed s (nearest (m * up e * scale) (down e)))

-- "Whole-centimetre points load as before."
unfoldable pub centimetres_of : Reading → Reply ℤ
centimetres_of (Reading'.Centimetres v) = gives v
centimetres_of (Reading'.Metres x) = in_centimetres metre x
centimetres_of (Reading'.Kilometres x) = in_centimetres kilometre x

-- the refusal, 0 for none; and the point. A reading that is refused has no point: 0 stands for it here, and no one reads it, since its tape is refused.
abbrev pub refusal_in : Reply ℤ → ℕ
refusal_in (gives v) = 0
refusal_in (refuses n) = n

abbrev pub value_in : Reply ℤ → ℤ
value_in (gives v) = v
value_in (refuses n) = pos 0

-- ---- from the four bytes of an operand, as the number that they spell

-- "signed 32-bit"
unfoldable pub signed32 : ℕ → ℤ
signed32 b = to_z w32 b

-- "4D (metres) and 4B (kilometres), both hex, carry the four bytes of the float"; any other command, and so 56 and 52, whole centimetres
unfoldable pub reading_of : ℕ → ℕ → Reading
reading_of command b =
    pick (eqb command 0x4D) (Reading'.Metres (of_bits binary32 b))
    (pick (eqb command 0x4B) (Reading'.Kilometres (of_bits binary32 b)) (Reading'.Centimetres (signed32 b)))

-- the commands of floats
abbrev pub Floating : ℕ → Type 0
Floating command = (command ≡ 0x4D) ⊎ (command ≡ 0x4B)

-- the same result from the bits alone (`proofs/Readings.antt`, `from_bits_lem`)
unfoldable pub from_bits : ℕ → ℕ → Reply ℤ
from_bits scale b = pick (not_finite b) (refuses 14) (in_range (signed (negative b) (nearest (parts b * scale) (2 ^ 149))))
