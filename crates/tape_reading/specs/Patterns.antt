-- Single precision, from its 32 bits: the sign, then 8 bits of exponent (here the field), then 23 bits of fraction (here the digits). A finite number is ±M · 2^E for a whole M;
-- E is −149 or more, and E + 149 is used in its place.
use Rattle.std.specs.Prelude.{ℕ, zero, suc, ◌+◌, ◌*◌, ◌/◌, ◌%◌, ◌^◌, Bool, leb, eqb}

unfoldable pub negative : ℕ → Bool
negative b = leb (2 ^ 31) b

unfoldable pub field : ℕ → ℕ
field b = b % 2 ^ 31 / 2 ^ 23

unfoldable pub digits : ℕ → ℕ
digits b = b % 2 ^ 23

-- the field of all ones: infinite or not a number
unfoldable pub not_finite : ℕ → Bool
not_finite b = eqb (field b) 255

-- M: the digits with a leading one, which zero and the smallest numbers (field 0) lack
unfoldable pub mantissa_of : ℕ → ℕ → ℕ
mantissa_of zero t = t
mantissa_of (suc x) t = 2 ^ 23 + t

-- E + 149
unfoldable pub power_of : ℕ → ℕ
power_of zero = 0
power_of (suc x) = x

-- the size of the number is this many times 2^−149
unfoldable pub parts : ℕ → ℕ
parts b = mantissa_of (field b) (digits b) * 2 ^ power_of (field b)
