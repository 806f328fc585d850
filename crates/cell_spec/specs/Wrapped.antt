-- "Sums in a step are taken modulo 2^64"
use Rattle.std.specs.Prelude.{ℕ, ◌-◌, ◌%◌, ◌^◌, ℤ, pos, negsuc}
use Rattle.std.specs.Int.{w64}
use Rattle.std.proofs.Common.{to_z}

-- the remainder of a whole number by 2^64, from 0 up
unfoldable pub residue : ℤ → ℕ
residue (pos n) = n % 2 ^ 64
residue (negsuc n) = 2 ^ 64 - 1 - n % 2 ^ 64

-- the signed 64-bit number that is equal to z modulo 2^64
unfoldable pub wrapped : ℤ → ℤ
wrapped z = to_z w64 (residue z)
