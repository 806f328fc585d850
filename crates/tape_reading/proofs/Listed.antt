-- Readings and what each gives, by the border that it lies at. Written by `compare table readings`, which works in double precision,
-- where the product with the scale is exact.
use Prim.Native.Nat.{ℕ}
use mathlib.Core.List.{List, [], ◌∷◌}
use lib.IntN.{ℤ, pos, negsuc}
use Rattle.cube_spec.specs.Checks.{Reply, gives, refuses}

-- a command, the four bytes of its operand as a number, and what it gives
pub record Row : Type 0 where
  pub command : ℕ
  pub bits : ℕ
  pub due : Reply ℤ

-- "0.125 m gives 12, 0.375 m gives 38, −0.125 m gives −12, and both zeros give 0"
unfoldable pub request : List Row
request =
    record { command = 0x4D; bits = 0x3E000000; due = gives (pos 12) }
    ∷ record { command = 0x4D; bits = 0x3EC00000; due = gives (pos 38) }
    ∷ record { command = 0x4D; bits = 0xBE000000; due = gives (negsuc 11) }
    ∷ record { command = 0x4D; bits = 0x00000000; due = gives (pos 0) }
    ∷ record { command = 0x4D; bits = 0x80000000; due = gives (pos 0) }
    ∷ []

-- the last pattern that gives 0 and the first that does not
unfoldable pub zero_or_one : List Row
zero_or_one =
    record { command = 0x4D; bits = 0x3BA3D70A; due = gives (pos 0) }
    ∷ record { command = 0x4D; bits = 0xBBA3D70A; due = gives (pos 0) }
    ∷ record { command = 0x4D; bits = 0x3BA3D70B; due = gives (pos 1) }
    ∷ record { command = 0x4D; bits = 0xBBA3D70B; due = gives (negsuc 0) }
    ∷ record { command = 0x4B; bits = 0x36A7C5AC; due = gives (pos 0) }
    ∷ record { command = 0x4B; bits = 0xB6A7C5AC; due = gives (pos 0) }
    ∷ record { command = 0x4B; bits = 0x36A7C5AD; due = gives (pos 1) }
    ∷ record { command = 0x4B; bits = 0xB6A7C5AD; due = gives (negsuc 0) }
    ∷ []

-- halves over even and odd numbers, the first and the last, with the patterns beside them
unfoldable pub ties : List Row
ties =
    record { command = 0x4D; bits = 0x3E000000; due = gives (pos 12) }
    ∷ record { command = 0x4D; bits = 0xBE000000; due = gives (negsuc 11) }
    ∷ record { command = 0x4D; bits = 0x3DFFFFFF; due = gives (pos 12) }
    ∷ record { command = 0x4D; bits = 0x3E000001; due = gives (pos 13) }
    ∷ record { command = 0x4D; bits = 0x3EC00000; due = gives (pos 38) }
    ∷ record { command = 0x4D; bits = 0xBEC00000; due = gives (negsuc 37) }
    ∷ record { command = 0x4D; bits = 0x3EBFFFFF; due = gives (pos 37) }
    ∷ record { command = 0x4D; bits = 0x3EC00001; due = gives (pos 38) }
    ∷ record { command = 0x4D; bits = 0x49FFFFFD; due = gives (pos 209715162) }
    ∷ record { command = 0x4D; bits = 0xC9FFFFFD; due = gives (negsuc 209715161) }
    ∷ record { command = 0x4D; bits = 0x49FFFFFC; due = gives (pos 209715150) }
    ∷ record { command = 0x4D; bits = 0x49FFFFFE; due = gives (pos 209715175) }
    ∷ record { command = 0x4D; bits = 0x49FFFFFF; due = gives (pos 209715188) }
    ∷ record { command = 0x4D; bits = 0xC9FFFFFF; due = gives (negsuc 209715187) }
    ∷ record { command = 0x4D; bits = 0x49FFFFFE; due = gives (pos 209715175) }
    ∷ record { command = 0x4D; bits = 0x4A000000; due = gives (pos 209715200) }
    ∷ record { command = 0x4B; bits = 0x3C800000; due = gives (pos 1562) }
    ∷ record { command = 0x4B; bits = 0xBC800000; due = gives (negsuc 1561) }
    ∷ record { command = 0x4B; bits = 0x3C7FFFFF; due = gives (pos 1562) }
    ∷ record { command = 0x4B; bits = 0x3C800001; due = gives (pos 1563) }
    ∷ record { command = 0x4B; bits = 0x3D400000; due = gives (pos 4688) }
    ∷ record { command = 0x4B; bits = 0xBD400000; due = gives (negsuc 4687) }
    ∷ record { command = 0x4B; bits = 0x3D3FFFFF; due = gives (pos 4687) }
    ∷ record { command = 0x4B; bits = 0x3D400001; due = gives (pos 4688) }
    ∷ record { command = 0x4B; bits = 0x46A7C598; due = gives (pos 2147479688) }
    ∷ record { command = 0x4B; bits = 0xC6A7C598; due = gives (negsuc 2147479687) }
    ∷ record { command = 0x4B; bits = 0x46A7C597; due = gives (pos 2147479492) }
    ∷ record { command = 0x4B; bits = 0x46A7C599; due = gives (pos 2147479883) }
    ∷ record { command = 0x4B; bits = 0x46A7C5A8; due = gives (pos 2147482812) }
    ∷ record { command = 0x4B; bits = 0xC6A7C5A8; due = gives (negsuc 2147482811) }
    ∷ record { command = 0x4B; bits = 0x46A7C5A7; due = gives (pos 2147482617) }
    ∷ record { command = 0x4B; bits = 0x46A7C5A9; due = gives (pos 2147483008) }
    ∷ []

-- the last pattern that is taken and the first that is not, and the largest finite one
unfoldable pub range : List Row
range =
    record { command = 0x4D; bits = 0x4BA3D70A; due = gives (pos 2147483600) }
    ∷ record { command = 0x4D; bits = 0xCBA3D70A; due = gives (negsuc 2147483599) }
    ∷ record { command = 0x4D; bits = 0x4BA3D70B; due = refuses 15 }
    ∷ record { command = 0x4D; bits = 0xCBA3D70B; due = refuses 15 }
    ∷ record { command = 0x4D; bits = 0x7F7FFFFF; due = refuses 15 }
    ∷ record { command = 0x4D; bits = 0xFF7FFFFF; due = refuses 15 }
    ∷ record { command = 0x4B; bits = 0x46A7C5AC; due = gives (pos 2147483594) }
    ∷ record { command = 0x4B; bits = 0xC6A7C5AC; due = gives (negsuc 2147483593) }
    ∷ record { command = 0x4B; bits = 0x46A7C5AD; due = refuses 15 }
    ∷ record { command = 0x4B; bits = 0xC6A7C5AD; due = refuses 15 }
    ∷ record { command = 0x4B; bits = 0x7F7FFFFF; due = refuses 15 }
    ∷ record { command = 0x4B; bits = 0xFF7FFFFF; due = refuses 15 }
    ∷ []

-- 0, the first and the last denormal, and the first that is none
unfoldable pub smallest : List Row
smallest =
    record { command = 0x4D; bits = 0x00000000; due = gives (pos 0) }
    ∷ record { command = 0x4D; bits = 0x80000000; due = gives (pos 0) }
    ∷ record { command = 0x4D; bits = 0x00000001; due = gives (pos 0) }
    ∷ record { command = 0x4D; bits = 0x80000001; due = gives (pos 0) }
    ∷ record { command = 0x4D; bits = 0x007FFFFF; due = gives (pos 0) }
    ∷ record { command = 0x4D; bits = 0x807FFFFF; due = gives (pos 0) }
    ∷ record { command = 0x4D; bits = 0x00800000; due = gives (pos 0) }
    ∷ record { command = 0x4D; bits = 0x80800000; due = gives (pos 0) }
    ∷ record { command = 0x4B; bits = 0x00000000; due = gives (pos 0) }
    ∷ record { command = 0x4B; bits = 0x80000000; due = gives (pos 0) }
    ∷ record { command = 0x4B; bits = 0x00000001; due = gives (pos 0) }
    ∷ record { command = 0x4B; bits = 0x80000001; due = gives (pos 0) }
    ∷ record { command = 0x4B; bits = 0x007FFFFF; due = gives (pos 0) }
    ∷ record { command = 0x4B; bits = 0x807FFFFF; due = gives (pos 0) }
    ∷ record { command = 0x4B; bits = 0x00800000; due = gives (pos 0) }
    ∷ record { command = 0x4B; bits = 0x80800000; due = gives (pos 0) }
    ∷ []

-- infinity, and the first and the last pattern that is no number
unfoldable pub not_finite_lem : List Row
not_finite_lem =
    record { command = 0x4D; bits = 0x7F800000; due = refuses 14 }
    ∷ record { command = 0x4D; bits = 0xFF800000; due = refuses 14 }
    ∷ record { command = 0x4D; bits = 0x7F800001; due = refuses 14 }
    ∷ record { command = 0x4D; bits = 0xFF800001; due = refuses 14 }
    ∷ record { command = 0x4D; bits = 0x7FFFFFFF; due = refuses 14 }
    ∷ record { command = 0x4D; bits = 0xFFFFFFFF; due = refuses 14 }
    ∷ record { command = 0x4B; bits = 0x7F800000; due = refuses 14 }
    ∷ record { command = 0x4B; bits = 0xFF800000; due = refuses 14 }
    ∷ record { command = 0x4B; bits = 0x7F800001; due = refuses 14 }
    ∷ record { command = 0x4B; bits = 0xFF800001; due = refuses 14 }
    ∷ record { command = 0x4B; bits = 0x7FFFFFFF; due = refuses 14 }
    ∷ record { command = 0x4B; bits = 0xFFFFFFFF; due = refuses 14 }
    ∷ []

-- exponents from the least to the greatest, more of them where results are
unfoldable pub fields : List Row
fields =
    record { command = 0x4D; bits = 0x00281E44; due = gives (pos 0) }
    ∷ record { command = 0x4B; bits = 0x1015CBAB; due = gives (pos 0) }
    ∷ record { command = 0x4D; bits = 0xA03B072E; due = gives (pos 0) }
    ∷ record { command = 0x4B; bits = 0xB07FE1F7; due = gives (pos 0) }
    ∷ record { command = 0x4D; bits = 0x347213A4; due = gives (pos 0) }
    ∷ record { command = 0x4B; bits = 0x35B04DEA; due = gives (pos 0) }
    ∷ record { command = 0x4D; bits = 0xB712818A; due = gives (pos 0) }
    ∷ record { command = 0x4B; bits = 0xB8F88415; due = gives (negsuc 11) }
    ∷ record { command = 0x4D; bits = 0x3A1122D9; due = gives (pos 0) }
    ∷ record { command = 0x4B; bits = 0x3BB58484; due = gives (pos 554) }
    ∷ record { command = 0x4D; bits = 0xBD34A576; due = gives (negsuc 3) }
    ∷ record { command = 0x4B; bits = 0xBEED0240; due = gives (negsuc 46290) }
    ∷ record { command = 0x4D; bits = 0x405ED286; due = gives (pos 348) }
    ∷ record { command = 0x4B; bits = 0x41920CF2; due = gives (pos 1825632) }
    ∷ record { command = 0x4D; bits = 0xC329E990; due = gives (negsuc 16990) }
    ∷ record { command = 0x4B; bits = 0xC4863A83; due = gives (negsuc 107382848) }
    ∷ record { command = 0x4D; bits = 0x4627FEB5; due = gives (pos 1075168) }
    ∷ record { command = 0x4B; bits = 0x47A7E587; due = refuses 15 }
    ∷ record { command = 0x4D; bits = 0xC9527C18; due = gives (negsuc 86214549) }
    ∷ record { command = 0x4B; bits = 0xCA84B6A5; due = refuses 15 }
    ∷ record { command = 0x4D; bits = 0x4C72AC7A; due = refuses 15 }
    ∷ record { command = 0x4B; bits = 0x5A3CEF63; due = refuses 15 }
    ∷ record { command = 0x4D; bits = 0xECEAE498; due = refuses 15 }
    ∷ record { command = 0x4B; bits = 0xFF1A7DC1; due = refuses 15 }
    ∷ []

-- whole centimetres; the last would be no number as a float
unfoldable pub whole : List Row
whole =
    record { command = 0x56; bits = 0x00000000; due = gives (pos 0) }
    ∷ record { command = 0x52; bits = 0x00000000; due = gives (pos 0) }
    ∷ record { command = 0x56; bits = 0x00000001; due = gives (pos 1) }
    ∷ record { command = 0x52; bits = 0x00000001; due = gives (pos 1) }
    ∷ record { command = 0x56; bits = 0xFFFFFFFF; due = gives (negsuc 0) }
    ∷ record { command = 0x52; bits = 0xFFFFFFFF; due = gives (negsuc 0) }
    ∷ record { command = 0x56; bits = 0x7FFFFFFF; due = gives (pos 2147483647) }
    ∷ record { command = 0x52; bits = 0x7FFFFFFF; due = gives (pos 2147483647) }
    ∷ record { command = 0x56; bits = 0x80000000; due = gives (negsuc 2147483647) }
    ∷ record { command = 0x52; bits = 0x80000000; due = gives (negsuc 2147483647) }
    ∷ record { command = 0x56; bits = 0x7FC00000; due = gives (pos 2143289344) }
    ∷ record { command = 0x52; bits = 0x7FC00000; due = gives (pos 2143289344) }
    ∷ []
