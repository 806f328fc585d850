-- Writing a tape: commands in bytes, and the plainest tape for a campaign.
use Rattle.std.specs.Prelude.{ℕ, zero, suc, ◌/◌, ◌%◌, List, [], ◌∷◌, ◌++◌, ℤ}
use Rattle.std.specs.Float.{binary32}
use Rattle.std.specs.Float.Ieee.{of_bits}
use Rattle.std.specs.Int.{w32}
use Rattle.std.proofs.Common.{of_z}
use Rattle.tape_reading.specs.declared.types.Reading.{Reading}
use Rattle.tape_reading.specs.declared.types.Reading.TheVariants as Reading'

-- a number in n bytes, "little-endian"
unfoldable pub bytes : ℕ → ℕ → List ℕ
bytes zero x = []
bytes (suc n) x = x % 256 ∷ bytes n (x / 256)

-- 41, 42, 56, 52 and 45 with their operands; 4D and 4B stand below
unfoldable pub axis_command : ℕ → List ℕ
axis_command d = 0x41 ∷ bytes 2 d

unfoldable pub boards_command : ℕ → List ℕ
boards_command p = 0x42 ∷ p ∷ []

unfoldable pub point_command : ℤ → List ℕ
point_command v = 0x56 ∷ bytes 4 (of_z w32 v)

unfoldable pub repeat_command : ℕ → ℤ → List ℕ
repeat_command n v = 0x52 ∷ (bytes 2 n ++ bytes 4 (of_z w32 v))

unfoldable pub end_command : List ℕ
end_command = 0x45 ∷ []

-- f of each element, one after the other
unfoldable pub each : {A : Type 0} → (A → List ℕ) → List A → List ℕ
each f [] = []
each f (x ∷ l) = f x ++ each f l

-- the 41s and the 42, and what follows them
unfoldable pub headed : List ℕ → ℕ → List ℕ → List ℕ
headed lengths p l = each axis_command lengths ++ (boards_command p ++ l)

-- a tape with a 56 for each point
unfoldable pub written : List ℕ → ℕ → List ℤ → List ℕ
written lengths p points = headed lengths p (each point_command points ++ end_command)

-- ---- readings of every kind

-- a reading for a tape: whole centimetres, or the four bytes of an older set's float as a number, below 2^32
pub data Logged : Type 0 where
  centimetres : ℤ → Logged
  metres : ℕ → Logged
  kilometres : ℕ → Logged

-- by the command that carries it: 56, 4D or 4B
unfoldable pub logged_command : Logged → List ℕ
logged_command (centimetres v) = point_command v
logged_command (metres b) = 0x4D ∷ bytes 4 b
logged_command (kilometres b) = 0x4B ∷ bytes 4 b

unfoldable pub logged_reading : Logged → Reading
logged_reading (centimetres v) = Reading'.Centimetres v
logged_reading (metres b) = Reading'.Metres (of_bits binary32 b)
logged_reading (kilometres b) = Reading'.Kilometres (of_bits binary32 b)

-- a tape with a command for each reading
unfoldable pub logged : List ℕ → ℕ → List Logged → List ℕ
logged lengths p readings = headed lengths p (each logged_command readings ++ end_command)

-- P of each element
abbrev pub Every : {A : Type 0} → (A → Type 0) → List A → Type 0
Every P [] = Unit
Every P (x ∷ l) = P x × Every P l
