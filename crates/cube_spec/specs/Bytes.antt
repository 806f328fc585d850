-- Numbers as bytes.
use Rattle.std.specs.Prelude.{ℕ, ◌+◌, ◌*◌, List, [], ◌∷◌}

-- "little-endian": the number that bytes spell, the lowest first
unfoldable pub little : List ℕ → ℕ
little [] = 0
little (b ∷ r) = b + 256 * little r
