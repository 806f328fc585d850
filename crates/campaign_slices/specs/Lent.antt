-- A slice that a caller lends for cells: the refusal of a wrong length after an entry's own checks, and the slice afterwards.
use Rattle.std.specs.Prelude.{ℕ, zero, suc, not, List, [], ◌∷◌, ◌++◌, eqb}
use Rattle.cube_spec.specs.Checks.{Check, check, first}

-- some checks, and then 13, "A lent result slice has the wrong length.": `lent` cells where `due` are to be written
unfoldable pub lent_refusal : List Check → ℕ → ℕ → ℕ
lent_refusal checks due lent = first (checks ++ (check 13 (not (eqb lent due)) ∷ []))

-- the new cells, or as it was on a refusal
unfoldable pub written_or : {A : Type 0} → ℕ → List A → List A → List A
written_or zero new old = new
written_or (suc n) new old = old
