-- "Checking order": an entry's refusals as a list of checks in the paper's order. The first that holds gives the entry's number.
use Rattle.std.specs.Prelude.{ℕ, zero, suc, Bool, List, [], ◌∷◌}
use Rattle.cube_spec.specs.Boxes.{pick}

-- a line of the list: its number, and whether it holds
pub record Check : Type 0 where
  pub number : ℕ
  pub due : Bool

abbrev pub check : ℕ → Bool → Check
check n t = record { number = n; due = t }

-- the number of the first check that is due, 0 where none is
unfoldable pub first : List Check → ℕ
first [] = 0
first (c ∷ r) = pick c.due c.number (first r)

-- what an entry answers: a value, or "its number alone"
pub data Reply (A : Type 0) : Type 0 where
  gives : A → Reply A
  refuses : ℕ → Reply A

-- the value where the number is 0
unfoldable pub answered : {A : Type 0} → ℕ → A → Reply A
answered zero a = gives a
answered (suc n) a = refuses (suc n)
