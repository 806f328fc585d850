-- What a comb asks and gives.
use Rattle.std.specs.Prelude.{ℕ, ◌+◌, ◌*◌, ◌<◌, List, ℤ}
use Rattle.cell_spec.specs.Rows.{combs}
use Rattle.cell_row.specs.declared.combs.Comb.{Comb}

-- its values lie within a slice of l, and each sum has some
abbrev pub Within : Comb → ℕ → Type 0
Within c l = (c.first + c.count * c.apart + c.values * c.step < l + c.apart + c.step) × (0 < c.values)

-- the comb of n of its sums, from sum i on
abbrev pub part : Comb → ℕ → ℕ → Comb
part c i n = record c { first = c.first + i * c.apart; count = n }

-- sum i
abbrev pub sums : Comb → List ℤ → (ℕ → ℤ)
sums c l = combs l c.first c.apart c.values c.step
