-- The search over links as a caller in C gets it: the refusal, and the cells that are written.
use Rattle.std.specs.Prelude.{ℕ, List, ◌∷◌, length, get_or, drop}
use Rattle.link_spec.specs.declared.types.Searched.{Searched}
use Rattle.link_spec.specs.Search.{search_checks, search, searched_of}
use Rattle.campaign_slices.specs.Lent.{lent_refusal, written_or}

-- the cost, the distance, how many divisions were priced, and eight exponents
abbrev pub search_cells : ℕ
search_cells = 11

unfoldable pub cells_searched : Searched → List ℕ
cells_searched f = f.cost ∷ f.distance ∷ f.priced ∷ f.exponents

-- what a caller reads back from the cells
unfoldable pub searched_in : List ℕ → Searched
searched_in cells = record { exponents = drop 3 cells; cost = get_or cells 0 0; distance = get_or cells 1 0; priced = get_or cells 2 0 }

-- of lengths, p, link weights, a budget and a slice of `out` cells
unfoldable pub lent_search_refusal : List ℕ → ℕ → List ℕ → ℕ → ℕ → ℕ
lent_search_refusal ds p links budget out = lent_refusal (search_checks ds p links budget) search_cells out

-- the slice afterwards: the answer's cells, or as it was on a refusal
unfoldable pub lent_search : List ℕ → ℕ → List ℕ → ℕ → List ℕ → List ℕ
lent_search ds p links budget out =
    written_or (lent_search_refusal ds p links budget (length out)) (cells_searched (searched_of (search ds p links budget))) out
