-- The generator computed from its definitions, on each row of the table that compare writes.
use Prim.Native.Nat.{ℕ}
use mathlib.Core.Path.{◌≡◌, refl}
use mathlib.Core.List.{List, [], ◌∷◌}
use lib.ListN.{length, take}
use Rattle.practice_spec.specs.Draws.{drawn, lengths_of, power_of, points_of}
use Rattle.practice_spec.specs.Seeds.{practised}
use Rattle.practice_spec.specs.Computing.{computing}
use Rattle.practice_spec.proofs.Listed.{Row, Start, Draws, small, lines, refusals, starts, published}

-- what is printed, whole
unfoldable printed_all : List Row → List (List ℕ)
printed_all [] = []
printed_all (r ∷ l) = practised r.input ∷ printed_all l

unfoldable listed_all : List Row → List (List ℕ)
listed_all [] = []
listed_all (r ∷ l) = r.output ∷ listed_all l

abbrev Same : List Row → Type 0
Same l = printed_all l ≡ listed_all l

printed : Same small × Same lines × Same refusals
unfolding computing printed_all listed_all small lines refusals
printed = (refl, refl, refl)

-- how larger exercises begin
unfoldable begun : List Start → List Start
begun [] = []
begun (s ∷ l) =
    let points = points_of s.seed in
    record { seed = s.seed; lengths = lengths_of s.seed; p = power_of s.seed; count = length points; first = take 3 points } ∷ begun l

begin : begun starts ≡ starts
unfolding computing begun starts
begin = refl

-- draws, the published ones first
unfoldable drawn_all : List Draws → List Draws
drawn_all [] = []
drawn_all (r ∷ l) = record { seed = r.seed; draws = drawn (λ x. x) (length r.draws) r.seed } ∷ drawn_all l

draws_listed : drawn_all published ≡ published
unfolding computing drawn_all published
draws_listed = refl
