-- The printed output, computed by the checker on small tapes, and the refusals at the program's limits.
use mathlib.Core.Path.{◌≡◌, refl}
use mathlib.Core.List.{List, [], ◌∷◌}
use Prim.Native.Nat.{ℕ}
use Rattle.report_spec.specs.Computing.{computing}
use Rattle.report_spec.specs.Printed.{program_refusal, printed}
use Rattle.report_spec.proofs.Tapes.{Case, Limit, cases, limits}

unfoldable pub prints : List Case → List (List ℕ)
prints [] = []
prints (c ∷ r) = printed c.tape ∷ prints r

unfoldable pub outputs : List Case → List (List ℕ)
outputs [] = []
outputs (c ∷ r) = c.output ∷ outputs r

pub printed_cases : prints cases ≡ outputs cases
unfolding computing prints outputs cases
printed_cases = refl

-- ---- 1 before 2, 11 by the points and by the work area, at the limit and one past it; and 14 and 15, after 2 and before 4

unfoldable pub refusals : List Limit → List ℕ
refusals [] = []
refusals (c ∷ r) = program_refusal c.tape ∷ refusals r

unfoldable pub numbers : List Limit → List ℕ
numbers [] = []
numbers (c ∷ r) = c.refusal ∷ numbers r

pub refused_cases : refusals limits ≡ numbers limits
unfolding computing refusals numbers limits
refused_cases = refl
