-- The plan and dim lines by a plan's slots.
use Rattle.std.specs.Prelude.{ℕ, List, [], ◌∷◌, ◌++◌, get_or}
use Rattle.plan_spec.specs.declared.types.Plan.{Plan}
use Rattle.plan_spec.specs.declared.types.Prices.{Prices}
use Rattle.report_spec.specs.Text.{text}
use Rattle.report_spec.specs.Printed.{fields, numbers}

unfoldable pub plan_text : Plan → Prices → List ℕ
plan_text q c = text "plan" ++ fields (numbers (q.axes ∷ q.p ∷ c.moved ∷ c.added ∷ c.share ∷ []))

unfoldable pub dim_text : Plan → ℕ → List ℕ
dim_text q d = let a = get_or q.order d 0 in text "dim" ++ fields (numbers (a ∷ get_or q.lengths a 0 ∷ get_or q.exponents a 0 ∷ []))
