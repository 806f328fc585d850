-- The report does not hang on how the axes are cut: its groups go by the finishes, and their cells are sums over all points.
use Prim.Native.Nat.{ℕ}
use mathlib.Core.Path.{◌≡◌, sym, ◌∙◌, refl, ap}
use mathlib.Core.List.{List, [], ◌∷◌}
use lib.IntN.{ℤ}
use Rattle.plan_spec.specs.Plans.{PlanLists}
use Rattle.rack_spec.specs.Grids.{grid_of, mask_of}
use Rattle.rack_spec.specs.Steps.{TreeStep, expand, transfer, finish, steps}
use Rattle.rack_spec.specs.Recut.{recut, uncounted_all}
use Rattle.rack_spec.proofs.Recut.{steps_recut}
use Rattle.report_spec.specs.Printed.{group_line, group_lines, report}

module _ (a : PlanLists) (array : ℕ → ℤ) where
  -- the number of values of a transfer is not printed
  groups_uncounted : (l : List TreeStep) → group_lines a array (uncounted_all l) ≡ group_lines a array l
  unfolding group_lines uncounted_all
  groups_uncounted [] = refl
  groups_uncounted (expand Y ∷ l) = groups_uncounted l
  groups_uncounted (transfer Y s r n ∷ l) = groups_uncounted l
  groups_uncounted (finish Y ∷ l) = ap (λ g. group_line a.lengths array (mask_of (grid_of a) Y) ∷ g) (groups_uncounted l)

  pub report_same : (rule : ℕ → ℕ → ℕ → ℕ) → report a array (steps (recut rule (grid_of a))) ≡ report a array (steps (grid_of a))
  unfolding report
  report_same rule =
      let e : group_lines a array (steps (recut rule (grid_of a))) ≡ group_lines a array (steps (grid_of a)) =
      sym (groups_uncounted (steps (recut rule (grid_of a)))) ∙ ap (group_lines a array) (steps_recut rule (grid_of a)) ∙ groups_uncounted (steps (grid_of a)) in
      rw e
