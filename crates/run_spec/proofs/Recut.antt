-- What is gathered does not hang on how the axes are cut: it is the choice's exact totals by any portion rule.
use Prim.Native.Nat.{ℕ, ◌*◌, ◌^◌, ◌≤◌, ◌<◌}
use mathlib.Core.Path.{◌≡◌, ◌∙◌, refl, ap}
use mathlib.Core.List.{List, [], ◌∷◌, ◌++◌}
use lib.ListN.{length}
use lib.IntN.{ℤ, nat_abs}
use Rattle.cube_spec.specs.Limits.{point_limit}
use Rattle.cube_spec.specs.Choices as Choices
use Rattle.cube_spec.specs.Choices.{points, totals}
use Rattle.cube_spec.specs.Before.{Cutting}
use Rattle.plan_spec.specs.Plans.{PlanLists, Sound, board_count, share_size}
use Rattle.rack_spec.specs.Grids.{Grid, Lawful, grid_of, mask_of, boards, share}
use Rattle.rack_spec.specs.Steps.{TreeStep, finish, steps}
use Rattle.rack_spec.specs.Recut.{recut}
use Rattle.rack_spec.proofs.Finishing.{finish_down}
use Rattle.rack_spec.proofs.Recut.{recut_lawful, unmoved}
use Rattle.cell_spec.specs.Wrapped.{wrapped}
use Rattle.run_spec.specs.Memory.{point_at, read, ran}
use Rattle.run_spec.specs.Gather.{gathered_position, gathered}
use Rattle.run_spec.proofs.Totals.{Law, total_at, totals_law}
use Rattle.run_spec.proofs.Runs.{Final}
use Rattle.run_spec.proofs.Lists.{ran_totals}
use Rattle.run_spec.proofs.Gathering.{table_same, owner_total, gathered_within, gathered_flat, gathered_total}
use Rattle.run_spec.proofs.Delivered.{never_wraps}

module _ (rule : ℕ → ℕ → ℕ → ℕ) (cutting : Cutting rule) (a : PlanLists) (sound : Sound a) (some : 0 < length a.lengths) (array work : List ℤ) (fits : board_count a * share_size a ≤ length work) (small : (i : ℕ) → nat_abs (read array i) ≤ 2 ^ 31) (few : points a.lengths ≤ point_limit) where
  abbrev h : Grid
  h = recut rule (grid_of a)

  ok : Lawful h
  ok = recut_lawful rule cutting a sound

  mask_same : (Y : List ℕ) → mask_of h Y ≡ mask_of (grid_of a) Y
  unfolding mask_of
  mask_same Y = refl

  law : Law h (read array) (total_at a (read array))
  law = let l = totals_law a sound (read array) in record { root = λ z w. l.root z w ∙ (unfold point_at in refl); sum = l.sum; alike = l.alike }

  room : boards h * share h ≤ length work
  room = let u = unmoved rule cutting a sound some in rw (u.as_many, u.as_large) fits

  final : (before rest : List TreeStep) (Y : List ℕ) → steps h ≡ before ++ (finish Y ∷ rest) → Final h (total_at a (read array)) Y (read (ran h array (before ++ (finish Y ∷ [])) work))
  final before rest Y e = ran_totals h ok (unfold grid_of in some) array work (total_at a (read array)) law room before rest Y e

  -- THE GATHERED CHOICE, by any rule
  pub gathered_however : (before rest : List TreeStep) (Y : List ℕ) → steps h ≡ before ++ (finish Y ∷ rest) → gathered a.lengths h Y (read (ran h array (before ++ (finish Y ∷ [])) work)) ≡ totals a.lengths (read array) (mask_of (grid_of a) Y)
  unfolding gathered totals gathered_position
  gathered_however before rest Y e =
      rw (mask_same Y)
      (table_same (Choices.cells a.lengths (mask_of (grid_of a) Y)) _ _
      (λ c u.
      owner_total h ok (gathered_position a.lengths (grid_of a) (mask_of (grid_of a) Y) c) (gathered_within a sound Y c u) Y (gathered_flat a sound Y c u) (read array) (total_at a (read array)) law _ (finish_down h before rest Y e) (final before rest Y e)
      ∙ ap wrapped (gathered_total a sound Y c u (read array))
      ∙ never_wraps a sound some array work fits small few (mask_of (grid_of a) Y) _))
