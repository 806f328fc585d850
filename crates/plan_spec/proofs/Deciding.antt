-- The refusal of planning, check by check.
use Prim.Native.Nat.{ℕ, ◌≤◌, ◌<◌}
use mathlib.Core.Path.{◌≡◌, sym, ◌∙◌, refl}
use mathlib.Core.Bool.{Bool, true, false}
use mathlib.Core.List.{List, [], ◌∷◌}
use native.Mathlib.Omega.{arith}
use borrow.Author.Tests.{ne_eqb, le-ltb, lt-ltb}
use lib.ListN.{length}
use Rattle.cube_spec.specs.Boxes.{pick}
use Rattle.cube_spec.specs.Checks.{check, first}
use Rattle.plan_spec.specs.Refusals.{some, bad_axes, bad_length, too_many_points, too_many_boards, length_checks, planning_checks, planning_refusal}

module _ (ds : List ℕ) (p : ℕ) where
  abbrev of_lengths : ℕ
  of_lengths = first (check 4 (some bad_length ds) ∷ check 5 (too_many_points ds) ∷ [])

  split : planning_refusal ds p ≡ pick (bad_axes (length ds)) 3 (pick (some bad_length ds) 4 (pick (too_many_points ds) 5 (pick (too_many_boards p) 6 0)))
  unfolding planning_refusal planning_checks length_checks first
  split = refl

  of_lengths_lem : of_lengths ≡ pick (some bad_length ds) 4 (pick (too_many_points ds) 5 0)
  unfolding first
  of_lengths_lem = refl

  -- none of 4 and 5 is due, or the first of them
  past_lengths : (a b : Bool) (x : ℕ) → pick {A = ℕ} a 4 (pick b 5 0) ≡ 0 → pick a 4 (pick b 5 x) ≡ x
  past_lengths true b x e = absurd (omega arith)
  past_lengths false true x e = absurd (omega arith)
  past_lengths false false x e = refl

  at_lengths : (a b : Bool) (x : ℕ) → (pick {A = ℕ} a 4 (pick b 5 0) ≡ 0 → ⊥) → pick a 4 (pick b 5 x) ≡ pick a 4 (pick b 5 0)
  at_lengths true b x e = refl
  at_lengths false true x e = refl
  at_lengths false false x e = absurd (e refl)

  pub refuses_none : length ds ≡ 0 → 3 ≡ planning_refusal ds p
  refuses_none e = sym (split ∙ (let q : bad_axes (length ds) ≡ true = (rw e (unfold bad_axes in refl)) in rw q))

  axes_fine : (length ds ≡ 0 → ⊥) → length ds ≤ 8 → bad_axes (length ds) ≡ false
  unfolding bad_axes
  axes_fine ne l = rw (ne_eqb (length ds) 0 ne, le-ltb 8 (length ds) l)

  module _ (ne : length ds ≡ 0 → ⊥) (l : length ds ≤ 8) where
    pub refuses_lengths : (r : ℕ) → r ≡ of_lengths → (r ≡ 0 → ⊥) → r ≡ planning_refusal ds p
    refuses_lengths r e h = sym (split ∙ (rw (axes_fine ne l) (at_lengths (some bad_length ds) (too_many_points ds) _ (λ z. h (e ∙ of_lengths_lem ∙ z)) ∙ sym of_lengths_lem ∙ sym e)))

    module _ (fine : 0 ≡ of_lengths) where
      past : planning_refusal ds p ≡ pick (too_many_boards p) 6 0
      past = split ∙ (rw (axes_fine ne l) (past_lengths (some bad_length ds) (too_many_points ds) _ (sym of_lengths_lem ∙ sym fine)))

      pub refuses_boards : 10 < p → 6 ≡ planning_refusal ds p
      refuses_boards h = sym (past ∙ (let q : too_many_boards p ≡ true = (unfold too_many_boards in lt-ltb 10 p h) in rw q))

      fits : p ≤ 10 → too_many_boards p ≡ false
      unfolding too_many_boards
      fits h = le-ltb 10 p h

      pub refuses_nothing : p ≤ 10 → 0 ≡ planning_refusal ds p
      refuses_nothing h = sym (past ∙ (rw (fits h)))
