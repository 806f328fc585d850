-- The cells of a choice fit the slice that the program keeps for them.
use Prim.Native.Nat.{ℕ, ◌≤◌}
use mathlib.Core.Path.{◌≡◌, ◌∙◌, sym, ap}
use mathlib.Core.List.{List, ◌∷◌, ◌++◌}
use native.Mathlib.Omega.{arith}
use lib.IntN.{ℤ}
use lib.ListN.{length, take}
use lib.Seq.{length-take-le}
use Rattle.cube_spec.specs.Choices.{points, cells, counted_cells}
use Rattle.cube_spec.proofs.Counting.{cells_le}
use Rattle.plan_spec.specs.Plans.{lists_of}
use Rattle.plan_spec.specs.Accepted.{Accepted}
use Rattle.plan_spec.specs.declared.types.Plan.{Plan}
use Rattle.run_spec.specs.Entries.{gathering}
use Rattle.run_spec.proofs.Refusing.{countable, counted_plan}
use Rattle.report_spec.specs.Text.{text, decimal}
use Rattle.report_spec.specs.Printed.{fields, signeds}
use Rattle.totals_group.specs.Grouped.{group_text}

module _ (q : Plan) (ok : Accepted q) (mask n : ℕ) (e : n ≡ counted_cells (take q.axes q.lengths) mask) where
  pub count_is : n ≡ cells (lists_of q).lengths mask
  count_is = e ∙ counted_plan q ok mask

  module _ (room : List ℤ) (h : points (lists_of q).lengths ≤ length room) where
    pub count_fits : n ≤ length room
    unfolding lists_of
    count_fits = let c = count_is in let s = cells_le (take q.axes q.lengths) q.axes mask (countable q ok) in omega arith

    pub part_is : take n room ≡ take (cells (lists_of q).lengths mask) room
    part_is = rw (← count_is)

    pub part_length : n ≡ length (take n room)
    part_length = sym (length-take-le n room count_fits)

    -- the line of what was gathered
    pub gathered_line : (work : List ℤ) (at : ℕ) (part : List ℤ) → part ≡ gathering q work at (take n room)
        → text "group" ++ fields (decimal mask ∷ signeds part) ≡ group_text q work at mask (take (cells (lists_of q).lengths mask) room)
    unfolding group_text
    gathered_line work at part g = ap (λ x. text "group" ++ fields (decimal mask ∷ signeds x)) (g ∙ ap (gathering q work at) part_is)
