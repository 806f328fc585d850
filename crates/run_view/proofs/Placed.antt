-- Laws of the place of a viewed part: what it is for each finished choice and board, and that the cells there are the view.
use Prim.Native.Nat.{ℕ}
use mathlib.Core.Path.{◌≡◌, refl, sym, ap, ◌∙◌}
use mathlib.Core.Bool.{Bool, true, false}
use mathlib.Core.Option.{Option, none, some}
use mathlib.Core.List.{List, []}
use lib.ListN.{length, take, drop}
use lib.IntN.{ℤ}
use Rattle.cube_spec.specs.Boxes.{pick}
use Rattle.cube_spec.specs.Tree.{last_of}
use Rattle.plan_spec.specs.declared.types.Plan.{Plan}
use Rattle.rack_spec.specs.Grids.{Grid, lead, cells, index}
use Rattle.rack_spec.specs.Held.{finished_at}
use Rattle.rack_spec.specs.Finding.{plan_grid}
use Rattle.run_spec.specs.Entries.{view_refusal, view_of, viewing}
use Rattle.run_spec.specs.Gather.{viewed}
use Rattle.run_spec.proofs.Shown.{shown}
use Rattle.run_view.specs.declared.types.Part.{Part}
use Rattle.run_view.specs.Places.{no_part, part_with, part_of}

module _ (g : Grid) (at b : ℕ) where
  pub part_none : finished_at g at ≡ none → no_part ≡ part_of g at b
  unfolding part_of
  part_none e = sym (ap (λ (o : Option (List ℕ)). part_with g o b) e)

  module _ (Y : List ℕ) (e : finished_at g at ≡ some Y) where
    part_some : (t : Bool) → lead g Y b ≡ t → pick t (record { start = index g b (last_of Y) 0; cells = cells g Y b }) no_part ≡ part_of g at b
    unfolding part_of
    part_some t h = sym (ap (λ (o : Option (List ℕ)). part_with g o b) e ∙ ap (λ (u : Bool). pick {A = Part} u (record { start = index g b (last_of Y) 0; cells = cells g Y b }) no_part) h)

    pub part_other : lead g Y b ≡ false → no_part ≡ part_of g at b
    part_other h = part_some false h

    pub part_lead : lead g Y b ≡ true → (start n : ℕ) → start ≡ index g b (last_of Y) 0 → n ≡ cells g Y b → ◌≡◌ {A = Part} (record { start = start; cells = n }) (part_of g at b)
    part_lead h start n es en = rw (es, en) (part_some true h)

-- the cells that a view shows are those of the work area at the part's place
module _ (q : Plan) (work : List ℤ) (at b : ℕ) where
  abbrev part : Part
  part = part_of (plan_grid q) at b

  of_part : Part → List ℤ
  of_part s = take s.cells (drop s.start work)

  pub shown_part : view_refusal q (length work) at b ≡ 0 → take part.cells (drop part.start work) ≡ viewing q work at b
  unfolding of_part viewed
  shown_part z = go (finished_at (plan_grid q) at) refl ∙ sym (shown q work at b z)
    where
      by_lead : (Y : List ℕ) (t : Bool) → of_part (pick t (record { start = index (plan_grid q) b (last_of Y) 0; cells = cells (plan_grid q) Y b }) no_part) ≡ pick t (take (cells (plan_grid q) Y b) (drop (index (plan_grid q) b (last_of Y) 0) work)) []
      by_lead Y true = refl
      by_lead Y false = refl

      go : (o : Option (List ℕ)) → finished_at (plan_grid q) at ≡ o → of_part part ≡ view_of (plan_grid q) (finished_at (plan_grid q) at) b work
      go none e = ap of_part (sym (part_none (plan_grid q) at b e)) ∙ sym (ap (λ (o : Option (List ℕ)). view_of (plan_grid q) o b work) e)
      go (some Y) e = ap of_part (sym (part_some (plan_grid q) at b Y e _ refl)) ∙ by_lead Y (lead (plan_grid q) Y b) ∙ sym (ap (λ (o : Option (List ℕ)). view_of (plan_grid q) o b work) e)
