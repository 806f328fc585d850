-- What the portion rule gives on the numbers in a plan's slots.
use Prim.Native.Nat.{ℕ, suc, ◌-◌, ◌^◌, ◌<◌}
use mathlib.Core.Path.{◌≡◌, sym, refl}
use mathlib.Core.Bool.{Bool, true, false}
use native.Mathlib.Omega.{arith}
use mathlib.Core.List.{List}
use lib.ListN.{get_or}
use Rattle.cube_spec.specs.Boxes.{pick}
use Rattle.cube_spec.specs.Choices.{keeps}
use Rattle.cube_spec.specs.Portions.{portion_start}
use Rattle.cube_spec.specs.Tree.{kept}
use Rattle.cube_spec.proofs.Sets.{kept_has, kept_out}
use Rattle.plan_spec.specs.Accepted.{Accepted}
use Rattle.plan_spec.specs.declared.types.Plan.{Plan}
use Rattle.rack_spec.specs.Grids.{grid_of}
use Rattle.rack_spec.specs.Finding.{plan_grid, summed_in, Labels}
use Rattle.rack_spec.proofs.Tallied.{parts_slot, parts_small}
use Rattle.rack_spec.proofs.Planned.{len_slot, axis_kept, axis_summed}

module _ (q : Plan) (ok : Accepted q) (d : ℕ) (h : d < q.axes) where
  -- the length and the exponent of the axis at place d
  abbrev slot_length : ℕ
  slot_length = get_or q.lengths (get_or q.order d 0) 0

  abbrev slot_parts : ℕ
  slot_parts = 2 ^ get_or q.exponents (get_or q.order d 0) 0

  pub start_here : (l : ℕ) → portion_start slot_length slot_parts l ≡ (plan_grid q).start d l
  start_here l = rw (len_slot q ok d h, parts_slot q ok d h) (unfold grid_of in refl)

  pub kept_here : (mask l : ℕ) (t : Bool) → t ≡ keeps mask (get_or q.order d 0) → pick t (portion_start slot_length slot_parts (suc l) - portion_start slot_length slot_parts l) 1 ≡ kept (summed_in q mask) (λ e. (plan_grid q).start e (suc l) - (plan_grid q).start e l) d
  kept_here mask l true e = rw (start_here (suc l), start_here l) (sym (kept_out _ (summed_in q mask) d (axis_kept q ok mask d h (sym e))))
  kept_here mask l false e = sym (kept_has _ (summed_in q mask) d (axis_summed q ok mask d h (sym e)))

  -- a label there is one of the rule's
  pub label_here : (labels : List ℕ) → Labels q labels → get_or labels d 0 < 1024
  label_here labels fits = let l = fits d h in let b = parts_small q ok d h in omega arith
