-- The lines by slots are the report's lines, for an accepted plan.
use Prim.Native.Nat.{ℕ, ◌<◌}
use mathlib.Core.Path.{◌≡◌, sym, ◌∙◌, refl, ap, ap₂}
use mathlib.Core.List.{[], ◌∷◌, ◌++◌}
use native.Mathlib.Omega.{arith}
use lib.ListN.{length, get_or, take}
use lib.Seq.{get_or-take}
use Rattle.plan_spec.specs.Plans.{lists_of}
use Rattle.plan_spec.specs.Accepted.{Accepted}
use Rattle.plan_spec.specs.Answers.{prices_of}
use Rattle.plan_spec.specs.declared.types.Plan.{Plan}
use Rattle.plan_spec.specs.declared.types.Prices.{Prices}
use Rattle.rack_spec.proofs.Planned.{order_slot}
use Rattle.rack_spec.proofs.Tallied.{lawful, axes_same}
use Rattle.report_spec.specs.Text.{text}
use Rattle.report_spec.specs.Printed.{fields, numbers, plan_line, dim_line}
use Rattle.report_line.specs.Reports.{plan_text, dim_text}

module _ (q : Plan) (ok : Accepted q) where
  pub plan_line_is : (c : Prices) → c ≡ prices_of (lists_of q) → plan_text q c ≡ plan_line (lists_of q)
  unfolding plan_text plan_line prices_of
  plan_line_is c e =
      let n : q.axes ≡ length (lists_of q).lengths = sym ok.axes in
      let s : q.p ≡ (lists_of q).p = (unfold lists_of in refl) in
      ap (λ c. text "plan" ++ fields (numbers (q.axes ∷ q.p ∷ c.moved ∷ c.added ∷ c.share ∷ []))) e
      ∙ ap₂ (λ n s. text "plan" ++ fields (numbers (n ∷ s ∷ (prices_of (lists_of q)).moved ∷ (prices_of (lists_of q)).added ∷ (prices_of (lists_of q)).share ∷ []))) n s

  -- the axis at a place is one of the axes
  pub axis_in : (d : ℕ) → d < q.axes → get_or q.order d 0 < q.axes
  axis_in d h =
      let x = axes_same q ok in
      let o = (lawful q ok).order_lt d (omega arith) in
      let e = order_slot q ok d h in
      omega arith

  pub dim_line_is : (d : ℕ) → d < q.axes → dim_text q d ≡ dim_line (lists_of q) d
  unfolding dim_text dim_line lists_of
  dim_line_is d h =
      let a = axis_in d h in
      let e : get_or (take q.axes q.order) d 0 ≡ get_or q.order d 0 = get_or-take q.axes q.order d 0 h in
      let l : get_or (take q.axes q.lengths) (get_or q.order d 0) 0 ≡ get_or q.lengths (get_or q.order d 0) 0 = get_or-take q.axes q.lengths (get_or q.order d 0) 0 a in
      let k : get_or (take q.axes q.exponents) (get_or q.order d 0) 0 ≡ get_or q.exponents (get_or q.order d 0) 0 = get_or-take q.axes q.exponents (get_or q.order d 0) 0 a in
      rw (e, l, k) refl
