-- A board's labels, read from its number from the last axis on.
use Prim.Native.Nat.{ℕ, ◌+◌, ◌-◌, ◌*◌, ◌/◌, ◌%◌, ◌≤◌, ◌<◌, min}
use mathlib.Core.Path.{◌≡◌, sym, ◌∙◌, refl, ap}
use mathlib.Core.Bool.{true, false, ◌||◌, not}
use native.Mathlib.Nat.{div-one, le_refl, zero-add}
use native.Mathlib.Omega.{arith}
use borrow.Author.Tests.{eqb-true, eqb-false}
use lib.Dec.{eqb}
use mathlib.Core.List.{List}
use Rattle.cube_spec.specs.Boxes.{product}
use Rattle.cube_spec.specs.Choices.{full_mask}
use Rattle.cube_spec.specs.Limits.{axis_limit}
use Rattle.cube_spec.specs.Tree.{has, kept}
use Rattle.cube_spec.proofs.Products.{product_none, product_le, product_last}
use Rattle.cube_spec.proofs.Sets.{kept_has, kept_out}
use Rattle.cube_spec.proofs.Sums.{by}
use Rattle.plan_spec.specs.Accepted.{Accepted}
use Rattle.plan_spec.specs.declared.types.Plan.{Plan}
use Rattle.rack_spec.specs.Grids.{boards, label}
use Rattle.rack_spec.specs.Finding.{plan_grid, summed_in, leads}
use Rattle.rack_spec.proofs.Tallied.{axes_same, lawful, boards_few}
use Rattle.rack_spec.proofs.Planned.{rank_kept, part_le, full_set, full_leads, full_label}

-- the set of the choice that keeps every axis
abbrev whole : Plan → List ℕ
whole q = summed_in q (full_mask (min q.axes axis_limit))

-- what is left of a board's number at place d
abbrev pub Left : Plan → ℕ → ℕ → ℕ → Type 0
Left q b rest d = rest ≡ b / product (kept (whole q) (plan_grid q).parts) (q.axes - d) d

-- each axis from place d on may be a lead's
abbrev pub LeadFrom : Plan → ℕ → ℕ → ℕ → Type 0
LeadFrom q mask b d = (i : ℕ) → d ≤ i → i < q.axes → (eqb (label (plan_grid q) b i) 0 || not (has (summed_in q mask) i)) ≡ true

pub lead_back : (q : Plan) (mask b d : ℕ) → 0 < d → LeadFrom q mask b d → (eqb (label (plan_grid q) b (d - 1)) 0 || not (has (summed_in q mask) (d - 1))) ≡ true → LeadFrom q mask b (d - 1)
lead_back q mask b d p after t i l h =
    by (eqb i (d - 1)) (λ s. rw (eqb-true i (d - 1) s) t) (λ s. let ne = eqb-false i (d - 1) s in after i (omega (arith, ne)) h)

module _ (q : Plan) (ok : Accepted q) (b : ℕ) (below : b < boards (plan_grid q)) where
  pub left_start : Left q b b q.axes
  left_start = sym (ap (λ x. b / x) (product_none (kept (whole q) (plan_grid q).parts) q.axes q.axes (le_refl _)) ∙ div-one b)

  module _ (rest d : ℕ) (p : 0 < d) (l : d ≤ q.axes) (left : Left q b rest d) where
    abbrev e : ℕ
    e = d - 1

    inside : e < (plan_grid q).axes
    inside = let a = axes_same q ok in omega arith

    kept_here : has (whole q) e ≡ false
    kept_here = rw (full_set q ok) (unfold has in refl)

    told : (b / product (kept (whole q) (plan_grid q).parts) ((plan_grid q).axes - (e + 1)) (e + 1) % (plan_grid q).parts e ≡ label (plan_grid q) b e)
        × (b / product (kept (whole q) (plan_grid q).parts) ((plan_grid q).axes - (e + 1)) (e + 1) / (plan_grid q).parts e ≡ b / product (kept (whole q) (plan_grid q).parts) ((plan_grid q).axes - e) e)
    told =
        let r = rank_kept (plan_grid q) (whole q) b e inside (rw (full_leads q ok) below) kept_here in
        (r.0 ∙ full_label q ok b e, r.1)

    same : rest ≡ b / product (kept (whole q) (plan_grid q).parts) ((plan_grid q).axes - (e + 1)) (e + 1)
    same =
        let a = axes_same q ok in
        let z : q.axes - d ≡ (plan_grid q).axes - (e + 1) = omega arith in
        let y : d ≡ e + 1 = omega arith in
        left ∙ ap (λ n. b / product (kept (whole q) (plan_grid q).parts) n d) z ∙ ap (λ x. b / product (kept (whole q) (plan_grid q).parts) ((plan_grid q).axes - (e + 1)) x) y

    pub label_here : rest % (plan_grid q).parts e ≡ label (plan_grid q) b e
    label_here = ap (λ x. x % (plan_grid q).parts e) same ∙ told.0

    pub left_turn : Left q b (rest / (plan_grid q).parts e) e
    left_turn =
        let a = axes_same q ok in
        ap (λ x. x / (plan_grid q).parts e) same ∙ told.1 ∙ ap (λ n. b / product (kept (whole q) (plan_grid q).parts) (n - e) e) a

-- ---- how many leads a choice has, counted axis by axis

module _ (q : Plan) (ok : Accepted q) (mask : ℕ) where
  abbrev factor : ℕ → ℕ
  factor = kept (summed_in q mask) (plan_grid q).parts

  factor_fits : (d : ℕ) → d < (plan_grid q).axes → (0 < factor d) × (factor d ≤ (plan_grid q).parts d)
  factor_fits d h =
      let s = (lawful q ok).some d h in
      by (has (summed_in q mask) d)
      (λ t. let e = kept_has (plan_grid q).parts (summed_in q mask) d t in (omega arith, omega arith))
      (λ t. let e = kept_out (plan_grid q).parts (summed_in q mask) d t in (omega arith, omega arith))

  pub count_small : (d : ℕ) → d ≤ q.axes → product factor d 0 ≤ 1024
  count_small d h =
      let a = axes_same q ok in
      let x = part_le factor (plan_grid q).axes d 0 (λ i l. (factor_fits i l).0) (omega arith) in
      let y = product_le factor (plan_grid q).parts (plan_grid q).axes 0 (λ i l r. (factor_fits i (omega arith)).1) in
      let b : product (plan_grid q).parts (plan_grid q).axes 0 ≤ 1024 = (unfold boards in boards_few q ok) in
      omega arith

  pub count_none : 1 ≡ product factor 0 0
  unfolding product
  count_none = refl

  pub count_turn : (d : ℕ) → product factor d 0 * factor d ≡ product factor (d + 1) 0
  count_turn d = sym (product_last factor d 0 ∙ ap (λ x. product factor d 0 * factor x) (zero-add d))

  pub count_end : product factor q.axes 0 ≡ leads (plan_grid q) (summed_in q mask)
  unfolding leads
  count_end = ap (λ n. product factor n 0) (sym (axes_same q ok))
