-- A walk has as many steps as the code counts.
use Prim.Native.Nat.{ℕ, zero, suc, ◌+◌, ◌-◌, ◌*◌}
use mathlib.Core.Path.{◌≡◌, sym, ◌∙◌, ap, ap₂}
use mathlib.Core.List.{List, ◌∷◌}
use native.Mathlib.Nat.{zero-add, zero-mul, mul-one}
use native.Mathlib.Omega.{arith}
use lib.ListN.{length}
use lib.Pow.{pow_pos}
use Rattle.cube_spec.specs.Boxes.{product}
use Rattle.cube_spec.specs.Tree.{kept, over_sets_from}
use Rattle.rack_spec.specs.Grids.{Grid, Lawful}
use Rattle.rack_spec.specs.Steps.{walk}
use Rattle.rack_spec.specs.Counts.{span, labellings, sendings, marks, walk_count}
use Rattle.cube_spec.proofs.Boxing.{product_cong}
use Rattle.cube_spec.proofs.Products.{product_append, product_last}
use Rattle.cube_spec.proofs.Sets.{Down, down_up, down_out, kept_has, kept_out, kept_other, has_head}
use Rattle.rack_spec.proofs.Counting as Counting

module _ (g : Grid) (ok : Lawful g) where
  -- an axis that is kept gives more labellings, one that is summed out gives none
  pub labellings_kept : (d : ℕ) (Y : List ℕ) → Down Y d → labellings g (d + 1) Y ≡ labellings g d Y * g.parts d
  unfolding labellings
  labellings_kept d Y h = product_last (kept Y g.parts) d 0 ∙ ap (λ x. product (kept Y g.parts) d 0 * x) (kept_out g.parts Y (0 + d) (down_out Y d (0 + d) h (omega arith)) ∙ ap g.parts (zero-add d))

  pub labellings_summed : (d : ℕ) (Y : List ℕ) → labellings g (d + 1) (d ∷ Y) ≡ labellings g d Y
  unfolding labellings
  labellings_summed d Y =
      product_last (kept (d ∷ Y) g.parts) d 0
      ∙ ap₂ ◌*◌ (product_cong d 0 (λ i l r. kept_other g.parts d i Y (λ e. omega arith))) (ap (kept (d ∷ Y) g.parts) (zero-add d) ∙ kept_has g.parts (d ∷ Y) d (has_head d Y))
      ∙ mul-one _

  -- the leads of a child
  pub labellings_leads : (m d : ℕ) (Y : List ℕ) → d + suc m ≡ g.axes → Down Y d → product (kept (d ∷ Y) g.parts) g.axes 0 ≡ labellings g d Y * span g m (d + 1)
  unfolding labellings span
  labellings_leads m d Y e h =
      ap (λ n. product (kept (d ∷ Y) g.parts) n 0) (let z : g.axes ≡ (d + 1) + m = omega arith in z)
      ∙ product_append (kept (d ∷ Y) g.parts) (d + 1) m 0
      ∙ ap₂ ◌*◌ (labellings_summed d Y) (ap (product (kept (d ∷ Y) g.parts) m) (zero-add (d + 1)) ∙ product_cong m (d + 1) (λ i l r. kept_other g.parts d i Y (λ e. omega arith) ∙ kept_out g.parts Y i (down_out Y d i h (omega arith))))

  taken : (m d : ℕ) (Y : List ℕ) → d + suc m ≡ g.axes → Down Y d → Counting.Taken g ok (d ∷ Y) ≡ (g.parts d - 1) * (labellings g d Y * span g m (d + 1))
  unfolding Counting.Taken
  taken m d Y e h = ap (λ x. (g.parts d - 1) * x) (labellings_leads m d Y e h)

  -- what one axis more adds
  one_more : (S P K W : ℕ) → S * (W * P) + ((P - 1) * (W * K) + S * W) ≡ (S * (P + 1) + K * (P - 1)) * W
  one_more S P K W = omega arith

  pub all_sendings : (m d : ℕ) (Y : List ℕ) → d + m ≡ g.axes → Down Y d → over_sets_from (Counting.Taken g ok) m d Y ≡ sendings g m d * labellings g d Y
  unfolding sendings over_sets_from
  all_sendings zero d Y e h = sym (zero-mul (labellings g d Y))
  all_sendings (suc m) d Y e h =
      ap₂ ◌+◌ (all_sendings m (d + 1) Y (omega arith) (down_up Y d (d + 1) (omega arith) h) ∙ ap (λ x. sendings g m (d + 1) * x) (labellings_kept d Y h))
      (ap₂ ◌+◌ (taken m d Y e h) (all_sendings m (d + 1) (d ∷ Y) (omega arith) (omega arith, h) ∙ ap (λ x. sendings g m (d + 1) * x) (labellings_summed d Y)))
      ∙ one_more (sendings g m (d + 1)) (g.parts d) (span g m (d + 1)) (labellings g d Y)

  none_left : (d W : ℕ) → walk_count g 0 d W ≡ 0
  unfolding walk_count marks sendings
  none_left d W = omega arith

  -- THE WALK'S COUNT.
  pub walk_count_lem : (m d : ℕ) (Y : List ℕ) → d + m ≡ g.axes → Down Y d → length (walk g m d Y) ≡ walk_count g m d (labellings g d Y)
  unfolding walk_count marks
  walk_count_lem zero d Y e h = (Counting.last_walk g ok d Y).0 ∙ sym (none_left d (labellings g d Y))
  walk_count_lem (suc m) d Y e h =
      let p = Counting.walk_length g ok m d Y e h in
      let q = all_sendings (suc m) d Y e h in
      let r = pow_pos m in
      let s = pow_pos (suc m) in
      omega arith
