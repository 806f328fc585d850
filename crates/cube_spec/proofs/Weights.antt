-- Values moved as the sum of weight × (2^k − 1).
use Prim.Native.Nat.{ℕ, zero, suc, ◌+◌, ◌-◌, ◌*◌}
use mathlib.Core.Path.{◌≡◌, sym, ◌∙◌, refl, ap, ap₂}
use mathlib.Core.List.{List, [], ◌∷◌}
use native.Mathlib.Nat.{zero-add, add-zero, mul-one, mul-zero}
use native.Mathlib.Omega.{arith}
use Rattle.cube_spec.proofs.Naturals.{sum_n_last}
use Rattle.cube_spec.specs.Boxes.{sum_n, product}
use Rattle.cube_spec.specs.Tree.{kept, choice_cells, last_of, over_sets_from, sent, moved, weight, weighted}
use Rattle.cube_spec.proofs.Boxing.{product_cong}
use Rattle.cube_spec.proofs.Products.{product_append, product_last}
use Rattle.cube_spec.proofs.Sets.{Down, down_up, down_out, has_head, kept_has, kept_out, kept_other}

-- what the m axes from d on give, for each cell of what is kept before them
tail : (ℕ → ℕ) → (ℕ → ℕ) → ℕ → ℕ → ℕ
tail len exp zero d = 0
tail len exp (suc m) d = (len d + 1) * tail len exp m (d + 1) + sent (exp d) * product len m (d + 1)

module _ (len : ℕ → ℕ) where
  pub front_kept : (d : ℕ) (Y : List ℕ) → Down Y d → product (kept Y len) (d + 1) 0 ≡ product (kept Y len) d 0 * len d
  front_kept d Y h =
      product_last (kept Y len) d 0 ∙ ap (λ x. product (kept Y len) d 0 * x) (ap (kept Y len) (zero-add d) ∙ kept_out len Y d (down_out Y d d h (omega arith)))

  pub front_summed : (d : ℕ) (Y : List ℕ) → product (kept (d ∷ Y) len) (d + 1) 0 ≡ product (kept Y len) d 0
  front_summed d Y =
      product_last (kept (d ∷ Y) len) d 0 ∙ ap₂ ◌*◌ (product_cong d 0 (λ i l r. kept_other len d i Y (λ q. omega arith))) (ap (kept (d ∷ Y) len) (zero-add d) ∙ kept_has len (d ∷ Y) d (has_head d Y)) ∙ mul-one _

  -- the cells of a choice whose summed axes stand before d
  pub choice_cells_lem : (m d : ℕ) (Y : List ℕ) → Down Y d → choice_cells (d + m) len Y ≡ product (kept Y len) d 0 * product len m d
  unfolding choice_cells
  choice_cells_lem m d Y h =
      product_append (kept Y len) d m 0 ∙ ap (λ x. product (kept Y len) d 0 * x) (ap (product (kept Y len) m) (zero-add d) ∙ product_cong m d (λ i l r. kept_out len Y i (down_out Y d i h l)))

module _ (n : ℕ) (len exp : ℕ → ℕ) where
  abbrev Cost : List ℕ → ℕ
  Cost Z = choice_cells n len Z * sent (exp (last_of Z))

  cost_here : (m d : ℕ) (Y : List ℕ) → d + suc m ≡ n → Down Y d → choice_cells n len (d ∷ Y) ≡ product (kept Y len) d 0 * product len m (d + 1)
  cost_here m d Y e h =
      let q : n ≡ d + 1 + m = omega arith in
      rw q (choice_cells_lem len m (d + 1) (d ∷ Y) (omega arith, h) ∙ ap (λ x. x * product len m (d + 1)) (front_summed len d Y))

  sets_tail : (m d : ℕ) (Y : List ℕ) → d + m ≡ n → Down Y d → over_sets_from Cost m d Y ≡ product (kept Y len) d 0 * tail len exp m d
  unfolding over_sets_from tail
  sets_tail zero d Y e h = sym (mul-zero _)
  sets_tail (suc m) d Y e h =
      let a = sets_tail m (d + 1) Y (omega arith) (down_up Y d (d + 1) (omega arith) h) in
      let b = sets_tail m (d + 1) (d ∷ Y) (omega arith) (omega arith, h) in
      let p = front_kept len d Y h in
      let q = front_summed len d Y in
      let c = cost_here m d Y e h in
      rw (a, b, p, q, c) (omega arith)

  -- the axes from d on, with the sum of those before
  tail_weighted : (m d : ℕ) → d + m ≡ n → product (λ j. len j + 1) d 0 * tail len exp m d + sum_n d (λ i. weight n len i * sent (exp i)) ≡ weighted n len exp
  unfolding tail
  tail_weighted zero d e =
      let q : d ≡ n = omega arith in
      rw (q, mul-zero, zero-add) (unfold weighted in refl)
  tail_weighted (suc m) d e =
      let ih = tail_weighted m (d + 1) (omega arith) in
      let p = product_last (λ j. len j + 1) d 0 in
      let z = zero-add d in
      let w : weight n len d ≡ product (λ j. len j + 1) d 0 * product len m (d + 1) = (unfold weight in (let q : n - suc d ≡ m = omega arith in let r : suc d ≡ d + 1 = omega arith in rw (q, r))) in
      let s = sum_n_last d (λ i. weight n len i * sent (exp i)) in
      let y = (rw (p, z, s, w) at ih) in
      omega arith

  -- THE PRICE BY WEIGHTS
  pub moved_weighted : moved n len exp ≡ weighted n len exp
  unfolding moved product sum_n
  moved_weighted = sets_tail n 0 [] (zero-add n) tt ∙ sym (add-zero (1 * tail len exp n 0)) ∙ tail_weighted n 0 (zero-add n)
