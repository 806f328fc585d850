-- The transfers of the list add up to the values moved: extents, summed over the labels of an axis, make up its length.
use Prim.Native.Nat.{ℕ, zero, suc, ◌+◌, ◌-◌, ◌*◌, ◌≤◌, ◌<◌}
use mathlib.Core.Path.{◌≡◌, sym, ◌∙◌, refl, ap, ap₂}
use mathlib.Core.Bool.{Bool, true, false}
use mathlib.Core.List.{List, [], ◌∷◌, ◌++◌}
use native.Mathlib.Nat.{zero-add, add-zero, add_assoc, mul-zero, mul_comm}
use native.Mathlib.Omega.{arith}
use borrow.Author.Tests.{eqb-true, eqb-false, eq-eqb, ne_eqb}
use lib.Dec.{eqb}
use lib.ListN.{length}
use Rattle.cube_spec.specs.Boxes.{pick, product, sum_n}
use Rattle.cube_spec.specs.Tree as Tree
use Rattle.cube_spec.specs.Tree.{choice_cells, sent, has, kept, last_of, over_sets_from}
use Rattle.rack_spec.specs.Grids.{grid_of, Grid, Lawful, boards, box, cells, extent, label, lead, with_label}
use Rattle.rack_spec.specs.Steps.{TreeStep, each, finish, steps, sends, transfer, transfers, values, values_of, around, walk}
use Rattle.cube_spec.proofs.Sums.{by}
use Rattle.cube_spec.proofs.Boxing.{product_cong}
use Rattle.cube_spec.proofs.Products.{product_zero, product_sum}
use Rattle.cube_spec.proofs.Naturals.{both, sum_n_cong, sum_n_times, sum_n_same, sum_n_first_only}
use Rattle.cube_spec.proofs.Sets.{Down, down_up, down_lt, over_cong}
use Rattle.plan_spec.specs.Plans.{PlanLists, Sound, moved}
use Rattle.rack_spec.proofs.Lawful.{grid_lawful}
use Rattle.rack_spec.proofs.Boards as Boards

module _ (g : Grid) (ok : Lawful g) where
  -- ---- leads

  pub lead_each : (Z : List ℕ) (b i : ℕ) → lead g Z b ≡ true → has Z i ≡ true → label g b i ≡ 0
  unfolding lead has
  lead_each [] b i t h = absurd (let q : ◌≡◌ {A = ℕ} 0 1 = cc in omega arith)
  lead_each (j ∷ Z) b i t h =
      let p = both (eqb (label g b j) 0) (lead g Z b) t in
      by (eqb i j)
      (λ s. rw (eqb-true i j s) (eqb-true (label g b j) 0 p.0))
      (λ s. lead_each Z b i p.1 (rw s at h))

  pub lead_none : (Z : List ℕ) (b : ℕ) → lead g Z b ≡ false → (i : ℕ) × (has Z i ≡ true) × (label g b i ≡ 0 → ⊥)
  unfolding lead has
  lead_none [] b t = absurd (let q : ◌≡◌ {A = ℕ} 0 1 = cc in omega arith)
  lead_none (j ∷ Z) b t =
      by (eqb (label g b j) 0)
      (λ s.
      let r = lead_none Z b (rw s at t) in
      (r.0, by (eqb r.0 j) (λ u. rw u) (λ u. rw u r.1), r.2))
      (λ s. (j, rw (eq-eqb j j refl), eqb-false (label g b j) 0 s))

  -- the extent of the portion l of axis i, for a choice: a summed axis counts at label 0 alone
  share_of : List ℕ → ℕ → ℕ → ℕ
  share_of Z i l = pick (has Z i) (pick (eqb l 0) 1 0) (g.start i (suc l) - g.start i l)

  -- a board's cells of a choice if it is a lead, else 0, are a product over the axes
  lead_product : (Z : List ℕ) (b : ℕ) → Down Z g.axes → pick (lead g Z b) (cells g Z b) 0 ≡ product (λ i. share_of Z i (label g b i)) g.axes 0
  unfolding share_of
  lead_product Z b h =
      by (lead g Z b)
      (λ t. rw t (unfold cells in product_cong g.axes 0 (λ i l r. factor i t)))
      (λ t.
      let w = lead_none Z b t in
      let u = down_lt Z g.axes w.0 h w.1 in
      rw t (sym (product_zero _ g.axes 0 w.0 (omega arith) (omega arith) (rw (w.1, ne_eqb (label g b w.0) 0 w.2)))))
    where
      factor : (i : ℕ) → lead g Z b ≡ true → box g Z b i ≡ pick (has Z i) (pick (eqb (label g b i) 0) 1 0) (g.start i (suc (label g b i)) - g.start i (label g b i))
      factor i t = unfold box kept extent in by (has Z i) (λ s. rw (s, eq-eqb (label g b i) 0 (lead_each Z b i t s))) (λ s. rw s)

  -- portions make up an axis
  pub extents_sum : (i : ℕ) → i < g.axes → (n : ℕ) → n ≤ g.parts i → sum_n n (λ l. g.start i (suc l) - g.start i l) ≡ g.start i n
  unfolding sum_n
  extents_sum i r zero h = sym (ok.first i r)
  extents_sum i r (suc n) h = let p = extents_sum i r n (omega arith) in let q = ok.rising i n r h in omega arith

  share_sum : (Z : List ℕ) (i : ℕ) → i < g.axes → sum_n (g.parts i) (share_of Z i) ≡ kept Z g.len i
  unfolding share_of kept
  share_sum Z i r =
      by (has Z i)
      (λ t. rw t (sum_n_cong (g.parts i) (λ l _. ap (λ s. pick s (pick (eqb l 0) 1 0) (g.start i (suc l) - g.start i l)) t) ∙ sum_n_first_only (g.parts i) (ok.some i r)))
      (λ t. rw t (sum_n_cong (g.parts i) (λ l _. ap (λ s. pick s (pick (eqb l 0) 1 0) (g.start i (suc l) - g.start i l)) t) ∙ extents_sum i r (g.parts i) (omega arith) ∙ ok.last i r))

  -- the cells of a choice on all its leads make up the choice
  pub leads_cells : (Z : List ℕ) → Down Z g.axes → sum_n (boards g) (λ b. pick (lead g Z b) (cells g Z b) 0) ≡ product (kept Z g.len) g.axes 0
  unfolding boards label
  leads_cells Z h =
      sum_n_cong (product g.parts g.axes 0) (λ b _. lead_product Z b h) ∙ product_sum g.parts (share_of Z) g.axes 0 ∙ product_cong g.axes 0 (λ i l r. share_sum Z i (omega arith))

  -- ---- the values that transfers move

  values_append : (a b : List TreeStep) → values (a ++ b) ≡ values a + values b
  unfolding values
  values_append [] b = sym (zero-add (values b))
  values_append (s ∷ a) b = ap (λ n. values_of s + n) (values_append a b) ∙ sym (add_assoc (values_of s) (values a) (values b))

  values_each : (n : ℕ) (f : ℕ → List TreeStep) → values (each n f) ≡ sum_n n (λ b. values (f b))
  unfolding each sum_n
  values_each zero f = unfold values in refl
  values_each (suc n) f = values_append (each n f) (f n) ∙ ap (λ s. s + values (f n)) (values_each n f)

  values_sends : (Y : List ℕ) (b j n : ℕ) → b < boards g → n < g.parts j → values (sends g (j ∷ Y) b n) ≡ n * cells g (j ∷ Y) b
  unfolding sends
  values_sends Y b j n h k = values_each n _ ∙ sum_n_cong n (λ l u. (one l) ∙ Boards.sender_cells g ok Y b j (suc l) h (omega arith)) ∙ sum_n_same (cells g (j ∷ Y) b) n
    where
      one : (l : ℕ) → values (transfer (j ∷ Y) (with_label g b j (suc l)) b (cells g (j ∷ Y) (with_label g b j (suc l))) ∷ []) ≡ cells g (j ∷ Y) (with_label g b j (suc l))
      one l = unfold values in add-zero _

  -- the transfers of one choice move its cells 2 ^ k - 1 times
  pub values_transfers : (Y : List ℕ) (j : ℕ) → Down (j ∷ Y) g.axes → values (transfers g (j ∷ Y) (boards g)) ≡ (g.parts j - 1) * product (kept (j ∷ Y) g.len) g.axes 0
  unfolding transfers
  values_transfers Y j h =
      let q = ok.some j h.0 in
      values_each (boards g) _ ∙ sum_n_cong (boards g) (λ b u. one b u (lead g (j ∷ Y) b)) ∙ sum_n_times (g.parts j - 1) (boards g) (λ b. pick (lead g (j ∷ Y) b) (cells g (j ∷ Y) b) 0) ∙ ap (λ s. (g.parts j - 1) * s) (leads_cells (j ∷ Y) h)
    where
      one : (b : ℕ) → b < boards g → (t : Bool) → values (pick t (sends g (j ∷ Y) b (g.parts j - 1)) []) ≡ (g.parts j - 1) * pick t (cells g (j ∷ Y) b) 0
      one b u true = values_sends Y b j (g.parts j - 1) u (let q = ok.some j h.0 in omega arith)
      one b u false = unfold values in sym (mul-zero (g.parts j - 1))

  values_visit : (Y : List ℕ) (m : ℕ) (inner : List TreeStep) → values (around Y m inner) ≡ values inner
  unfolding values
  values_visit Y zero inner = values_append inner (finish Y ∷ []) ∙ add-zero (values inner)
  values_visit Y (suc m) inner = zero-add (values (inner ++ (finish Y ∷ []))) ∙ values_append inner (finish Y ∷ []) ∙ add-zero (values inner)

  values_walk : (m d : ℕ) (Y : List ℕ) → d + m ≡ g.axes → Down Y d → values (walk g m d Y) ≡ over_sets_from (λ Z. (g.parts (last_of Z) - 1) * product (kept Z g.len) g.axes 0) m d Y
  unfolding walk over_sets_from
  values_walk zero d Y e h = unfold values in refl
  values_walk (suc m) d Y e h =
      values_append (walk g m (d + 1) Y) _ ∙ ap₂ ◌+◌ (values_walk m (d + 1) Y (omega arith) (down_up Y d (d + 1) (omega arith) h)) (values_append (transfers g (d ∷ Y) (boards g)) _ ∙ ap₂ ◌+◌ (values_transfers Y d (omega arith, h)) (values_visit (d ∷ Y) m (walk g m (d + 1) (d ∷ Y)) ∙ values_walk m (d + 1) (d ∷ Y) (omega arith) (omega arith, h)))

  pub values_steps : values (steps g) ≡ over_sets_from (λ Z. (g.parts (last_of Z) - 1) * product (kept Z g.len) g.axes 0) g.axes 0 []
  values_steps = start ∙ values_walk g.axes 0 [] (zero-add g.axes) tt
    where
      start : values (steps g) ≡ values (walk g g.axes 0 [])
      start = unfold steps values in zero-add _

-- THE VALUES MOVED. The transfers of the whole list move as many values as the price says.
pub values_moved : (a : PlanLists) → Sound a → values (steps (grid_of a)) ≡ moved a
values_moved a ok = values_steps (grid_of a) (grid_lawful a ok) ∙ same
  where
    same : over_sets_from (λ Z. ((grid_of a).parts (last_of Z) - 1) * product (kept Z (grid_of a).len) (grid_of a).axes 0) (grid_of a).axes 0 [] ≡ moved a
    same = unfold grid_of moved Tree.moved choice_cells sent in over_cong _ _ (length a.lengths) 0 (length a.lengths) [] (zero-add _) tt (λ Z h. mul_comm _ _)
