-- What all boards together hold of the choices: it does not hang on how the axes are cut.
use Prim.Native.Nat.{ℕ, suc, ◌-◌, ◌<◌}
use mathlib.Core.Path.{◌≡◌, sym, ◌∙◌, refl, ap}
use mathlib.Core.Bool.{Bool, true, false, ◌&&◌, not}
use mathlib.Core.List.{List, [], ◌∷◌}
use native.Mathlib.Nat.{zero-add, mul-one}
use native.Mathlib.Omega.{arith}
use borrow.Author.Tests.{eq-eqb, ne_eqb}
use lib.Dec.{eqb}
use Rattle.cube_spec.specs.Boxes.{pick, product, sum_n}
use Rattle.cube_spec.specs.Tree.{has, kept, parent_of, over_sets_from}
use Rattle.cube_spec.proofs.Sums.{by}
use Rattle.cube_spec.proofs.Boxing.{product_cong}
use Rattle.cube_spec.proofs.Naturals.{sum_n_cong, sum_n_same, sum_n_zero, sum_n_first_only}
use Rattle.cube_spec.proofs.Products.{product_zero, product_sum}
use Rattle.cube_spec.proofs.Sets.{Down, down_up, down_lt, over_cong, over_sum}
use Rattle.rack_spec.specs.Grids.{Grid, Lawful, boards, label, lead, extent, box, cells}
use Rattle.rack_spec.specs.Held.{expansions, finishes, own, held_after}
use Rattle.rack_spec.specs.Steps.{TreeStep}
use Rattle.rack_spec.proofs.Moving.{lead_each, lead_none, extents_sum, leads_cells}

-- is the choice Y held when the steps l are taken?
abbrev pub live : List TreeStep → List ℕ → Bool
live l Y = not (eqb (expansions (parent_of Y) l) 0) && eqb (finishes Y l) 0

pick_sum : (t : Bool) (n : ℕ) (f : ℕ → ℕ) → sum_n n (λ b. pick t (f b) 0) ≡ pick t (sum_n n f) 0
pick_sum true n f = refl
pick_sum false n f = sum_n_zero n

-- a choice counts while it is held, with its cells on all boards that form it
pub held_sum : (g : Grid) (l : List TreeStep) → sum_n (boards g) (λ b. held_after g b l) ≡ over_sets_from (λ Y. pick (live l Y) (sum_n (boards g) (λ b. own g b Y)) 0) g.axes 0 []
unfolding held_after
held_sum g l =
    over_sum (λ b Y. pick (live l Y) (own g b Y) 0) (boards g) g.axes 0 []
    ∙ over_cong _ _ g.axes 0 g.axes [] (zero-add g.axes) tt (λ Y h. pick_sum (live l Y) (boards g) (λ b. own g b Y))

module _ (g : Grid) (ok : Lawful g) where
  -- the root's, one cell for each point
  pub root_sum : sum_n (boards g) (λ b. own g b []) ≡ product (kept [] g.len) g.axes 0
  unfolding own
  root_sum = leads_cells g ok [] tt

  -- the cells of the choice that sums out axis j too: what each label of an axis adds, and all of them together
  module _ (Y : List ℕ) (j : ℕ) (down : Down (j ∷ Y) g.axes) where
    unfoldable part : ℕ → ℕ → ℕ
    part i l = pick (has Y i) (pick (eqb l 0) 1 0) (pick (eqb i j) 1 (g.start i (suc l) - g.start i l))

    unfoldable pub whole : ℕ → ℕ
    whole i = pick (has Y i) 1 (pick (eqb i j) (g.parts i) (g.len i))

    inside : Down Y g.axes
    inside = down_up Y j g.axes (let l = down.0 in omega arith) down.1

    own_product : (b : ℕ) → own g b (j ∷ Y) ≡ product (λ i. part i (label g b i)) g.axes 0
    unfolding own part
    own_product b =
        by (lead g Y b)
        (λ t. rw t (unfold cells in product_cong g.axes 0 (λ i l r. factor i t)))
        (λ t.
        let w = lead_none g ok Y b t in
        let u = down_lt Y g.axes w.0 inside w.1 in
        rw t (sym (product_zero _ g.axes 0 w.0 (omega arith) (omega arith) (rw (w.1, ne_eqb (label g b w.0) 0 w.2)))))
      where
        factor : (i : ℕ) → lead g Y b ≡ true → box g (j ∷ Y) b i ≡ pick (has Y i) (pick (eqb (label g b i) 0) 1 0) (pick (eqb i j) 1 (g.start i (suc (label g b i)) - g.start i (label g b i)))
        factor i t = unfold box kept has extent in by (has Y i) (λ s. by (eqb i j) (λ u. rw (u, s, eq-eqb (label g b i) 0 (lead_each g ok Y b i t s))) (λ u. rw (u, s, eq-eqb (label g b i) 0 (lead_each g ok Y b i t s)))) (λ s. by (eqb i j) (λ u. rw (u, s)) (λ u. rw (u, s)))

    part_sum : (i : ℕ) → i < g.axes → sum_n (g.parts i) (part i) ≡ whole i
    unfolding part whole
    part_sum i r =
        by (has Y i)
        (λ t. rw t (sum_n_cong (g.parts i) (λ l _. ap (λ s. pick s (pick (eqb l 0) 1 0) (pick (eqb i j) 1 (g.start i (suc l) - g.start i l))) t) ∙ sum_n_first_only (g.parts i) (ok.some i r)))
        (λ t.
        by (eqb i j)
        (λ u. rw (t, u) (sum_n_cong (g.parts i) (λ l _. ap (λ s. pick s (pick (eqb l 0) 1 0) (pick (eqb i j) 1 (g.start i (suc l) - g.start i l))) t ∙ ap (λ s. pick s 1 (g.start i (suc l) - g.start i l)) u) ∙ sum_n_same 1 (g.parts i) ∙ mul-one (g.parts i)))
        (λ u. rw (t, u) (sum_n_cong (g.parts i) (λ l _. ap (λ s. pick s (pick (eqb l 0) 1 0) (pick (eqb i j) 1 (g.start i (suc l) - g.start i l))) t ∙ ap (λ s. pick s 1 (g.start i (suc l) - g.start i l)) u) ∙ extents_sum g ok i r (g.parts i) (omega arith) ∙ ok.last i r)))

    pub own_sum : sum_n (boards g) (λ b. own g b (j ∷ Y)) ≡ product whole g.axes 0
    unfolding boards label
    own_sum = sum_n_cong (product g.parts g.axes 0) (λ b _. own_product b) ∙ product_sum g.parts part g.axes 0 ∙ product_cong g.axes 0 (λ i l r. part_sum i (omega arith))
