-- Axes as a list in plan order, and the sums over every set of summed axes by recursion over that list.
use Prim.Native.Nat.{ℕ, zero, suc, ◌+◌, ◌*◌}
use mathlib.Core.Path.{◌≡◌, sym, ◌∙◌, refl, ap, ap₂}
use mathlib.Core.List.{List, [], ◌∷◌}
use native.Mathlib.Nat.{zero-add, add-zero, mul-zero}
use native.Mathlib.Omega.{arith}
use lib.ListN.{length}
use Rattle.cube_spec.specs.Boxes.{product, table_from, table}
use Rattle.cube_spec.specs.Tree.{kept, choice_cells, over_sets_from, over_sets, sent, moved, added}
use Rattle.cube_spec.proofs.Sets.{Down, down_up, down_out}
use Rattle.cube_spec.proofs.Weights.{front_kept, front_summed}
use Rattle.cube_spec.proofs.Powers.{product_drop}

-- an axis: its length, and its key, by which it is priced (its exponent, or its length)
pub record Axis : Type 0 where
  pub len : ℕ
  pub key : ℕ

unfoldable pub lens : List Axis → List ℕ
lens [] = []
lens (a ∷ r) = a.len ∷ lens r

unfoldable pub keys : List Axis → List ℕ
keys [] = []
keys (a ∷ r) = a.key ∷ keys r

-- The sum over every set of summed axes of the cells of its choice times the price of its last axis: each axis is kept (first part) or summed (second
-- part). `k` is the key of the last axis summed so far, 0 while there is none, and `c` the cells of what is kept so far.
unfoldable pub tree : (ℕ → ℕ) → ℕ → ℕ → List Axis → ℕ
tree price k c [] = c * price k
tree price k c (a ∷ r) = tree price k (c * a.len) r + tree price a.key c r

-- axes are their lengths and their keys
pub axes_same : (r s : List Axis) → lens r ≡ lens s → keys r ≡ keys s → r ≡ s
unfolding lens keys
axes_same [] [] e f = refl
axes_same [] (b ∷ s) e f = absurd (let z : ◌≡◌ {A = ℕ} 0 1 = cc in omega arith)
axes_same (a ∷ r) [] e f = absurd (let z : ◌≡◌ {A = ℕ} 0 1 = cc in omega arith)
axes_same (a ∷ r) (b ∷ s) e f =
    let d : a.len ≡ b.len = cc in
    let k : a.key ≡ b.key = cc in
    ap₂ (λ (x : Axis) (y : List Axis). x ∷ y) (λ i. record { len = d i; key = k i }) (axes_same r s (cc) (cc))

pub lens_length : (r : List Axis) → length (lens r) ≡ length r
unfolding lens
lens_length [] = refl
lens_length (a ∷ r) = ap suc (lens_length r)

pub keys_length : (r : List Axis) → length (keys r) ≡ length r
unfolding keys
keys_length [] = refl
keys_length (a ∷ r) = ap suc (keys_length r)

-- axes given by place
abbrev pub axis : (ℕ → ℕ) → (ℕ → ℕ) → ℕ → Axis
axis len key i = record { len = len i; key = key i }

pub lens_table : (len key : ℕ → ℕ) (m d : ℕ) → lens (table_from m d (axis len key)) ≡ table_from m d len
unfolding lens table_from
lens_table len key zero d = refl
lens_table len key (suc m) d = ap (λ (x : List ℕ). len d ∷ x) (lens_table len key m (d + 1))

pub keys_table : (len key : ℕ → ℕ) (m d : ℕ) → keys (table_from m d (axis len key)) ≡ table_from m d key
unfolding keys table_from
keys_table len key zero d = refl
keys_table len key (suc m) d = ap (λ (x : List ℕ). key d ∷ x) (keys_table len key m (d + 1))

module _ (n : ℕ) (len key price : ℕ → ℕ) (F : List ℕ → ℕ) (same : (j : ℕ) (Y : List ℕ) → Down (j ∷ Y) n → F (j ∷ Y) ≡ choice_cells n len (j ∷ Y) * price (key j)) where
  -- the sets that are Y with some of the places from d on, and Y itself at the price of k
  sets_tree : (m d k : ℕ) (Y : List ℕ) → d + m ≡ n → Down Y d → over_sets_from F m d Y + choice_cells n len Y * price k ≡ tree price k (product (kept Y len) d 0) (table_from m d (axis len key))
  unfolding over_sets_from tree table_from choice_cells
  sets_tree zero d k Y e h = let q : d ≡ n = omega arith in rw q (zero-add (choice_cells n len Y * price k))
  sets_tree (suc m) d k Y e h =
      let i = sets_tree m (d + 1) k Y (omega arith) (down_up Y d (d + 1) (omega arith) h) in
      let j = sets_tree m (d + 1) (key d) (d ∷ Y) (omega arith) (omega arith, h) in
      let f = same d Y (omega arith, h) in
      rw (← front_kept len d Y h, ← i, ← front_summed len d Y, ← j, f) (omega arith)

  pub over_tree : price 0 ≡ 0 → over_sets n F ≡ tree price 0 1 (table n (axis len key))
  unfolding product
  over_tree z = sym (add-zero _) ∙ ap (λ x. over_sets n F + x) (sym (ap (λ x. choice_cells n len [] * x) z ∙ mul-zero _)) ∙ sets_tree n 0 0 [] (zero-add n) tt

module _ (n : ℕ) (len : ℕ → ℕ) where
  -- values moved: each axis is priced by its exponent
  pub moved_tree : (exp : ℕ → ℕ) → moved n len exp ≡ tree sent 0 1 (table n (axis len exp))
  unfolding moved
  moved_tree exp = over_tree n len exp sent _ (λ j Y h. refl) (unfold sent in refl)

  -- cells added up: each axis is priced by its length, the parent's cells being the choice's times that
  pub added_tree : added n len ≡ tree (λ k. k) 0 1 (table n (axis len len))
  unfolding added
  added_tree = over_tree n len len (λ k. k) _ (λ j Y h. parent j Y h) refl
    where
      parent : (j : ℕ) (Y : List ℕ) → Down (j ∷ Y) n → choice_cells n len Y ≡ choice_cells n len (j ∷ Y) * len j
      parent j Y h = unfold choice_cells in (let l = h.0 in sym (product_drop len j Y n 0 (omega arith) (omega arith) (down_out Y j j h.1 (omega arith))))
