-- What the code of an expansion computes with: the parent's cells that a child's cell sums, and the strides of the array.
use Prim.Native.Nat.{ℕ, zero, suc, ◌+◌, ◌-◌, ◌*◌, ◌/◌, ◌%◌, ◌<◌}
use mathlib.Core.Path.{◌≡◌, sym, ◌∙◌, refl, ap, ap₂}
use mathlib.Core.Bool.{false}
use mathlib.Core.List.{List, ◌∷◌}
use native.Mathlib.Nat.{zero-add, add-zero, mul-one}
use native.Mathlib.Omega.{arith}
use Rattle.cube_spec.specs.Boxes.{sum_n, put, product, place, position, Within}
use Rattle.cube_spec.specs.Tree.{has}
use Rattle.cube_spec.proofs.Sums.{put_same, put_other}
use Rattle.cube_spec.proofs.Naturals.{sum_n_cong, sum_n_first}
use Rattle.cube_spec.proofs.Boxing.{row_of, rest_of, product_cong, place_cong, position_lt, place_position}
use Rattle.cube_spec.proofs.Sets.{has_head, kept_has, kept_out, kept_other}
use Rattle.plan_spec.specs.Plans.{PlanLists, Sound}
use Rattle.plan_spec.proofs.Orders.{sum_order}
use Rattle.rack_spec.specs.Grids.{Grid, grid_of, extent, box, cells}
use Rattle.rack_spec.proofs.Lawful.{grid_lawful}
use Rattle.rack_spec.proofs.Around.{inner, place_around, after_lt}
use Rattle.rack_spec.proofs.Planned.{inner_from}
use Rattle.run_spec.specs.Memory.{point_at}
use Rattle.run_spec.specs.Expansions.{axis_length, stride}

-- ---- a child's cell c and the parent's cells that it sums

module _ (g : Grid) (Y : List ℕ) (b j : ℕ) (out : has Y j ≡ false) (r : j < g.axes) where
  pub same_axis : (i : ℕ) → (i ≡ j → ⊥) → box g (j ∷ Y) b i ≡ box g Y b i
  unfolding box
  same_axis i ne = kept_other (extent g b) j i Y ne

  pub one_cell : box g (j ∷ Y) b j ≡ 1
  unfolding box
  one_cell = kept_has (extent g b) (j ∷ Y) j (has_head j Y)

  own_axis : box g Y b j ≡ extent g b j
  unfolding box
  own_axis = kept_out (extent g b) Y j out

  inner_same : inner (box g (j ∷ Y) b) g.axes 0 j ≡ inner (box g Y b) g.axes 0 j
  unfolding inner
  inner_same = product_cong (0 + g.axes - suc j) (suc j) (λ i l u. same_axis i (λ q. omega arith))

  -- (outer, m, inner): the parent's cell with position m on axis j over the child's cell c
  pub parent_formula : (c m : ℕ) → c < cells g (j ∷ Y) b → (let R = inner (box g Y b) g.axes 0 j in place (box g Y b) (put (position (box g (j ∷ Y) b) g.axes 0 c) j m) g.axes 0 ≡ (c / R * extent g b j + m) * R + c % R)
  unfolding cells
  parent_formula c m k =
      let n = g.axes in
      let e = box g (j ∷ Y) b in
      let f = box g Y b in
      let x : ℕ → ℕ = position e n 0 c in
      let w : Within n e x = λ i u. position_lt e n 0 c i k (omega arith) (omega arith) in
      let R = inner f n 0 j in
      let z : x j ≡ 0 = (let u : x j < 1 = rw (← one_cell) (w j r) in omega arith) in
      let o : ℕ = place e x (j - 0) 0 in
      let t : ℕ = place e x (0 + n - suc j) (suc j) in
      let u : t < R = rw (← inner_same) (after_lt n j r e x w) in
      let y : o * e j + x j ≡ o = ap₂ (λ a v. o * a + v) one_cell z ∙ add-zero (o * 1) ∙ mul-one o in
      let q : o * R + t ≡ c = ap₂ (λ a R. a * R + t) (sym y) (sym inner_same) ∙ sym (place_around e x n 0 j (omega arith) (omega arith)) ∙ place_position e n 0 c k in
      let d₁ : c / R ≡ o = ap (λ c. c / R) (sym q) ∙ row_of o u in
      let d₂ : c % R ≡ t = ap (λ c. c % R) (sym q) ∙ rest_of o u in
      let s₁ : place f (put x j m) (j - 0) 0 ≡ o = place_cong (j - 0) 0 (λ i l u. sym (same_axis i (λ q. omega arith))) (λ i l u. put_other x j m i (λ q. omega arith)) in
      let s₂ : place f (put x j m) (0 + n - suc j) (suc j) ≡ t = place_cong (0 + n - suc j) (suc j) (λ i l u. sym (same_axis i (λ q. omega arith))) (λ i l u. put_other x j m i (λ q. omega arith)) in
      let s₃ : place f (put x j m) (j - 0) 0 * f j + put x j m j ≡ c / R * extent g b j + m = ap₂ ◌+◌ (ap₂ ◌*◌ (s₁ ∙ sym d₁) own_axis) (put_same x j m) in
      place_around f (put x j m) n 0 j (omega arith) (omega arith) ∙ ap₂ (λ a t. a * R + t) s₃ (s₂ ∙ sym d₂)

-- ---- strides

place_sum : (e x : ℕ → ℕ) (m d : ℕ) → place e x m d ≡ sum_n m (λ i. x (d + i) * inner e m d (d + i))
unfolding place sum_n
place_sum e x zero d = refl
place_sum e x (suc m) d =
    let f : ℕ → ℕ = λ i. x (d + i) * inner e (suc m) d (d + i) in
    let q₀ : d + 0 ≡ d = add-zero d in
    let q₁ : inner e (suc m) d d ≡ product e m (d + 1) = (unfold inner in (let s₁ : d + suc m - suc d ≡ m = omega arith in let s₂ : suc d ≡ d + 1 = omega arith in rw (s₁, s₂))) in
    let p : x d * product e m (d + 1) ≡ f 0 = (rw (q₀, q₁)) in
    let r : place e x m (d + 1) ≡ sum_n m (λ i. f (suc i)) = place_sum e x m (d + 1) ∙ sum_n_cong m (λ i l. ap (λ k. x k * inner e m (d + 1) k) (let s : d + 1 + i ≡ d + suc i = omega arith in s) ∙ ap (λ R. x (d + suc i) * R) (shift e m d (d + suc i))) in
    ap₂ ◌+◌ p r ∙ sym (sum_n_first m f)
  where
    shift : (e : ℕ → ℕ) (m d k : ℕ) → inner e m (d + 1) k ≡ inner e (suc m) d k
    shift e m d k = unfold inner in (let s : d + 1 + m ≡ d + suc m = omega arith in rw s)

pub stride_inner : (g : Grid) (d : ℕ) → stride g d ≡ inner (axis_length g) g.axes 0 (g.order d)
unfolding stride
stride_inner g d = sym (inner_from (axis_length g) g.axes (g.order d))

-- places by axis number are sums over the axes in plan order, for a box of any lengths
pub place_formula : (a : PlanLists) → Sound a → (e z : ℕ → ℕ) → place e (λ x. z ((grid_of a).rank x)) (grid_of a).axes 0 ≡ sum_n (grid_of a).axes (λ d. z d * product e ((grid_of a).axes - ((grid_of a).order d + 1)) ((grid_of a).order d + 1))
place_formula a sound e z = numbered ∙ sym (sum_n_cong (grid_of a).axes one ∙ ordered)
  where
    term : ℕ → ℕ
    term x = z ((grid_of a).rank x) * inner e (grid_of a).axes 0 x

    numbered : place e (λ x. z ((grid_of a).rank x)) (grid_of a).axes 0 ≡ sum_n (grid_of a).axes term
    numbered = place_sum e (λ x. z ((grid_of a).rank x)) (grid_of a).axes 0 ∙ sum_n_cong (grid_of a).axes (λ x h. ap term (zero-add x))

    one : (d : ℕ) → d < (grid_of a).axes → z d * product e ((grid_of a).axes - ((grid_of a).order d + 1)) ((grid_of a).order d + 1) ≡ term ((grid_of a).order d)
    one d h = ap₂ ◌*◌ (ap z (sym ((grid_lawful a sound).rank_order d h))) (sym (inner_from e (grid_of a).axes ((grid_of a).order d)))

    ordered : sum_n (grid_of a).axes (λ d. term ((grid_of a).order d)) ≡ sum_n (grid_of a).axes term
    ordered = unfold grid_of in sum_order a sound _

pub point_formula : (a : PlanLists) → Sound a → (z : ℕ → ℕ) → point_at (grid_of a) z ≡ sum_n (grid_of a).axes (λ d. z d * stride (grid_of a) d)
unfolding point_at stride
point_formula a sound z = place_formula a sound (axis_length (grid_of a)) z
