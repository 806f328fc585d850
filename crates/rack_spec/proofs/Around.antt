-- A box cut around one axis as (outer, this axis, inner): a position, a label and a sender straight from a number, as code computes them.
use Prim.Native.Nat.{ℕ, zero, suc, ◌+◌, ◌-◌, ◌*◌, ◌/◌, ◌%◌, ◌≤◌, ◌<◌}
use mathlib.Core.Path.{◌≡◌, sym, ◌∙◌, refl, ap}
use native.Mathlib.Numerals.{add-one}
use native.Mathlib.Nat.{zero-add, add-zero, mul-add-mod_self_right, mod-eq_of_lt}
use native.Mathlib.Omega.{arith}
use borrow.Author.Tests.{eqb-true, eqb-false}
use lib.Dec.{eqb}
use Rattle.cube_spec.specs.Boxes.{put, product, place, position, Within}
use Rattle.cube_spec.proofs.Products.{product_append}
use Rattle.cube_spec.proofs.Sums.{by, put_same, put_other}
use Rattle.cube_spec.proofs.Boxing.{row_of, place_cong, place_lt, position_lt, place_position}
use Rattle.rack_spec.specs.Grids.{Grid, boards, label, board_with, with_label}

-- ---- a box of m axes from d on, cut around axis j: the axes before j, axis j, and the axes after it

-- the number of cells that the axes after j make
unfoldable pub inner : (ℕ → ℕ) → ℕ → ℕ → ℕ → ℕ
inner e m d j = product e (d + m - suc j) (suc j)

-- a box in two pieces
pub place_append : (e x : ℕ → ℕ) (a b d : ℕ) → place e x (a + b) d ≡ place e x a d * product e b (d + a) + place e x b (d + a)
unfolding place
place_append e x zero b d =
    let z : 0 + b ≡ b = zero-add b in
    let y : d + 0 ≡ d = add-zero d in
    rw (z, y) (omega arith)
place_append e x (suc a) b d =
    let z : suc a + b ≡ suc (a + b) = omega arith in
    let y : d + suc a ≡ d + 1 + a = omega arith in
    rw (z, y, product_append e a b (d + 1), place_append e x a b (d + 1)) (regroup (x d) (product e a (d + 1)) (place e x a (d + 1)) (product e b (d + 1 + a)) (place e x b (d + 1 + a)))
  where
    regroup : (v A p B q : ℕ) → v * (A * B) + (p * B + q) ≡ (v * A + p) * B + q
    regroup v A p B q = omega arith

pub place_around : (e x : ℕ → ℕ) (m d j : ℕ) → d ≤ j → j < d + m → place e x m d ≡ (place e x (j - d) d * e j + x j) * inner e m d j + place e x (d + m - suc j) (suc j)
place_around e x m d j l r =
    let z : m ≡ (j - d) + suc (d + m - suc j) = omega arith in
    let y : d + (j - d) ≡ j = omega arith in
    ap (λ m. place e x m d) z ∙ place_append e x (j - d) (suc (d + m - suc j)) d ∙ ap (λ k. place e x (j - d) d * product e (suc (d + m - suc j)) k + place e x (suc (d + m - suc j)) k) y ∙ (unfold inner in next (place e x (j - d) d) (d + m - suc j))
  where
    regroup : (o E R v t : ℕ) → o * (E * R) + (v * R + t) ≡ (o * E + v) * R + t
    regroup o E R v t = omega arith

    next : (o k : ℕ) → o * product e (suc k) j + place e x (suc k) j ≡ (o * e j + x j) * product e k (suc j) + place e x k (suc j)
    next o k = unfold product place in (let y : j + 1 ≡ suc j = add-one j in rw y (regroup o (e j) (product e k (suc j)) (x j) (place e x k (suc j))))

-- ---- of a whole box of n axes

module _ (n j : ℕ) (h : j < n) where
  pub after_lt : (e x : ℕ → ℕ) → Within n e x → place e x (0 + n - suc j) (suc j) < inner e n 0 j
  unfolding inner
  after_lt e x w = place_lt (0 + n - suc j) (suc j) (λ i l r. w i (omega arith))

  -- the position on axis j, straight from the cell's number
  pub position_formula : (e : ℕ → ℕ) (c : ℕ) → c < product e n 0 → position e n 0 c j ≡ c / inner e n 0 j % e j
  position_formula e c k =
      let x : ℕ → ℕ = position e n 0 c in
      let w : Within n e x = λ i u. position_lt e n 0 c i k (omega arith) (omega arith) in
      let q : (place e x (j - 0) 0 * e j + x j) * inner e n 0 j + place e x (0 + n - suc j) (suc j) ≡ c = sym (place_around e x n 0 j (omega arith) (omega arith)) ∙ place_position e n 0 c k in
      let s : c / inner e n 0 j ≡ place e x (j - 0) 0 * e j + x j = ap (λ c. c / inner e n 0 j) (sym q) ∙ row_of (place e x (j - 0) 0 * e j + x j) (after_lt e x w) in
      sym (ap (λ c. c % e j) s ∙ mul-add-mod_self_right (place e x (j - 0) 0) (e j) (x j) ∙ mod-eq_of_lt (w j h))

  -- moving v steps along axis j
  pub place_further : (e x : ℕ → ℕ) (u v : ℕ) → place e (put x j (u + v)) n 0 ≡ place e (put x j u) n 0 + v * inner e n 0 j
  place_further e x u v =
      let o : place e (put x j (u + v)) (j - 0) 0 ≡ place e (put x j u) (j - 0) 0 = place_cong (j - 0) 0 (λ i l r. refl) (λ i l r. put_other x j (u + v) i (λ q. omega arith) ∙ sym (put_other x j u i (λ q. omega arith))) in
      let r : place e (put x j (u + v)) (0 + n - suc j) (suc j) ≡ place e (put x j u) (0 + n - suc j) (suc j) = place_cong (0 + n - suc j) (suc j) (λ i l r. refl) (λ i l r. put_other x j (u + v) i (λ q. omega arith) ∙ sym (put_other x j u i (λ q. omega arith))) in
      rw (place_around e (put x j (u + v)) n 0 j (omega arith) (omega arith), place_around e (put x j u) n 0 j (omega arith) (omega arith), o, r, put_same x j (u + v), put_same x j u) (omega arith)

  -- from position 0
  pub place_moved : (e x : ℕ → ℕ) (v : ℕ) → x j ≡ 0 → place e (put x j v) n 0 ≡ place e x n 0 + v * inner e n 0 j
  place_moved e x v z =
      ap (λ v. place e (put x j v) n 0) (sym (zero-add v)) ∙ place_further e x 0 v ∙ ap (λ p. p + v * inner e n 0 j) (place_cong n 0 (λ i l r. refl) (λ i l r. by (eqb i j) (λ t. rw (eqb-true i j t, put_same x j 0) (sym z)) (λ t. put_other x j 0 i (eqb-false i j t))))

-- ---- senders

module _ (g : Grid) where
  -- the label of board b on axis d is a field of its number
  pub label_formula : (b d : ℕ) → b < boards g → d < g.axes → label g b d ≡ b / inner g.parts g.axes 0 d % g.parts d
  unfolding boards label
  label_formula b d h r = position_formula g.axes d r g.parts b h

  -- the sender with label l of a board whose label is 0
  pub sender_formula : (b j l : ℕ) → b < boards g → j < g.axes → label g b j ≡ 0 → with_label g b j l ≡ b + l * inner g.parts g.axes 0 j
  unfolding boards label with_label board_with
  sender_formula b j l h r z = place_moved g.axes j r g.parts (position g.parts g.axes 0 b) l z ∙ ap (λ c. c + l * inner g.parts g.axes 0 j) (place_position g.parts g.axes 0 b h)
