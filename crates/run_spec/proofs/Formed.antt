-- A child's cells as the loops form them.
use Prim.Native.Nat.{ℕ, suc, ◌+◌, ◌-◌, ◌*◌, ◌/◌, ◌%◌, ◌≤◌, ◌<◌}
use mathlib.Core.Path.{◌≡◌, sym, ◌∙◌, refl, ap, ap₂}
use mathlib.Core.Bool.{false, ◌&&◌}
use mathlib.Core.List.{List, [], ◌∷◌}
use native.Mathlib.Nat.{zero-add, one-mul, sub-zero, le_refl}
use native.Mathlib.Omega.{arith}
use borrow.Author.Tests.{leb-true, ltb-true}
use lib.Dec.{leb, ltb}
use lib.ListN.{length, get_or}
use lib.IntN.{ℤ, pos}
use Rattle.cube_spec.specs.Boxes.{pick, sum_z, product, table}
use Rattle.cube_spec.specs.Limits.{point_limit}
use Rattle.cube_spec.specs.Tree as Tree
use Rattle.cube_spec.specs.Tree.{has, next}
use Rattle.cube_spec.proofs.Sums.{by, sum_cong}
use Rattle.cube_spec.proofs.Naturals.{both}
use Rattle.cube_spec.proofs.Boxing.{product_cong}
use Rattle.cube_spec.proofs.Products.{product_append, product_next}
use Rattle.cube_spec.proofs.Sets.{Down, down_out, has_head, kept_has, kept_out, kept_other}
use Rattle.plan_spec.specs.declared.types.Plan.{Plan}
use Rattle.plan_spec.specs.Accepted.{Accepted}
use Rattle.plan_spec.proofs.PricingLaws.{few_axes}
use Rattle.rack_spec.specs.Grids.{Grid, Lawful, summed_by, summed, boards, board_with, extent, box, cells, region_start, share, index}
use Rattle.rack_spec.specs.Finding.{plan_grid, summed_in}
use Rattle.rack_spec.proofs.Boards.{start_next, starts_rise, cells_fit}
use Rattle.rack_spec.proofs.Tallied.{axes_same}
use Rattle.rack_spec.proofs.Planned.{inner_from, set_down, own_board, first_cell}
use Rattle.cell_spec.specs.Rows.{from, written, axis_sums}
use Rattle.cell_spec.specs.Wrapped.{wrapped}
use Rattle.cell_spec.proofs.Writing.{written_table}
use Rattle.run_spec.specs.Memory.{read, formed}
use Rattle.run_spec.specs.Expansions.{one_child, Forms, Own, Regioned}
use Rattle.run_spec.proofs.Gathering.{table_same}
use Rattle.run_spec.proofs.Ranges.{child_range, formed_loop}
use Rattle.run_spec.proofs.Refusing.{area_boards}
use Rattle.run_spec.proofs.Moved.{region_room}

-- a box cut around axis j
box_around : (e : ℕ → ℕ) (n j : ℕ) → j < n → product e n 0 ≡ product e j 0 * (e j * product e (n - (j + 1)) (j + 1))
box_around e n j h =
    let z : n ≡ j + (n - j) = omega arith in
    ap (λ m. product e m 0) z ∙ product_append e j (n - j) 0 ∙ ap (λ x. product e j 0 * x) (ap (product e (n - j)) (zero-add j) ∙ product_next e n j h)

module _ (g : Grid) (ok : Lawful g) (Y : List ℕ) (b j : ℕ) (on : b < boards g) (h : j < g.axes) (out : has Y j ≡ false) where
  abbrev pub before : ℕ
  before = product (box g Y b) j 0

  abbrev pub behind : ℕ
  behind = product (box g Y b) (g.axes - (j + 1)) (j + 1)

  own_axis : box g Y b j ≡ extent g b j
  unfolding box
  own_axis = kept_out (extent g b) Y j out

  other_axis : (i : ℕ) → (i ≡ j → ⊥) → box g (j ∷ Y) b i ≡ box g Y b i
  unfolding box
  other_axis i ne = kept_other (extent g b) j i Y ne

  one_cell : box g (j ∷ Y) b j ≡ 1
  unfolding box
  one_cell = kept_has (extent g b) (j ∷ Y) j (has_head j Y)

  pub parent_count : before * (extent g b j * behind) ≡ cells g Y b
  unfolding cells
  parent_count = sym (box_around (box g Y b) g.axes j h ∙ ap (λ x. before * (x * behind)) own_axis)

  pub child_count : before * behind ≡ cells g (j ∷ Y) b
  unfolding cells
  child_count =
      sym (box_around (box g (j ∷ Y) b) g.axes j h
      ∙ ap₂ (λ x y. x * y) (product_cong j 0 (λ i l r. other_axis i (λ q. omega arith)))
      (ap₂ (λ x y. x * y) one_cell (product_cong (g.axes - (j + 1)) (j + 1) (λ i l r. other_axis i (λ q. omega arith))) ∙ one-mul behind))

-- ---- a choice in the work area

-- the sums read cells of region k
axis_read : (w : List ℤ) (g : Grid) (b k e r c : ℕ) → axis_sums (from w (index g b k 0)) e r c ≡ wrapped (sum_z e (λ m. read w (index g b k ((c / r * e + m) * r + c % r))))
unfolding axis_sums from
axis_read w g b k e r c = ap wrapped (sum_cong e (λ m l. ap (λ i. get_or w i (pos 0)) (spot ((c / r * e + m) * r + c % r))))
  where
    spot : (q : ℕ) → index g b k 0 + q ≡ index g b k q
    spot q = unfold index in omega arith

module _ (g : Grid) (ok : Lawful g) (k : ℕ) (Z : List ℕ) (b j : ℕ) (on : b < boards g) (d : Down (k ∷ Z) g.axes) (l : k < j) (h : j < g.axes) where
  pub out : has (k ∷ Z) j ≡ false
  out = down_out (k ∷ Z) j j (l, d.1) (le_refl j)

  -- the parent's region ends before the child's begins
  pub parent_before : index g b k 0 + cells g (k ∷ Z) b ≤ index g b j 0
  unfolding index
  parent_before =
      let a = cells_fit g ok Z b k on in
      let s = start_next g k in
      let r = starts_rise g (suc k) j l in
      omega arith

  pub child_room : (w : ℕ) → boards g * share g ≤ w → index g b j 0 + cells g (j ∷ k ∷ Z) b ≤ w
  child_room w m = region_room g b j (cells g (j ∷ k ∷ Z) b) w on h (cells_fit g ok (k ∷ Z) b j on) m

  pub formed_cells : (w : List ℤ) → boards g * share g ≤ length w → written w (index g b j 0) (cells g (j ∷ k ∷ Z) b) (axis_sums (from w (index g b k 0)) (extent g b j) (behind g ok (k ∷ Z) b j on h out)) ≡ table (length w) (one_child g (read []) (k ∷ Z) b j (read w))
  formed_cells w m =
      written_table w (index g b j 0) (cells g (j ∷ k ∷ Z) b) _ (child_room (length w) m)
      ∙ table_same (length w) _ _ (λ i u. cell i ∙ sym (child_range g (read []) (read w) (k ∷ Z) b j i h (cells_fit g ok (k ∷ Z) b j on)))
    where
      one : (c : ℕ) → c < cells g (j ∷ k ∷ Z) b → axis_sums (from w (index g b k 0)) (extent g b j) (behind g ok (k ∷ Z) b j on h out) c ≡ formed g (read []) (read w) (k ∷ Z) b j c
      one c u = sums c ∙ sym (formed_loop g (read []) (read w) ok k Z b j c out h u ∙ ap (λ R. wrapped (sum_z (extent g b j) (λ m. read w (index g b k ((c / R * extent g b j + m) * R + c % R))))) (inner_from (box g (k ∷ Z) b) g.axes j))
        where
          sums : (c : ℕ) → axis_sums (from w (index g b k 0)) (extent g b j) (behind g ok (k ∷ Z) b j on h out) c ≡ wrapped (sum_z (extent g b j) (λ m. read w (index g b k ((c / behind g ok (k ∷ Z) b j on h out * extent g b j + m) * behind g ok (k ∷ Z) b j on h out + c % behind g ok (k ∷ Z) b j on h out))))
          sums c = axis_read w g b k (extent g b j) (behind g ok (k ∷ Z) b j on h out) c

      cell : (i : ℕ) → pick (leb (index g b j 0) i && ltb i (index g b j 0 + cells g (j ∷ k ∷ Z) b)) (axis_sums (from w (index g b k 0)) (extent g b j) (behind g ok (k ∷ Z) b j on h out) (i - index g b j 0)) (get_or w i (pos 0)) ≡ pick (leb (index g b j 0) i && ltb i (index g b j 0 + cells g (j ∷ k ∷ Z) b)) (formed g (read []) (read w) (k ∷ Z) b j (i - index g b j 0)) (read w i)
      cell i =
          by (leb (index g b j 0) i && ltb i (index g b j 0 + cells g (j ∷ k ∷ Z) b))
          (λ t.
          let p = both (leb (index g b j 0) i) _ t in
          let u = leb-true (index g b j 0) i p.0 in
          let v = ltb-true i (index g b j 0 + cells g (j ∷ k ∷ Z) b) p.1 in
          rw t (one (i - index g b j 0) (omega arith)))
          (λ t. rw t refl)

-- for any choice but the full one
module _ (g : Grid) (ok : Lawful g) (b j : ℕ) (on : b < boards g) (h : j < g.axes) where
  pub sums_fit : (Y : List ℕ) → 0 < next Y → Down Y g.axes → next Y ≤ j → (src dst outer e r w : ℕ) → src ≡ index g b (next Y - 1) 0 → dst ≡ index g b j 0 → outer ≡ product (box g Y b) j 0 → e ≡ extent g b j → r ≡ product (box g Y b) (g.axes - (j + 1)) (j + 1) → boards g * share g ≤ w → (src + outer * (e * r) ≤ dst) × (dst + outer * r ≤ w)
  sums_fit [] z d l src dst outer e r w p q s t u m = absurd (omega arith)
  sums_fit (k ∷ Z) z d l src dst outer e r w p q s t u m =
      let y : suc k - 1 ≡ k = omega arith in
      let o = out g ok k Z b j on d l h in
      rw (p, q, s, t, u, y, parent_count g ok (k ∷ Z) b j on h o, child_count g ok (k ∷ Z) b j on h o) (parent_before g ok k Z b j on d l h, child_room g ok k Z b j on d l h w m)

  pub sums_formed : (Y : List ℕ) → 0 < next Y → Down Y g.axes → next Y ≤ j → (src dst outer e r : ℕ) (w : List ℤ) → src ≡ index g b (next Y - 1) 0 → dst ≡ index g b j 0 → outer ≡ product (box g Y b) j 0 → e ≡ extent g b j → r ≡ product (box g Y b) (g.axes - (j + 1)) (j + 1) → boards g * share g ≤ length w → written w dst (outer * r) (axis_sums (from w src) e r) ≡ table (length w) (one_child g (read []) Y b j (read w))
  sums_formed [] z d l src dst outer e r w p q s t u m = absurd (omega arith)
  sums_formed (k ∷ Z) z d l src dst outer e r w p q s t u m =
      let y : suc k - 1 ≡ k = omega arith in
      let o = out g ok k Z b j on d l h in
      rw (p, q, s, t, u, y, child_count g ok (k ∷ Z) b j on h o) (formed_cells g ok k Z b j on d l h w m)

-- ---- of a machine's plan

module _ {q : Plan} (ok : Accepted q) {mask b j n : ℕ} (f : Forms q mask b j n) where
  pub down_of : Down (summed_in q mask) (plan_grid q).axes
  unfolding summed
  down_of = set_down (summed_by (plan_grid q) mask) (plan_grid q).axes

  pub place_in : j < (plan_grid q).axes
  place_in = let e = axes_same q ok in omega (arith, f.inside)

  pub room_in : boards (plan_grid q) * share (plan_grid q) ≤ n
  room_in = rw (area_boards q ok) at f.room

  module _ (labels : List ℕ) (own : Own q b labels) where
    pub outer_is : (r : ℕ) → r ≡ product (box (plan_grid q) (summed_in q mask) (board_with (plan_grid q) (λ d. get_or labels d 0))) (j - 0) 0 → r ≡ product (box (plan_grid q) (summed_in q mask) b) j 0
    outer_is r e = e ∙ ap₂ (λ b m. product (box (plan_grid q) (summed_in q mask) b) m 0) (own_board q ok b f.board labels own) (sub-zero j)

    pub inner_is : (r : ℕ) → r ≡ product (box (plan_grid q) (summed_in q mask) (board_with (plan_grid q) (λ d. get_or labels d 0))) (q.axes - (j + 1)) (j + 1) → r ≡ product (box (plan_grid q) (summed_in q mask) b) ((plan_grid q).axes - (j + 1)) (j + 1)
    inner_is r e = e ∙ ap₂ (λ b n. product (box (plan_grid q) (summed_in q mask) b) (n - (j + 1)) (j + 1)) (own_board q ok b f.board labels own) (sym (axes_same q ok))

    pub extent_is : (r : ℕ) → r ≡ (plan_grid q).start j (suc (get_or labels j 0)) - (plan_grid q).start j (get_or labels j 0) → r ≡ extent (plan_grid q) b j
    unfolding extent
    extent_is r e = e ∙ ap (λ l. (plan_grid q).start j (suc l) - (plan_grid q).start j l) (own j f.inside)

-- regions by what is kept of them
module _ {q : Plan} (ok : Accepted q) {A : ℕ} {starts : List ℕ} (r : Regioned q A starts) (i : ℕ) (h : i < q.axes) where
  pub region_small : (A ≤ point_limit * 8) × (i < 8) × (get_or starts i 0 ≤ point_limit * 8)
  region_small =
      let x = axes_same q ok in
      let e = r.each i h in
      let w = r.whole in
      let f = few_axes ok in
      let s : share (plan_grid q) ≡ region_start (plan_grid q) (plan_grid q).axes = (unfold share region_start Tree.share_size in refl) in
      let u = starts_rise (plan_grid q) i (plan_grid q).axes (omega arith) in
      let m = r.most in
      (m, omega arith, omega arith)

  pub region_is : (b n : ℕ) → n ≡ b * A + get_or starts i 0 → n ≡ index (plan_grid q) b i 0
  region_is b n e = e ∙ ap₂ (λ a s. b * a + s) r.whole (r.each i h) ∙ first_cell (plan_grid q) b i
