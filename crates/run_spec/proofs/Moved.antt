-- A transfer of the list as a row of cells added to another.
use Prim.Native.Nat.{ℕ, suc, ◌+◌, ◌-◌, ◌*◌, ◌≤◌, ◌<◌}
use mathlib.Core.Path.{◌≡◌, sym, ◌∙◌, refl, ap}
use mathlib.Core.Bool.{◌&&◌}
use mathlib.Core.Logic.{inl, inr}
use mathlib.Core.List.{List, [], ◌∷◌}
use native.Mathlib.Nat.{mul-le-mul, le_refl, suc-mul}
use native.Mathlib.Omega.{arith}
use borrow.Author.Tests.{leb-true, ltb-true, ltb-false}
use lib.Dec.{leb, ltb}
use lib.ListN.{length, get_or}
use lib.IntN.{ℤ, pos, ◌+ℤ◌}
use Rattle.cube_spec.specs.Boxes.{pick}
use Rattle.cube_spec.specs.Tree.{next}
use Rattle.cube_spec.proofs.Sums.{by}
use Rattle.cube_spec.proofs.Naturals.{both}
use Rattle.cube_spec.proofs.Sets.{has_head}
use Rattle.rack_spec.specs.Grids.{Grid, Lawful, boards, label, region_size, share, index}
use Rattle.rack_spec.specs.Steps.{transfer}
use Rattle.rack_spec.proofs.Boards.{sender_lt, sender_same, cells_fit}
use Rattle.rack_spec.proofs.Moving.{lead_each}
use Rattle.rack_spec.proofs.Told.{Known}
use Rattle.cell_spec.specs.Rows.{from, written, added_to, Apart}
use Rattle.cell_spec.specs.Wrapped.{wrapped}
use Rattle.cell_spec.proofs.Writing.{written_table}
use Rattle.run_spec.specs.Memory.{read, after, stepped}
use Rattle.run_spec.proofs.Memory.{region_in}
use Rattle.run_spec.proofs.Gathering.{table_same}
use Rattle.run_spec.proofs.Ranges.{transfer_range}

-- the cells of a region of a share lie within the work area
pub region_room : (g : Grid) (b j n w : ℕ) → b < boards g → j < g.axes → n ≤ region_size g j → boards g * share g ≤ w → index g b j 0 + n ≤ w
unfolding index
region_room g b j n w h r l k =
    let q = region_in g j r in
    let m : suc b * share g ≤ boards g * share g = mul-le-mul h (le_refl (share g)) in
    let s = suc-mul b (share g) in
    omega arith

-- and those of different boards do not meet
shares_apart : (g : Grid) (a b j n : ℕ) → j < g.axes → n ≤ region_size g j → a < b → index g a j 0 + n ≤ index g b j 0
unfolding index
shares_apart g a b j n r l h =
    let q = region_in g j r in
    let m : suc a * share g ≤ b * share g = mul-le-mul h (le_refl (share g)) in
    let s = suc-mul a (share g) in
    omega arith

pub boards_apart : (g : Grid) (a b j n : ℕ) → j < g.axes → n ≤ region_size g j → (a ≡ b → ⊥) → Apart (index g a j 0) (index g b j 0) n
boards_apart g a b j n r l ne =
    by (ltb a b)
    (λ t. inl (shares_apart g a b j n r l (ltb-true a b t)))
    (λ t. inr (shares_apart g b a j n r l (let h = ltb-false a b t in omega (arith, ne))))

added_cell : (w : List ℤ) (dst src i : ℕ) → dst ≤ i → added_to w dst (from w src) (i - dst) ≡ wrapped (read w i +ℤ read w (src + (i - dst)))
unfolding added_to from
added_cell w dst src i h = let e : dst + (i - dst) ≡ i = omega arith in rw e refl

module _ (g : Grid) (ok : Lawful g) {Z : List ℕ} {s r n : ℕ} (k : Known g Z s r n) where
  pub sender_in : s < boards g
  sender_in = rw k.sender (sender_lt g ok r k.j (suc k.l) k.receiver k.label_lt)

  pub other_board : s ≡ r → ⊥
  other_board e =
      let a = sender_same g ok r k.j (suc k.l) k.receiver k.label_lt k.down.0 in
      let z = lead_each g ok (k.j ∷ k.Y) r k.j k.lead_of (has_head k.j k.Y) in
      let q : label g s k.j ≡ label g r k.j = ap (λ b. label g b k.j) e in
      let p : label g s k.j ≡ suc k.l = ap (λ b. label g b k.j) k.sender ∙ a in
      omega arith

  pub count_fits : n ≤ region_size g k.j
  count_fits = rw k.count (cells_fit g ok k.Y s k.j sender_in)

  pub next_place : next Z ≡ suc k.j
  next_place = ap next k.set

  -- as the code finds the regions
  pub found_at : (b place at : ℕ) → place ≡ next Z → at ≡ index g b (place - 1) 0 → at ≡ index g b k.j 0
  found_at b place at e f = let z : place - 1 ≡ k.j = (let q = next_place in omega arith) in f ∙ ap (λ i. index g b i 0) z

  pub rows_fit : (src dst w : ℕ) → src ≡ index g s k.j 0 → dst ≡ index g r k.j 0 → boards g * share g ≤ w → (src + n ≤ w) × (dst + n ≤ w) × Apart src dst n
  rows_fit src dst w e f h =
      rw (e, f) (region_room g s k.j n w sender_in k.down.0 count_fits h, region_room g r k.j n w k.receiver k.down.0 count_fits h, boards_apart g s r k.j n k.down.0 count_fits other_board)

  -- the work area afterwards
  pub moved_cells : (w : List ℤ) → boards g * share g ≤ length w → written w (index g r k.j 0) n (added_to w (index g r k.j 0) (from w (index g s k.j 0))) ≡ stepped g [] (transfer Z s r n) w
  unfolding stepped
  moved_cells w h =
      let dst = index g r k.j 0 in
      let src = index g s k.j 0 in
      written_table w (index g r k.j 0) n (added_to w (index g r k.j 0) (from w (index g s k.j 0))) (region_room g r k.j n (length w) k.receiver k.down.0 count_fits h)
      ∙ table_same (length w) _ _ (λ i l. cell i ∙ sym (ap (λ Y. after g (read []) (transfer Y s r n) (read w) i) k.set ∙ transfer_range g (read []) (read w) k.Y k.j s r n i k.down.0 count_fits))
    where
      cell : (i : ℕ) → pick (leb (index g r k.j 0) i && ltb i (index g r k.j 0 + n)) (added_to w (index g r k.j 0) (from w (index g s k.j 0)) (i - index g r k.j 0)) (get_or w i (pos 0)) ≡ pick (leb (index g r k.j 0) i && ltb i (index g r k.j 0 + n)) (wrapped (read w i +ℤ read w (index g s k.j 0 + (i - index g r k.j 0)))) (read w i)
      cell i =
          by (leb (index g r k.j 0) i && ltb i (index g r k.j 0 + n))
          (λ t.
          let u = leb-true (index g r k.j 0) i (both (leb (index g r k.j 0) i) _ t).0 in
          rw t (added_cell w (index g r k.j 0) (index g s k.j 0) i u))
          (λ t. rw t refl)
