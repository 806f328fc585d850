-- What a copy to a box leaves in the result, cell by cell.
use Prim.Native.Nat.{ℕ, ◌≤◌, ◌<◌, ◌+◌}
use mathlib.Core.Path.{◌≡◌, ◌∙◌, refl, sym, ap}
use mathlib.Core.List.{List}
use lib.ListN.{length, get_or}
use lib.IntN.{ℤ, pos}
use Rattle.cube_spec.specs.Boxes.{position}
use Rattle.cube_spec.proofs.Boxing.{place_cong, place_position}
use Rattle.cell_spec.specs.Rows.{from, placed}
use Rattle.cell_spec.specs.Strides.{box_size, offset, box_place, InArray}
use Rattle.cell_spec.proofs.Placing.{length_placed, unplaced, at_place}

module _ (e t : List ℕ) (m d at : ℕ) where
  -- no two cells of the box stand at one place
  abbrev pub Distinct : Type 0
  Distinct = (q q' : ℕ) → q < box_size e m d → q' < box_size e m d → at + offset e t m d q ≡ at + offset e t m d q' → q ≡ q'

  -- so it is where the place tells the positions
  pub distinct : (back : ℕ → ℕ → ℕ) → ((q i : ℕ) → q < box_size e m d → d ≤ i → i < d + m → back (at + offset e t m d q) i ≡ position (λ i. get_or e i 0) m d q i) → Distinct
  unfolding box_size
  distinct back told q q' h h' same =
      sym (place_position (λ i. get_or e i 0) m d q h)
      ∙ place_cong m d (λ i l r. refl) (λ i l r. sym (told q i h l r) ∙ ap (λ (p : ℕ). back p i) same ∙ told q' i h' l r)
      ∙ place_position (λ i. get_or e i 0) m d q' h'

  module _ (old work : List ℤ) (src : ℕ) where
    -- the result after put_box
    abbrev pub after : List ℤ
    after = placed old (box_size e m d) (box_place e t m d at) (from work src)

    pub put_length : length after ≡ length old
    put_length = length_placed old _ _ _

    -- the cells of the box
    pub put_at : Distinct → InArray (length old) e t m d at → (q : ℕ) → q < box_size e m d → get_or after (at + offset e t m d q) (pos 0) ≡ get_or work (src + q) (pos 0)
    unfolding box_place from
    put_at one b q h = at_place old (box_size e m d) (box_place e t m d at) (from work src) one q h (b.places q h)

    -- and all others
    pub put_else : (i : ℕ) → ((q : ℕ) → q < box_size e m d → i ≡ at + offset e t m d q → ⊥) → get_or after i (pos 0) ≡ get_or old i (pos 0)
    unfolding box_place
    put_else i h = unplaced old (box_size e m d) (box_place e t m d at) (from work src) i h
