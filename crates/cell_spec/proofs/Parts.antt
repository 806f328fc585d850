-- Laws of boxes: cell x * r + i of a box is cell i of its part x, of r cells.
use Prim.Native.Nat.{ℕ, zero, suc, ◌≤◌, ◌<◌, ◌-◌, ◌+◌, ◌*◌, ◌/◌}
use mathlib.Core.Path.{◌≡◌, ◌∙◌, refl, ap, ap₂}
use mathlib.Core.Logic.{inr}
use mathlib.Core.List.{List}
use native.Mathlib.Omega.{arith}
use native.Mathlib.Nat.{add-zero, mul-zero, zero-mul, mul-one, add-mul, one-mul}
use lib.ListN.{get_or, set}
use lib.IntN.{ℤ, pos, ◌+ℤ◌}
use Rattle.cube_spec.specs.Boxes.{product}
use Rattle.cube_spec.proofs.Boxing.{row_of, rest_of}
use Rattle.cell_spec.specs.Wrapped.{wrapped}
use Rattle.cell_spec.specs.Rows.{from, every, placed, written, added_to}
use Rattle.cell_spec.specs.Strides.{box_size, offset, box_place, box_cell, InArray, Boxed}
use Rattle.cell_spec.proofs.Placing.{placed_cong, placed_joined}
use Rattle.cell_spec.proofs.Writing.{row_fits, from_from, outside, joined, same}

pub positive : (a b : ℕ) → 0 < a * b → (0 < a) × (0 < b)
positive zero b h = absurd (omega (arith, zero-mul b))
positive (suc a) zero h = absurd (omega (arith, mul-zero (suc a)))
positive (suc a) (suc b) h = (omega arith, omega arith)

module _ (e t : List ℕ) (m d : ℕ) where
  pub offset_at : (x i : ℕ) → i < box_size e m (d + 1) → offset e t (suc m) d (x * box_size e m (d + 1) + i) ≡ x * get_or t d 0 + offset e t m (d + 1) i
  unfolding offset
  offset_at x i h = rw (row_of x h, rest_of x h)

  pub place_at : (at x i : ℕ) → i < box_size e m (d + 1) → box_place e t m (d + 1) (at + x * get_or t d 0) i ≡ box_place e t (suc m) d at (x * box_size e m (d + 1) + i)
  unfolding box_place
  place_at at x i h =
      let q : at + x * get_or t d 0 + offset e t m (d + 1) i ≡ at + (x * get_or t d 0 + offset e t m (d + 1) i) = omega arith in
      rw (offset_at x i h, q)

  pub box_at : (a : List ℤ) (at x i : ℕ) → i < box_size e m (d + 1) → box_cell a e t m (d + 1) (at + x * get_or t d 0) i ≡ box_cell a e t (suc m) d at (x * box_size e m (d + 1) + i)
  unfolding box_cell
  box_at a at x i h = rw (place_at at x i h)

  -- part x of the box lies within too
  pub deeper : {a at : ℕ} → InArray a e t (suc m) d at → (x : ℕ) → x < get_or e d 0 → InArray a e t m (d + 1) (at + x * get_or t d 0)
  unfolding box_size product
  deeper {a} {at} b x h =
      let f = row_fits x (get_or e d 0) (box_size e m (d + 1)) h in
      record {
        extents = omega (arith, b.extents);
        strides = omega (arith, b.strides);
        some = (positive _ _ b.some).1;
        places = λ q k. omega (arith, b.places (x * box_size e m (d + 1) + q) (omega arith), offset_at x q k);
      }

-- a row of a box of one axis
pub row_offset : (e t : List ℕ) (d q : ℕ) → offset e t 1 d q ≡ q * get_or t d 0
unfolding offset box_size product
row_offset e t d q =
    let h : q / 1 ≡ q = omega arith in
    rw (h, add-zero)

pub row_place : (e t : List ℕ) (d at q : ℕ) → at + q * get_or t d 0 ≡ box_place e t 1 d at q
unfolding box_place
row_place e t d at q = rw row_offset

pub row_cell : (a : List ℤ) (e t : List ℕ) (d at q : ℕ) → every a at (get_or t d 0) q ≡ box_cell a e t 1 d at q
unfolding every box_cell
row_cell a e t d at q = rw (row_place e t d at q)

pub row_reads : (a : ℕ) (e t : List ℕ) (d at : ℕ) → InArray a e t 1 d at → at + get_or e d 0 * get_or t d 0 < a + get_or t d 0
unfolding box_size product
row_reads a e t d at b =
    let n : 0 < get_or e d 0 = (positive _ _ b.some).0 in
    let k : get_or e d 0 - 1 < get_or e d 0 * 1 = omega arith in
    let r = b.places (get_or e d 0 - 1) k in
    let f : get_or e d 0 ≡ get_or e d 0 - 1 + 1 = omega arith in
    rw f (omega (arith, r, row_offset e t d (get_or e d 0 - 1), add-mul (get_or e d 0 - 1) 1 (get_or t d 0), one-mul (get_or t d 0)))

-- one part more of a box that is added
pub part_more : (w a : List ℤ) (e t : List ℕ) (m d at dst x : ℕ) →
    let r = box_size e m (d + 1) in
    let p = box_cell a e t (suc m) d at in
    let v = written w dst (x * r) (added_to w dst p) in
    written v (dst + x * r) r (added_to v (dst + x * r) (box_cell a e t m (d + 1) (at + x * get_or t d 0))) ≡ written w dst ((x + 1) * r) (added_to w dst p)
unfolding added_to from
part_more w a e t m d at dst x = rw (add-mul, one-mul) (joined w dst (x * box_size e m (d + 1)) (box_size e m (d + 1)) _ _ (λ i h. ap₂ (λ (a b : ℤ). wrapped (a +ℤ b)) (cell i) (box_at e t m d a at x i h)))
  where
    cell : (i : ℕ) → get_or (written w dst (x * box_size e m (d + 1)) (added_to w dst (box_cell a e t (suc m) d at))) (dst + x * box_size e m (d + 1) + i) (pos 0) ≡ get_or w (dst + (x * box_size e m (d + 1) + i)) (pos 0)
    cell i =
        let q : dst + x * box_size e m (d + 1) + i ≡ dst + (x * box_size e m (d + 1) + i) = omega arith in
        rw q (outside w dst _ _ _ (inr (omega arith)))

-- one part more of a box that is copied to
pub part_copied : (w a : List ℤ) (e t : List ℕ) (m d at src x : ℕ) →
    let r = box_size e m (d + 1) in
    let g = box_place e t (suc m) d at in
    placed (placed w (x * r) g (from a src)) r (box_place e t m (d + 1) (at + x * get_or t d 0)) (from a (src + x * r)) ≡ placed w ((x + 1) * r) g (from a src)
part_copied w a e t m d at src x =
    rw (add-mul, one-mul) (placed_joined w (x * box_size e m (d + 1)) (box_size e m (d + 1)) _ _ _ _ (λ i h. place_at e t m d at x i h) (λ i h. from_from a src (x * box_size e m (d + 1)) i))

pub size_of : (e : List ℕ) {k m : ℕ} → m ≡ suc k → (d : ℕ) → box_size e m d ≡ get_or e d 0 * box_size e k (d + 1)
unfolding box_size product
size_of e q d = rw q

-- the same laws for m axes, k of them after the first
module _ (e t : List ℕ) {k m : ℕ} (q : m ≡ suc k) (d : ℕ) where
  pub part_within : {a at : ℕ} → InArray a e t m d at → (x : ℕ) → x < get_or e d 0 → InArray a e t k (d + 1) (at + x * get_or t d 0)
  part_within b x h = deeper e t k d (rw q at b) x h

  pub part_fits : {w a at dst : ℕ} → Boxed w a e t m d at dst → (x : ℕ) → x < get_or e d 0 → Boxed w a e t k (d + 1) (at + x * get_or t d 0) (dst + x * box_size e k (d + 1))
  part_fits b x h = record { within = part_within b.within x h; fits = omega (arith, b.fits, size_of e q d, row_fits x (get_or e d 0) (box_size e k (d + 1)) h) }

  pub part_cell : (a : List ℤ) (at x i : ℕ) → i < box_size e k (d + 1) → box_cell a e t k (d + 1) (at + x * get_or t d 0) i ≡ box_cell a e t m d at (x * box_size e k (d + 1) + i)
  part_cell a at x i h = rw q (box_at e t k d a at x i h)

  pub part_added : (w a : List ℤ) (at dst x : ℕ) →
      let r = box_size e k (d + 1) in
      let p = box_cell a e t m d at in
      let v = written w dst (x * r) (added_to w dst p) in
      written v (dst + x * r) r (added_to v (dst + x * r) (box_cell a e t k (d + 1) (at + x * get_or t d 0))) ≡ written w dst ((x + 1) * r) (added_to w dst p)
  part_added w a at dst x = rw q (part_more w a e t k d at dst x)

  pub part_put : (w a : List ℤ) (at src x : ℕ) →
      let r = box_size e k (d + 1) in
      let g = box_place e t m d at in
      placed (placed w (x * r) g (from a src)) r (box_place e t k (d + 1) (at + x * get_or t d 0)) (from a (src + x * r)) ≡ placed w ((x + 1) * r) g (from a src)
  part_put w a at src x = rw q (part_copied w a e t k d at src x)

  -- where part x begins
  pub part_reads : {a at : ℕ} → InArray a e t m d at → (x : ℕ) → x < get_or e d 0 → at + x * get_or t d 0 < a
  part_reads b x h = let p = part_within b x h in omega (arith, p.places 0 p.some)

-- a box of no axes is one cell
pub cell_fits : {w a : ℕ} {e t : List ℕ} {m d at dst : ℕ} → m ≡ 0 → Boxed w a e t m d at dst → (at < a) × (dst < w)
unfolding box_size product offset
cell_fits {w} {a} {e} {t} {m} {d} {at} {dst} q b =
    let c : Boxed w a e t 0 d at dst = rw q at b in
    (omega (arith, c.within.places 0 c.within.some), omega (arith, c.fits))

pub cell_size : (e : List ℕ) (m d : ℕ) → m ≡ 0 → 1 ≡ box_size e m d
unfolding box_size product
cell_size e m d q = rw q

pub cell_put : (w a : List ℤ) (e t : List ℕ) (m d at src : ℕ) → m ≡ 0 → set w at (get_or a src (pos 0)) ≡ placed w (box_size e m d) (box_place e t m d at) (from a src)
unfolding box_size product box_place offset placed from
cell_put w a e t m d at src q = rw (q, add-zero at, add-zero src)

-- a box of one axis is a row
pub row_fits_box : {w a : ℕ} {e t : List ℕ} {m d at dst : ℕ} → m ≡ 1 → Boxed w a e t m d at dst → (at + get_or e d 0 * get_or t d 0 < a + get_or t d 0) × (dst + get_or e d 0 ≤ w)
unfolding box_size product
row_fits_box {w} {a} {e} {t} {m} {d} {at} {dst} q b =
    let c : Boxed w a e t 1 d at dst = rw q at b in
    (row_reads a e t d at c.within, omega (arith, c.fits))

pub row_size : (e : List ℕ) (m d : ℕ) → m ≡ 1 → get_or e d 0 ≡ box_size e m d
unfolding box_size product
row_size e m d q = rw (q, mul-one)

pub row_added : (w a : List ℤ) (e t : List ℕ) (m d at dst : ℕ) → m ≡ 1
    → written w dst (get_or e d 0) (added_to w dst (every a at (get_or t d 0))) ≡ written w dst (box_size e m d) (added_to w dst (box_cell a e t m d at))
unfolding added_to
row_added w a e t m d at dst q =
    rw (← row_size e m d q, q) (same w dst (get_or e d 0) _ _ (λ i h. ap (λ (x : ℤ). wrapped (from w dst i +ℤ x)) (row_cell a e t d at i)))

pub row_put : (w : List ℤ) (e t : List ℕ) (m d at : ℕ) (f : ℕ → ℤ) → m ≡ 1 → placed w (get_or e d 0) (λ i. at + i * get_or t d 0) f ≡ placed w (box_size e m d) (box_place e t m d at) f
row_put w e t m d at f q = rw (← row_size e m d q, q) (placed_cong w (get_or e d 0) (λ i h. row_place e t d at i) (λ i h. refl))

-- one row more of a box of two axes
pub plane_more : (w a : List ℤ) (e t : List ℕ) (d at dst x : ℕ) →
    let f = get_or e (d + 1) 0 in
    let p = box_cell a e t 2 d at in
    let v = written w dst (x * f) (added_to w dst p) in
    written v (dst + x * f) f (added_to v (dst + x * f) (every a (at + x * get_or t d 0) (get_or t (d + 1) 0))) ≡ written w dst ((x + 1) * f) (added_to w dst p)
plane_more w a e t d at dst x =
    let r = row_size e 1 (d + 1) refl in
    row_added _ a e t 1 (d + 1) (at + x * get_or t d 0) (dst + x * get_or e (d + 1) 0) refl
    ∙ rw r (part_more w a e t 1 d at dst x)

pub plane_put : (w a : List ℤ) (e t : List ℕ) (d at src x : ℕ) →
    let f = get_or e (d + 1) 0 in
    let g = box_place e t 2 d at in
    placed (placed w (x * f) g (from a src)) f (λ i. at + x * get_or t d 0 + i * get_or t (d + 1) 0) (from a (src + x * f)) ≡ placed w ((x + 1) * f) g (from a src)
plane_put w a e t d at src x =
    let r = row_size e 1 (d + 1) refl in
    row_put _ e t 1 (d + 1) (at + x * get_or t d 0) _ refl
    ∙ rw r (part_copied w a e t 1 d at src x)

module _ {w a : ℕ} {e t : List ℕ} {d at dst : ℕ} (b : Boxed w a e t 2 d at dst) where
  pub plane_size : box_size e 2 d ≡ get_or e d 0 * get_or e (d + 1) 0
  unfolding box_size product
  plane_size = rw mul-one

  -- row x lies within
  pub plane_fits : (x : ℕ) → x < get_or e d 0
      → (at + x * get_or t d 0 + get_or e (d + 1) 0 * get_or t (d + 1) 0 < a + get_or t (d + 1) 0) × (dst + x * get_or e (d + 1) 0 + get_or e (d + 1) 0 ≤ w)
  plane_fits x h =
      let q : 2 ≡ suc 1 = refl in
      let c : Boxed w a e t 1 (d + 1) (at + x * get_or t d 0) (dst + x * get_or e (d + 1) 0) = rw (row_size e 1 (d + 1) refl) (part_fits e t q d b x h) in
      row_fits_box refl c

  pub plane_reads : (x : ℕ) → x < get_or e d 0 → at + x * get_or t d 0 < a
  plane_reads x h = let q : 2 ≡ suc 1 = refl in part_reads e t q d b.within x h
