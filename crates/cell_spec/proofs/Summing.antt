-- Laws of a box of sums: sum x * r + i of a box is sum i of its part x, of r sums.
use Prim.Native.Nat.{ℕ, suc, ◌≤◌, ◌<◌, ◌-◌, ◌+◌, ◌*◌}
use mathlib.Core.Path.{◌≡◌, sym, ◌∙◌, ap}
use mathlib.Core.List.{List}
use native.Mathlib.Omega.{arith}
use native.Mathlib.Nat.{add-zero, zero-mul, mul-one, add-mul, one-mul}
use lib.ListN.{length, get_or, set}
use lib.IntN.{ℤ}
use Rattle.cube_spec.specs.Boxes.{sum_z, product}
use Rattle.cell_spec.specs.Wrapped.{wrapped}
use Rattle.cell_spec.specs.Rows.{every, placed, written, combs}
use Rattle.cell_spec.specs.Strides.{box_size, offset, box_place, box_sums, Sums, Same}
use Rattle.cell_spec.proofs.Writing.{row_fits, joined, same}
use Rattle.cell_spec.proofs.Parts.{positive, offset_at, place_at, row_offset, row_place, size_of}

-- n points that stand step apart reach at least one step
pub some_steps : (n step : ℕ) → 0 < n → step ≤ n * step
some_steps n step h = omega (arith, row_fits 0 n step h, zero-mul step)

-- m axes, k of them after the first
module _ (e t : List ℕ) {k m : ℕ} (q : m ≡ suc k) (d : ℕ) where
  offset_part : (x i : ℕ) → i < box_size e k (d + 1) → offset e t m d (x * box_size e k (d + 1) + i) ≡ x * get_or t d 0 + offset e t k (d + 1) i
  offset_part x i h = rw q (offset_at e t k d x i h)

  pub sums_part : {w a at n step dst : ℕ} → Sums w a e t m d at n step dst → (x : ℕ) → x < get_or e d 0 → Sums w a e t k (d + 1) (at + x * get_or t d 0) n step (dst + x * box_size e k (d + 1))
  sums_part b x h =
      let s = size_of e q d in
      let f = row_fits x (get_or e d 0) (box_size e k (d + 1)) h in
      record {
        extents = omega (arith, b.extents);
        strides = omega (arith, b.strides);
        some = (positive (get_or e d 0) (box_size e k (d + 1)) (rw s at b.some)).1;
        any = b.any;
        places = λ i l. omega (arith, b.places (x * box_size e k (d + 1) + i) (omega (arith, s, f)), offset_part x i l);
        writes = omega (arith, b.writes, s, f);
      }

  pub sums_more : (w a : List ℤ) (at n step dst x : ℕ) →
      let r = box_size e k (d + 1) in
      written (written w dst (x * r) (box_sums a e t m d at n step)) (dst + x * r) r (box_sums a e t k (d + 1) (at + x * get_or t d 0) n step) ≡ written w dst ((x + 1) * r) (box_sums a e t m d at n step)
  sums_more w a at n step dst x = rw (add-mul, one-mul) (joined w dst (x * box_size e k (d + 1)) (box_size e k (d + 1)) _ _ (λ i h. cell i h))
    where
      cell : (i : ℕ) → i < box_size e k (d + 1) → box_sums a e t k (d + 1) (at + x * get_or t d 0) n step i ≡ box_sums a e t m d at n step (x * box_size e k (d + 1) + i)
      cell i h = unfold box_sums in rw q (ap (λ (p : ℕ). wrapped (sum_z n (every a p step))) (place_at e t k d at x i h))

  -- where part x begins
  pub sums_reads : {w a at n step dst : ℕ} → Sums w a e t m d at n step dst → (x : ℕ) → x < get_or e d 0 → at + x * get_or t d 0 < a
  sums_reads {w} {a} {at} {n} {step} b x h = let p = sums_part b x h in omega (arith, p.places 0 p.some, some_steps n step b.any)

-- a box of one axis is a row of sums
pub row_sums_fit : {w a : ℕ} {e t : List ℕ} {m d at n step dst : ℕ} → m ≡ 1 → Sums w a e t m d at n step dst
    → (at + get_or e d 0 * get_or t d 0 + n * step < a + get_or t d 0 + step) × (0 < n) × (dst + get_or e d 0 ≤ w)
unfolding box_size product
row_sums_fit {w} {a} {e} {t} {m} {d} {at} {n} {step} {dst} q b =
    let c : Sums w a e t 1 d at n step dst = rw q at b in
    let z : 0 < get_or e d 0 = (positive _ _ c.some).0 in
    let k : get_or e d 0 - 1 < get_or e d 0 * 1 = omega arith in
    let r = c.places (get_or e d 0 - 1) k in
    let f : get_or e d 0 ≡ get_or e d 0 - 1 + 1 = omega arith in
    let g : get_or e d 0 * get_or t d 0 ≡ (get_or e d 0 - 1) * get_or t d 0 + get_or t d 0 = ap (λ (i : ℕ). i * get_or t d 0) f ∙ add-mul (get_or e d 0 - 1) 1 (get_or t d 0) ∙ ap (λ (i : ℕ). (get_or e d 0 - 1) * get_or t d 0 + i) (one-mul (get_or t d 0)) in
    (omega (arith, r, row_offset e t d (get_or e d 0 - 1), g), c.any, omega (arith, c.writes))

pub row_sums_lem : (w a : List ℤ) (e t : List ℕ) (m d at n step dst : ℕ) → m ≡ 1 → written w dst (get_or e d 0) (combs a at (get_or t d 0) n step) ≡ written w dst (box_size e m d) (box_sums a e t m d at n step)
unfolding box_size product combs box_sums
row_sums_lem w a e t m d at n step dst q = rw (q, mul-one) (same w dst (get_or e d 0) _ _ (λ i h. ap (λ (p : ℕ). wrapped (sum_z n (every a p step))) (row_place e t d at i)))

-- a box of no axis is one sum
pub one_sum_fits : {w a : ℕ} {e t : List ℕ} {m d at n step dst : ℕ} → m ≡ 0 → Sums w a e t m d at n step dst → (at + n * step < a + step) × (dst < w)
unfolding box_size product offset
one_sum_fits {w} {a} {e} {t} {m} {d} {at} {n} {step} {dst} q b =
    let c : Sums w a e t 0 d at n step dst = rw q at b in
    (omega (arith, c.places 0 (omega arith)), omega (arith, c.writes))

pub one_sum : (w a : List ℤ) (e t : List ℕ) (m d at n step dst : ℕ) → m ≡ 0 → set w dst (wrapped (sum_z n (every a at step))) ≡ written w dst (box_size e m d) (box_sums a e t m d at n step)
unfolding box_size product offset written placed box_sums box_place
one_sum w a e t m d at n step dst q = rw (q, add-zero) (ap (λ (p : ℕ). set w dst (wrapped (sum_z n (every a p step)))) (sym (add-zero at)))

-- a merged box has the same sums
module _ {e t e' t' : List ℕ} {m d m' d' : ℕ} (s : Same e t m d e' t' m' d') where
  pub sums_same : {w a at n step dst : ℕ} → d' + m' ≤ length e' → d' + m' ≤ length t' → Sums w a e t m d at n step dst → Sums w a e' t' m' d' at n step dst
  sums_same x y b = record {
    extents = x;
    strides = y;
    some = rw s.size_same at b.some;
    any = b.any;
    places = λ q h. (let k : q < box_size e m d = rw s.size_same h in rw (s.offset_same q k) at (b.places q k));
    writes = rw s.size_same at b.writes;
  }

  pub sums_written : (w a : List ℤ) (at n step dst : ℕ) → written w dst (box_size e m d) (box_sums a e t m d at n step) ≡ written w dst (box_size e' m' d') (box_sums a e' t' m' d' at n step)
  unfolding box_sums box_place
  sums_written w a at n step dst = same w dst (box_size e m d) _ _ (λ q h. ap (λ (p : ℕ). wrapped (sum_z n (every a (at + p) step))) (s.offset_same q h)) ∙ ap (λ (r : ℕ). written w dst r (λ q. wrapped (sum_z n (every a (at + offset e' t' m' d' q) step)))) s.size_same
