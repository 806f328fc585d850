-- Two neighbouring axes that the array holds as one may be merged, and an axis of extent 1 left out: the box has the same cells, in the same order, at the same places.
-- With it a caller hands the loops fewer and longer axes.
use Prim.Native.Nat.{ℕ, zero, suc, ◌≤◌, ◌<◌, ◌+◌, ◌-◌, ◌*◌, ◌/◌, ◌%◌}
use mathlib.Core.Path.{◌≡◌, sym, ◌∙◌, refl, ap}
use mathlib.Core.List.{List}
use native.Mathlib.Omega.{arith}
use native.Mathlib.Nat.{div-add-mod', mul-add-div_right, mul-add-mod_self_right, add-mul, mul_assoc, one-mul, zero-mul, zero-add, mul-le-mul, mul-le-mul_left, div-eq_of_lt, mod-eq_of_lt, mod-lt}
use borrow.Author.Tests.{eqb-true, eqb-false}
use lib.Dec.{eqb}
use lib.ListN.{length, get_or, set, length-set}
use lib.Seq.{get_or-set_same, get_or-set_other}
use lib.IntN.{ℤ}
use Rattle.cube_spec.specs.Boxes.{product}
use Rattle.cube_spec.specs.Limits.{point_limit}
use Rattle.cube_spec.proofs.Sums.{by}
use Rattle.cube_spec.proofs.Boxing.{right_pos}
use Rattle.cube_spec.proofs.Products.{product_append}
use Rattle.cell_spec.specs.Rows.{placed}
use Rattle.cell_spec.specs.Strides.{box_size, offset, box_place, box_cell, InArray, Boxed, Same, Mergeable, Merged, FirstAxis, FirstMerged}
use Rattle.cell_spec.proofs.Placing.{placed_cong}
use Rattle.cell_spec.proofs.Parts.{positive}

pub empty : (e t e' t' : List ℕ) (d d' : ℕ) → Same e t 0 d e' t' 0 d'
unfolding box_size product offset
empty e t e' t' d d' = record { size_same = refl; offset_same = λ q h. refl }

-- one after the other
pub same_then : {e t e' t' e'' t'' : List ℕ} {m m' m'' d d' d'' : ℕ} → Same e t m d e' t' m' d' → Same e' t' m' d' e'' t'' m'' d'' → Same e t m d e'' t'' m'' d''
same_then a b = record { size_same = a.size_same ∙ b.size_same; offset_same = λ q h. a.offset_same q h ∙ b.offset_same q (rw a.size_same at h) }

-- a place counted by two axes and by the two as one
as_one : (q k u v r : ℕ) (f : ℕ → ℕ) → 0 < r → v ≡ k * u → q / (k * r) * v + (q % (k * r) / r * u + f (q % (k * r) % r)) ≡ q / r * u + f (q % r)
as_one q k u v r f z g =
    let a = q / (k * r) in
    let b = q % (k * r) in
    let c : q ≡ a * k * r + b = sym (div-add-mod' q (k * r)) ∙ rw mul_assoc in
    let x : q / r ≡ a * k + b / r = ap (λ (i : ℕ). i / r) c ∙ mul-add-div_right z (a * k) b in
    let y : q % r ≡ b % r = ap (λ (i : ℕ). i % r) c ∙ mul-add-mod_self_right (a * k) r b in
    rw (x, y, g) (simp (add-mul, mul_assoc) (omega arith))

module _ (e t e' t' : List ℕ) (m m' d d' : ℕ) where
  -- one more axis before both
  pub same_axis : Same e t m (d + 1) e' t' m' (d' + 1) → get_or e d 0 ≡ get_or e' d' 0 → get_or t d 0 ≡ get_or t' d' 0 → Same e t (suc m) d e' t' (suc m') d'
  unfolding box_size product offset
  same_axis s x y =
      record {
        size_same = rw (x, s.size_same);
        offset_same = λ q h. rw (y, s.offset_same (q % box_size e m (d + 1)) (mod-lt q (right_pos (get_or e d 0) (box_size e m (d + 1)) h)), s.size_same);
      }

  -- two axes before the one, and the merged axis before the other
  pub merged : Same e t m (d + 1 + 1) e' t' m' (d' + 1) → get_or e d 0 * get_or e (d + 1) 0 ≡ get_or e' d' 0
      → get_or t (d + 1) 0 ≡ get_or t' d' 0 → get_or t d 0 ≡ get_or e (d + 1) 0 * get_or t (d + 1) 0 → Same e t (suc (suc m)) d e' t' (suc m') d'
  unfolding box_size product offset
  merged s x y g =
      record {
        size_same = rw (← x, ← s.size_same, mul_assoc);
        offset_same =
            λ q h.
            let a : 0 < get_or e (d + 1) 0 * box_size e m (d + 1 + 1) = right_pos (get_or e d 0) (get_or e (d + 1) 0 * box_size e m (d + 1 + 1)) h in
            let z = right_pos (get_or e (d + 1) 0) (box_size e m (d + 1 + 1)) a in
            rw (← y, ← s.size_same, ← s.offset_same (q % box_size e m (d + 1 + 1)) (mod-lt q z)) (as_one q (get_or e (d + 1) 0) (get_or t (d + 1) 0) (get_or t d 0) (box_size e m (d + 1 + 1)) (offset e t m (d + 1 + 1)) z g);
      }

-- lists that agree on the axes of a box
pub agree : (e t e' t' : List ℕ) (m d : ℕ) → ((i : ℕ) → d ≤ i → i < d + m → get_or e i 0 ≡ get_or e' i 0) → ((i : ℕ) → d ≤ i → i < d + m → get_or t i 0 ≡ get_or t' i 0) → Same e t m d e' t' m d
agree e t e' t' zero d x y = empty e t e' t' d d
agree e t e' t' (suc m) d x y =
    same_axis e t e' t' m m d d (agree e t e' t' m (d + 1) (λ i l r. x i (omega arith) (omega arith)) (λ i l r. y i (omega arith) (omega arith))) (x d (omega arith) (omega arith)) (y d (omega arith) (omega arith))

module _ (e t : List ℕ) (m d : ℕ) where
  -- an axis of extent 1 left out
  pub left_out : get_or e d 0 ≡ 1 → Same e t (suc m) d e t m (d + 1)
  unfolding box_size product offset
  left_out x =
      record {
        size_same = rw (x, one-mul);
        offset_same =
            λ q h.
            let l : q < box_size e m (d + 1) = rw (x, one-mul) at h in
            rw (div-eq_of_lt l, mod-eq_of_lt l, zero-mul, zero-add);
      }

  -- the first axis merged into the next one
  pub merged_next : d + 1 < length e → get_or t d 0 ≡ get_or e (d + 1) 0 * get_or t (d + 1) 0 → Same e t (suc (suc m)) d (set e (d + 1) (get_or e d 0 * get_or e (d + 1) 0)) t (suc m) (d + 1)
  merged_next h g =
      let x : ℕ = get_or e d 0 * get_or e (d + 1) 0 in
      merged e t (set e (d + 1) x) t m m d (d + 1)
      (agree e t (set e (d + 1) x) t m (d + 1 + 1) (λ i l r. sym (get_or-set_other e (d + 1) i x 0 (λ z. omega arith))) (λ i l r. refl))
      (sym (get_or-set_same e (d + 1) x 0 h))
      refl
      g

-- equal boxes have equal cells
pub cells_same : {e t e' t' : List ℕ} {m m' d d' : ℕ} → Same e t m d e' t' m' d' → (a : List ℤ) (at q : ℕ) → q < box_size e m d → box_cell a e t m d at q ≡ box_cell a e' t' m' d' at q
unfolding box_place box_cell
cells_same s a at q h = rw (s.offset_same q h)

-- and the same places, within an array and in a result
module _ {e t e' t' : List ℕ} {m m' d d' : ℕ} (s : Same e t m d e' t' m' d') where
  pub within_same : {a at : ℕ} → d' + m' ≤ length e' → d' + m' ≤ length t' → InArray a e t m d at → InArray a e' t' m' d' at
  within_same x y b =
      record {
        extents = x;
        strides = y;
        some = rw s.size_same at b.some;
        places = λ q h. let l : q < box_size e m d = rw s.size_same h in rw (s.offset_same q l) at (b.places q l);
      }

  pub placed_same : (w : List ℤ) (at : ℕ) (f : ℕ → ℤ) → placed w (box_size e' m' d') (box_place e' t' m' d' at) f ≡ placed w (box_size e m d) (box_place e t m d at) f
  unfolding box_place
  placed_same w at f = rw (← s.size_same) (placed_cong w (box_size e m d) (λ q h. ap (λ (x : ℕ). at + x) (sym (s.offset_same q h))) (λ q h. refl))

-- ---- what merging leaves

module _ {e t e' t' : List ℕ} {n k : ℕ} (g : Merged e t e' t' n k) where
  pub merged_boxed : {w a at beside : ℕ} → Boxed w a e t n 0 at beside → Boxed w a e' t' (n - k) k at beside
  merged_boxed b =
      let x = b.within.extents in
      let y = b.within.strides in
      let l = g.axes in
      record { within = within_same g.same (omega (arith, g.extents)) (omega (arith, g.strides)) b.within; fits = rw g.same.size_same at b.fits }

  pub merged_placed : (w : List ℤ) (at : ℕ) (f : ℕ → ℤ) → placed w (box_size e' (n - k) k) (box_place e' t' (n - k) k at) f ≡ placed w (box_size e n 0) (box_place e t n 0 at) f
  merged_placed = placed_same g.same

-- ---- one axis: kept, left out, or merged into the next one

module _ {e t : List ℕ} {n d : ℕ} (b : FirstAxis e t n d) where
  pub first_kept : FirstMerged e t e n d d
  first_kept = let h = b.below in record { least = omega arith; axes = omega arith; extents = refl; before = λ i l. refl; same = agree e t e t (n - d) d (λ i l r. refl) (λ i l r. refl) }

  pub first_out : get_or e d 0 ≡ 1 → FirstMerged e t e n d (d + 1)
  first_out x =
      let h = b.below in
      let z : n - d ≡ suc (n - (d + 1)) = omega arith in
      record { least = omega arith; axes = omega arith; extents = refl; before = λ i l. refl; same = rw z (left_out e t (n - (d + 1)) d x) }

  -- two axes at the least
  module _ (h : d + 1 < n) where
    two : n - d ≡ suc (suc (n - (d + 1 + 1)))
    two = omega arith

    abbrev rest : ℕ
    rest = box_size e (n - (d + 1 + 1)) (d + 1 + 1)

    size_two : box_size e (n - d) d ≡ get_or e d 0 * (get_or e (d + 1) 0 * rest)
    unfolding box_size product
    size_two = rw two

    -- the products that the code forms are small
    pub first_fits : (get_or e d 0 * get_or e (d + 1) 0 ≤ point_limit) × (get_or e (d + 1) 0 * get_or t (d + 1) 0 ≤ 281474976710656)
    first_fits =
        let m = b.most in
        let p = positive (get_or e d 0) (get_or e (d + 1) 0 * rest) (rw size_two at b.some) in
        let r = positive (get_or e (d + 1) 0) rest p.1 in
        let x = mul-le-mul_left (get_or e d 0 * get_or e (d + 1) 0) r.1 in
        let y = mul-le-mul_left (get_or e (d + 1) 0) p.0 in
        let s = size_two in
        let g : get_or e (d + 1) 0 ≤ point_limit = omega arith in
        (omega arith, mul-le-mul {n₁ = get_or e (d + 1) 0} {m₁ = get_or t (d + 1) 0} {n₂ = point_limit} {m₂ = point_limit} g (b.near (d + 1) h))

    pub first_merged : get_or t d 0 ≡ get_or e (d + 1) 0 * get_or t (d + 1) 0 → FirstMerged e t (set e (d + 1) (get_or e d 0 * get_or e (d + 1) 0)) n d (d + 1)
    first_merged g =
        let l = b.extents in
        let z : n - (d + 1) ≡ suc (n - (d + 1 + 1)) = omega arith in
        record {
          least = omega arith;
          axes = omega arith;
          extents = length-set e (d + 1) (get_or e d 0 * get_or e (d + 1) 0);
          before = λ i l. get_or-set_other e (d + 1) i (get_or e d 0 * get_or e (d + 1) 0) 0 (λ z. omega arith);
          same = rw (two, z) (merged_next e t (n - (d + 1 + 1)) d (omega arith) g);
        }

-- ---- one axis after another, from the last one on

-- the axes from d on are merged, to those from k on
pub record MergedTo (e t e' t' : List ℕ) (n d k : ℕ) : Type 0 where
  pub least : d ≤ k
  pub axes : k ≤ n
  pub extents : length e' ≡ length e
  pub strides : length t' ≡ length t
  pub extents_before : (i : ℕ) → i < d → get_or e' i 0 ≡ get_or e i 0
  pub strides_before : (i : ℕ) → i < d → get_or t' i 0 ≡ get_or t i 0
  pub near : (i : ℕ) → i < n → get_or t' i 0 ≤ point_limit
  pub same : Same e t (n - d) d e' t' (n - k) k

near_put : (t : List ℕ) (j y : ℕ) {n : ℕ} → n ≤ length t → y ≤ point_limit → ((i : ℕ) → i < n → get_or t i 0 ≤ point_limit) → (i : ℕ) → i < n → get_or (set t j y) i 0 ≤ point_limit
near_put t j y l a near i h =
    by (eqb i j)
    (λ c. let q = eqb-true i j c in rw (q, get_or-set_same t j y 0 (omega arith)) a)
    (λ c. rw (get_or-set_other t j i y 0 (eqb-false i j c)) (near i h))

-- the axes before d, and those from d on
cut : (e : List ℕ) (d m : ℕ) → box_size e d 0 * box_size e m d ≡ box_size e (d + m) 0
unfolding box_size
cut e d m = sym (product_append (λ i. get_or e i 0) d m 0 ∙ ap (λ (x : ℕ). product (λ i. get_or e i 0) d 0 * product (λ i. get_or e i 0) m x) (zero-add d))

part_of : (a b : ℕ) → 0 < a * b → (0 < b) × (b ≤ a * b)
part_of a b h = let p = positive a b h in let x = mul-le-mul {n₁ = 1} {m₁ = b} {n₂ = a} {m₂ = b} p.0 (omega arith) in (p.1, omega arith)

module _ {e t : List ℕ} {n : ℕ} (ok : Mergeable e t n) where
  pub merge_begin : MergedTo e t e t n n n
  merge_begin =
      let z : n - n ≡ 0 = omega arith in
      record {
        least = omega arith;
        axes = omega arith;
        extents = refl;
        strides = refl;
        extents_before = λ i h. refl;
        strides_before = λ i h. refl;
        near = ok.near;
        same = rw z (empty e t e t n n);
      }

  module _ {e' t' : List ℕ} {d k : ℕ} (s : MergedTo e t e' t' n d k) where
    -- the next axis goes before the merged ones
    pub axis_put : 0 < d → MergedTo e t (set e' (k - 1) (get_or e' (d - 1) 0)) (set t' (k - 1) (get_or t' (d - 1) 0)) n (d - 1) (k - 1)
    axis_put h =
        let l = s.least in
        let u = s.axes in
        let x : ℕ = get_or e' (d - 1) 0 in
        let y : ℕ = get_or t' (d - 1) 0 in
        let p : d - 1 + 1 ≡ d = omega arith in
        let q : k - 1 + 1 ≡ k = omega arith in
        let v : n - (d - 1) ≡ suc (n - d) = omega arith in
        let w : n - (k - 1) ≡ suc (n - k) = omega arith in
        let after = agree e' t' (set e' (k - 1) x) (set t' (k - 1) y) (n - k) k (λ i a b. sym (get_or-set_other e' (k - 1) i x 0 (λ z. omega arith))) (λ i a b. sym (get_or-set_other t' (k - 1) i y 0 (λ z. omega arith))) in
        record {
          least = omega arith;
          axes = omega arith;
          extents = length-set e' (k - 1) x ∙ s.extents;
          strides = length-set t' (k - 1) y ∙ s.strides;
          extents_before = λ i a. get_or-set_other e' (k - 1) i x 0 (λ z. omega arith) ∙ s.extents_before i (omega arith);
          strides_before = λ i a. get_or-set_other t' (k - 1) i y 0 (λ z. omega arith) ∙ s.strides_before i (omega arith);
          near = near_put t' (k - 1) y (omega (arith, ok.strides, s.strides)) (s.near (d - 1) (omega arith)) s.near;
          same =
              rw (v, w) (same_axis e t (set e' (k - 1) x) (set t' (k - 1) y) (n - d) (n - k) (d - 1) (k - 1) (rw (p, q) (same_then s.same after))
              (sym (get_or-set_same e' (k - 1) x 0 (omega (arith, ok.extents, s.extents)) ∙ s.extents_before (d - 1) (omega arith)))
              (sym (get_or-set_same t' (k - 1) y 0 (omega (arith, ok.strides, s.strides)) ∙ s.strides_before (d - 1) (omega arith))));
        }

    -- the merged box is one whose first axis may be merged
    pub first_axis : k < n → FirstAxis e' t' n k
    first_axis h =
        let l = s.least in
        let q : d + (n - d) ≡ n = omega arith in
        let p = part_of (box_size e d 0) (box_size e (n - d) d) (rw (cut e d (n - d), q) ok.some) in
        record {
          below = h;
          extents = omega (arith, ok.extents, s.extents);
          strides = omega (arith, ok.strides, s.strides);
          some = rw s.same.size_same at p.0;
          most = rw (← s.same.size_same) (let a = p.1 in let m = ok.most in omega (arith, ap (λ (m : ℕ). box_size e m 0) q, cut e d (n - d)));
          near = s.near;
        }

    -- and it stays merged when that is done
    pub first_then_lem : {e'' : List ℕ} {r : ℕ} → FirstMerged e' t' e'' n k r → MergedTo e t e'' t' n d r
    first_then_lem f =
        let l = s.least in
        let u = f.least in
        record {
          least = omega arith;
          axes = f.axes;
          extents = f.extents ∙ s.extents;
          strides = s.strides;
          extents_before = λ i h. f.before i (omega arith) ∙ s.extents_before i h;
          strides_before = s.strides_before;
          near = s.near;
          same = same_then s.same f.same;
        }

    pub merge_end : d ≡ 0 → Merged e t e' t' n k
    merge_end z =
        let y : n - d ≡ n = omega arith in
        record { axes = s.axes; extents = s.extents; strides = s.strides; same = rw (y, z) at s.same }
