-- Where no length is 0, there is a division exactly if p is at most the sum of floor(log2 length).
use Prim.Native.Nat.{ℕ, zero, suc, ◌-◌, ◌/◌, ◌^◌, ◌≤◌, ◌<◌, min}
use mathlib.Core.Path.{◌≡◌, ap, refl}
use mathlib.Core.Bool.{Bool, true, false}
use mathlib.Core.List.{List, [], ◌∷◌}
use native.Mathlib.Omega.{arith}
use native.Mathlib.Nat.{le_trans, le_refl, add-le-add, min-le_right, pow-succ'}
use lib.Dec.{leb}
use lib.ListN.{length, get_or}
use lib.Pow.{pow_mono, pow_pos}
use borrow.Author.Tests.{leb-true, leb-false}
use Rattle.cube_spec.specs.Boxes.{pick}
use Rattle.cube_spec.specs.Choices.{length_of}
use Rattle.cube_spec.specs.Ways.{halvings, log2, room, sum_list, Division}
use Rattle.cube_spec.proofs.Axes.{Axis, lens, keys}
use Rattle.plan_spec.proofs.Cost.{Fits}
use Rattle.plan_spec.proofs.Least.{typed, typed_lens, typed_keys, typed_fits}

halvings_fit : (f d : ℕ) → 1 ≤ d → 2 ^ halvings f d ≤ d
unfolding halvings
halvings_fit zero d h = h
halvings_fit (suc f) d h = go (leb 2 d) refl (λ l. halvings_fit f (d / 2) (omega arith))
  where
    go : (b : Bool) → leb 2 d ≡ b → (2 ≤ d → 2 ^ halvings f (d / 2) ≤ d / 2) → 2 ^ pick b (suc (halvings f (d / 2))) 0 ≤ d
    go true q i = let r = i (leb-true 2 d q) in rw (pow-succ' 2 (halvings f (d / 2))) (omega arith)
    go false q i = h

halvings_most : (f d k : ℕ) → d ≤ f → 2 ^ k ≤ d → k ≤ halvings f d
unfolding halvings
halvings_most f d zero h l = omega arith
halvings_most zero d (suc k) h l = absurd (let q = pow_pos (suc k) in omega arith)
halvings_most (suc f) d (suc k) h l = go (leb 2 d) refl (halvings_most f (d / 2) k (omega (arith, pow_pos k)) (omega arith))
  where
    go : (b : Bool) → leb 2 d ≡ b → k ≤ halvings f (d / 2) → suc k ≤ pick b (suc (halvings f (d / 2))) 0
    go true q i = omega arith
    go false q i = absurd (let r = leb-false 2 d q in let s = pow_pos k in omega arith)

pub log2_fit : (d : ℕ) → 1 ≤ d → 2 ^ log2 d ≤ d
unfolding log2
log2_fit d h = halvings_fit d d h

pub log2_most : (d k : ℕ) → 2 ^ k ≤ d → k ≤ log2 d
unfolding log2
log2_most d k h = halvings_most d d k (le_refl d) h

fits_room : (r : List Axis) → Fits r → sum_list (keys r) ≤ room (lens r)
unfolding Fits sum_list keys room lens
fits_room [] f = le_refl 0
fits_room (a ∷ r) f = add-le-add (log2_most a.len a.key f.0) (fits_room r f.1)

-- a division sums to no more
pub division_room : (ds : List ℕ) (p : ℕ) → Division ds p → p ≤ room ds
division_room ds p e =
    rw (typed_lens, typed_keys ds e.exponents e.each, e.sums) at (fits_room (typed ds e.exponents) (typed_fits ds e.exponents e.fits))

-- as much as fits, axis after axis
fill : ℕ → List ℕ → List ℕ
fill p [] = []
fill p (d ∷ ds) = min p (log2 d) ∷ fill (p - min p (log2 d)) ds

fill_length : (p : ℕ) (ds : List ℕ) → length (fill p ds) ≡ length ds
unfolding fill
fill_length p [] = refl
fill_length p (d ∷ ds) = ap suc (fill_length (p - min p (log2 d)) ds)

fill_sum : (p : ℕ) (ds : List ℕ) → p ≤ room ds → sum_list (fill p ds) ≡ p
unfolding fill sum_list room
fill_sum p [] h = omega arith
fill_sum p (d ∷ ds) h = let i = fill_sum (p - min p (log2 d)) ds (omega arith) in omega arith

fill_fits : (p : ℕ) (ds : List ℕ) → ((i : ℕ) → i < length ds → 1 ≤ length_of ds i) → (i : ℕ) → i < length ds → 2 ^ get_or (fill p ds) i 0 ≤ length_of ds i
unfolding fill
fill_fits p [] h i l = absurd (omega arith)
fill_fits p (d ∷ ds) h zero l = le_trans (pow_mono (min-le_right p (log2 d))) (log2_fit d (h 0 (omega arith)))
fill_fits p (d ∷ ds) h (suc i) l = fill_fits (p - min p (log2 d)) ds (λ j m. h (suc j) (omega arith)) i (omega arith)

-- and there is one for each p up to it
pub room_division : (ds : List ℕ) (p : ℕ) → ((d : ℕ) → d < length ds → 1 ≤ length_of ds d) → p ≤ room ds → Division ds p
room_division ds p h l = record { exponents = fill p ds; each = fill_length p ds; fits = fill_fits p ds h; sums = fill_sum p ds l }
