-- Laws of summed-out sets.
use Prim.Native.Nat.{ℕ, zero, suc, ◌+◌, ◌≤◌, ◌<◌}
use mathlib.Core.Path.{◌≡◌, sym, refl, ap₂}
use mathlib.Core.Bool.{true, false}
use mathlib.Core.List.{List, [], ◌∷◌}
use native.Mathlib.Omega.{arith}
use borrow.Author.Tests.{eqb-true, eq-eqb, ne_eqb}
use lib.Dec.{eqb}
use Rattle.cube_spec.specs.Boxes.{sum_n}
use Rattle.cube_spec.specs.Tree.{has, kept, over_sets_from}
use Rattle.cube_spec.proofs.Sums.{by}
use Rattle.cube_spec.proofs.Naturals.{clash, sum_n_zero, sum_n_add}

pub has_head : (j : ℕ) (Y : List ℕ) → has (j ∷ Y) j ≡ true
unfolding has
has_head j Y = rw (eq-eqb j j refl)

pub has_other : (j d : ℕ) (Y : List ℕ) → (d ≡ j → ⊥) → has (j ∷ Y) d ≡ has Y d
unfolding has
has_other j d Y h = rw (ne_eqb d j h)

-- ---- Y holds places below n, the last first

abbrev pub Down : List ℕ → ℕ → Type 0
Down [] n = Unit {0}
Down (j ∷ Y) n = (j < n) × Down Y j

pub down_up : (Y : List ℕ) (d d' : ℕ) → d ≤ d' → Down Y d → Down Y d'
down_up [] d d' l h = tt
down_up (j ∷ Y) d d' l h = (let q = h.0 in omega arith, h.1)

pub down_lt : (Y : List ℕ) (n i : ℕ) → Down Y n → has Y i ≡ true → i < n
unfolding has
down_lt [] n i h t = clash (sym t)
down_lt (j ∷ Y) n i h t =
    let q = h.0 in
    by (eqb i j) (λ s. let e = eqb-true i j s in omega arith) (λ s. let r = down_lt Y j i h.1 (rw s at t) in omega arith)

-- so no later place is in it
pub down_out : (Y : List ℕ) (n i : ℕ) → Down Y n → n ≤ i → has Y i ≡ false
down_out Y n i h l = by (has Y i) (λ t. let q = down_lt Y n i h t in absurd (omega arith)) (λ t. t)

-- ---- boxes with extent 1 on the summed axes

pub kept_has : (e : ℕ → ℕ) (Y : List ℕ) (d : ℕ) → has Y d ≡ true → kept Y e d ≡ 1
unfolding kept
kept_has e Y d t = rw t

pub kept_out : (e : ℕ → ℕ) (Y : List ℕ) (d : ℕ) → has Y d ≡ false → kept Y e d ≡ e d
unfolding kept
kept_out e Y d t = rw t

pub kept_other : (e : ℕ → ℕ) (j d : ℕ) (Y : List ℕ) → (d ≡ j → ⊥) → kept (j ∷ Y) e d ≡ kept Y e d
unfolding kept
kept_other e j d Y h = rw (has_other j d Y h)

-- ---- sums over sets, compared set by set

pub over_cong : (F G : List ℕ → ℕ) (m d n : ℕ) (Y : List ℕ) → d + m ≡ n → Down Y d → ((Z : List ℕ) → Down Z n → F Z ≡ G Z) → over_sets_from F m d Y ≡ over_sets_from G m d Y
unfolding over_sets_from
over_cong F G zero d n Y e h same = refl
over_cong F G (suc m) d n Y e h same =
    ap₂ ◌+◌ (over_cong F G m (d + 1) n Y (omega arith) (down_up Y d (d + 1) (omega arith) h) same) (ap₂ ◌+◌ (same (d ∷ Y) (omega arith, h)) (over_cong F G m (d + 1) n (d ∷ Y) (omega arith) (omega arith, h) same))

pub over_le : (F G : List ℕ → ℕ) (m d n : ℕ) (Y : List ℕ) → d + m ≡ n → Down Y d → ((Z : List ℕ) → Down Z n → F Z ≤ G Z) → over_sets_from F m d Y ≤ over_sets_from G m d Y
unfolding over_sets_from
over_le F G zero d n Y e h less = omega arith
over_le F G (suc m) d n Y e h less =
    let p = over_le F G m (d + 1) n Y (omega arith) (down_up Y d (d + 1) (omega arith) h) less in
    let l : d < n = omega arith in
    let q = less (d ∷ Y) (l, h) in
    let r = over_le F G m (d + 1) n (d ∷ Y) (omega arith) (omega arith, h) less in
    omega arith

-- and added up for each of some numbers
pub over_sum : (F : ℕ → List ℕ → ℕ) (k m d : ℕ) (Y : List ℕ) → sum_n k (λ b. over_sets_from (F b) m d Y) ≡ over_sets_from (λ Z. sum_n k (λ b. F b Z)) m d Y
unfolding over_sets_from
over_sum F k zero d Y = sum_n_zero k
over_sum F k (suc m) d Y =
    let p = over_sum F k m (d + 1) Y in
    let q = over_sum F k m (d + 1) (d ∷ Y) in
    let r = sum_n_add k (λ b. over_sets_from (F b) m (d + 1) Y) (λ b. F b (d ∷ Y) + over_sets_from (F b) m (d + 1) (d ∷ Y)) in
    let s = sum_n_add k (λ b. F b (d ∷ Y)) (λ b. over_sets_from (F b) m (d + 1) (d ∷ Y)) in
    omega arith
