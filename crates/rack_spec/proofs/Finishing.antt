-- Each choice but the full one is finished exactly once.
use Prim.Native.Nat.{ℕ, zero, suc, ◌+◌, ◌-◌, ◌≤◌, ◌<◌}
use mathlib.Core.Path.{◌≡◌, sym, ◌∙◌, refl, ap, ap₂}
use mathlib.Core.Bool.{Bool, true, false}
use mathlib.Core.List.{List, [], ◌∷◌, ◌++◌}
use native.Mathlib.Nat.{zero-add, add-zero, add-suc, add_assoc}
use native.Mathlib.Numerals.{add-one}
use native.Mathlib.Omega.{arith}
use borrow.Author.Tests.{eqb-true, eqb-false, eq-eqb}
use lib.Dec.{eqb}
use Rattle.cube_spec.specs.Boxes.{pick}
use Rattle.cube_spec.specs.Tree.{has, last_of}
use Rattle.rack_spec.specs.Grids.{Grid, set_of, boards, lead}
use Rattle.rack_spec.specs.Held.{finishes_it, finishes, same}
use Rattle.rack_spec.specs.Steps.{TreeStep, each, expand, finish, steps, sends, transfer, transfers, around, walk}
use Rattle.cube_spec.proofs.Sums.{by}
use Rattle.cube_spec.proofs.Naturals.{both, clash}
use Rattle.cube_spec.proofs.Sets.{Down, down_out, has_head, has_other}
use Rattle.rack_spec.proofs.Every.{every_at, every_step}

-- 1 if f tells any of the m places from d on, else 0
unfoldable pub any : (ℕ → Bool) → ℕ → ℕ → ℕ
any f zero d = 0
any f (suc m) d = pick (f d) 1 (any f m (d + 1))

-- ---- equal lists

pub same_true : (Y Z : List ℕ) → same Y Z ≡ true → Y ≡ Z
unfolding same
same_true [] [] e = refl
same_true [] (b ∷ Z) e = clash (sym e)
same_true (a ∷ Y) [] e = clash (sym e)
same_true (a ∷ Y) (b ∷ Z) e = let p = both (eqb a b) (same Y Z) e in ap₂ ◌∷◌ (eqb-true a b p.0) (same_true Y Z p.1)

pub same_refl : (Y : List ℕ) → same Y Y ≡ true
unfolding same
same_refl [] = refl
same_refl (a ∷ Y) = rw (eq-eqb a a refl) (same_refl Y)

-- choices that differ on an axis are not the same
same_differ : (Y Z : List ℕ) (e : ℕ) → has Y e ≡ true → has Z e ≡ false → same Y Z ≡ false
same_differ Y Z e p q = by (same Y Z) (λ t. clash (sym p ∙ ap (λ Y. has Y e) (same_true Y Z t) ∙ q)) (λ t. t)

same_differ' : (Y Z : List ℕ) (e : ℕ) → has Y e ≡ false → has Z e ≡ true → same Y Z ≡ false
same_differ' Y Z e p q = by (same Y Z) (λ t. clash (sym q ∙ ap (λ Y. has Y e) (sym (same_true Y Z t)) ∙ p)) (λ t. t)

-- ---- counting

pub finishes_append : (Y : List ℕ) (a b : List TreeStep) → finishes Y (a ++ b) ≡ finishes Y a + finishes Y b
unfolding finishes
finishes_append Y [] b = sym (zero-add _)
finishes_append Y (s ∷ a) b = ap (λ n. pick (finishes_it Y s) 1 0 + n) (finishes_append Y a b) ∙ sym (add_assoc (pick (finishes_it Y s) 1 0) (finishes Y a) (finishes Y b))

finishes_each : (Y : List ℕ) (n : ℕ) (f : ℕ → List TreeStep) → ((b : ℕ) → finishes Y (f b) ≡ 0) → finishes Y (each n f) ≡ 0
unfolding each
finishes_each Y zero f h = unfold finishes in refl
finishes_each Y (suc n) f h = finishes_append Y (each n f) (f n) ∙ ap₂ ◌+◌ (finishes_each Y n f h) (h n)

finishes_transfers : (g : Grid) (Y Z : List ℕ) (n : ℕ) → finishes Y (transfers g Z n) ≡ 0
unfolding transfers sends finishes
finishes_transfers g Y Z n = finishes_each Y n _ (λ b. one b (lead g Z b))
  where
    one : (b : ℕ) (t : Bool) → finishes Y (pick t (sends g Z b (g.parts (last_of Z) - 1)) []) ≡ 0
    one b true = finishes_each Y (g.parts (last_of Z) - 1) _ (λ l. refl)
    one b false = refl

finishes_end : (Y Z : List ℕ) (inner : List TreeStep) → finishes Y (inner ++ (finish Z ∷ [])) ≡ finishes Y inner + pick (same Y Z) 1 0
unfolding finishes
finishes_end Y Z inner = finishes_append Y inner (finish Z ∷ []) ∙ ap (λ n. finishes Y inner + n) (add-zero (pick (same Y Z) 1 0))

finishes_visit : (Y Z : List ℕ) (m : ℕ) (inner : List TreeStep) → finishes Y (around Z m inner) ≡ finishes Y inner + pick (same Y Z) 1 0
unfolding finishes
finishes_visit Y Z zero inner = finishes_end Y Z inner
finishes_visit Y Z (suc m) inner = zero-add (finishes Y (inner ++ (finish Z ∷ []))) ∙ finishes_end Y Z inner

finishes_walk : (g : Grid) (Z : List ℕ) (m d : ℕ) (Y : List ℕ) → finishes Z (walk g (suc m) d Y) ≡ finishes Z (walk g m (d + 1) Y) + (finishes Z (walk g m (d + 1) (d ∷ Y)) + pick (same Z (d ∷ Y)) 1 0)
unfolding walk
finishes_walk g Z m d Y =
    let inner = walk g m (d + 1) (d ∷ Y) in
    let p = finishes_append Z (transfers g (d ∷ Y) (boards g)) (around (d ∷ Y) m inner) in
    let q = finishes_transfers g Z (d ∷ Y) (boards g) in
    let r = finishes_visit Z (d ∷ Y) m inner in
    finishes_append Z (walk g m (d + 1) Y) _ ∙ ap (λ n. finishes Z (walk g m (d + 1) Y) + n) (p ∙ ap₂ ◌+◌ q r ∙ zero-add _)

-- ---- a walk from axis d on leaves the axes before d as they are

walk_misses : (g : Grid) (Z : List ℕ) (m d e : ℕ) (Y : List ℕ) → e < d → ((W : List ℕ) → has W e ≡ has Y e → same Z W ≡ false) → finishes Z (walk g m d Y) ≡ 0
walk_misses g Z zero d e Y h f = unfold walk finishes in refl
walk_misses g Z (suc m) d e Y h f =
    let ne : e ≡ d → ⊥ = λ q. omega arith in
    let p = walk_misses g Z m (d + 1) e Y (omega arith) f in
    let q = walk_misses g Z m (d + 1) e (d ∷ Y) (omega arith) (λ W t. f W (t ∙ has_other d e Y ne)) in
    let r = f (d ∷ Y) (has_other d e Y ne) in
    finishes_walk g Z m d Y ∙ ap₂ ◌+◌ p (ap₂ ◌+◌ q (ap (λ t. pick t 1 0) r))

-- ---- the choice of a set

set_true : (f : ℕ → Bool) (n : ℕ) → f n ≡ true → set_of f (suc n) ≡ n ∷ set_of f n
unfolding set_of
set_true f n t = rw t

set_false : (f : ℕ → Bool) (n : ℕ) → f n ≡ false → set_of f (suc n) ≡ set_of f n
unfolding set_of
set_false f n t = rw t

-- it sums out no axis from n on
set_past : (f : ℕ → Bool) (n e : ℕ) → n ≤ e → has (set_of f n) e ≡ false
set_past f zero e h = unfold set_of has in refl
set_past f (suc n) e h =
    by (f n)
    (λ t. rw (set_true f n t) (has_other n e (set_of f n) (λ q. omega arith) ∙ set_past f n e (omega arith)))
    (λ t. rw (set_false f n t) (set_past f n e (omega arith)))

-- and of those below n the ones told
pub set_has : (f : ℕ → Bool) (n e : ℕ) → e < n → has (set_of f n) e ≡ f e
set_has f zero e h = absurd (omega arith)
set_has f (suc n) e h =
    by (eqb e n)
    (λ s.
    let q = eqb-true e n s in
    rw q (by (f n) (λ t. rw (set_true f n t, t) (has_head n (set_of f n))) (λ t. rw (set_false f n t, t) (set_past f n n (omega arith)))))
    (λ s.
    let ne = eqb-false e n s in
    by (f n)
    (λ t. rw (set_true f n t) (has_other n e (set_of f n) ne ∙ set_has f n e (omega (arith, ne))))
    (λ t. rw (set_false f n t) (set_has f n e (omega (arith, ne)))))

-- ---- the count

-- no axis told from d on: the choice is that of the axes before d
pub any_none : (f : ℕ → Bool) (m d n : ℕ) → d + m ≡ n → any f m d ≡ 0 → set_of f n ≡ set_of f d
unfolding any
any_none f zero d n e h = let q : n ≡ d = omega arith in rw q
any_none f (suc m) d n e h =
    by (f d)
    (λ t. absurd (let z : ◌≡◌ {A = ℕ} 1 0 = (rw t at h) in omega arith))
    (λ t. let z : any f m (d + 1) ≡ 0 = (rw t at h) in any_none f m (d + 1) n (omega arith) z ∙ (rw add-one (set_false f d t)))

-- one told: the two differ on it
any_one : (f : ℕ → Bool) (m d n : ℕ) → d + m ≡ n → any f m d ≡ 1 → (Y : List ℕ) → ((e : ℕ) → d ≤ e → has Y e ≡ false) → same (set_of f n) Y ≡ false
unfolding any
any_one f zero d n e h Y p = absurd (omega arith)
any_one f (suc m) d n e h Y p =
    by (f d)
    (λ t. same_differ (set_of f n) Y d (set_has f n d (omega arith) ∙ t) (p d (omega arith)))
    (λ t. let z : any f m (d + 1) ≡ 1 = (rw t at h) in any_one f m (d + 1) n (omega arith) z Y (λ e l. p e (omega arith)))

pub any_cases : {C : Type 0} (f : ℕ → Bool) (m d : ℕ) → (any f m d ≡ 0 → C) → (any f m d ≡ 1 → C) → C
unfolding any
any_cases f zero d p q = p refl
any_cases f (suc m) d p q = by (f d) (λ t. q (rw t)) (λ t. any_cases f m (d + 1) (λ z. p (rw t z)) (λ z. q (rw t z)))

walk_once : (g : Grid) (f : ℕ → Bool) (m d n : ℕ) → d + m ≡ n → finishes (set_of f n) (walk g m d (set_of f d)) ≡ any f m d
walk_once g f zero d n e = unfold walk finishes any in refl
walk_once g f (suc m) d n e =
    let ih = walk_once g f m (d + 1) n (omega arith) in
    by (f d) (summed ih) (kept ih)
  where
    summed : finishes (set_of f n) (walk g m (d + 1) (set_of f (d + 1))) ≡ any f m (d + 1) → f d ≡ true → finishes (set_of f n) (walk g (suc m) d (set_of f d)) ≡ any f (suc m) d
    summed ih t =
        let c : set_of f (d + 1) ≡ d ∷ set_of f d = rw add-one (set_true f d t) in
        let p : finishes (set_of f n) (walk g m (d + 1) (set_of f d)) ≡ 0 = walk_misses g (set_of f n) m (d + 1) d (set_of f d) (omega arith) (λ W s. same_differ (set_of f n) W d (set_has f n d (omega arith) ∙ t) (s ∙ set_past f d d (omega arith))) in
        let q : finishes (set_of f n) (walk g m (d + 1) (d ∷ set_of f d)) ≡ any f m (d + 1) = (rw c at ih) in
        let r : any f m (d + 1) + pick (same (set_of f n) (d ∷ set_of f d)) 1 0 ≡ 1 =
        any_cases f m (d + 1)
        (λ z. rw (z, any_none f m (d + 1) n (omega arith) z, c, same_refl (d ∷ set_of f d)))
        (λ z. rw (z, any_one f m (d + 1) n (omega arith) z (d ∷ set_of f d) (λ e l. has_other d e (set_of f d) (λ q. omega arith) ∙ set_past f d e (omega arith)))) in
        finishes_walk g (set_of f n) m d (set_of f d) ∙ ap₂ ◌+◌ p (ap (λ a. a + pick (same (set_of f n) (d ∷ set_of f d)) 1 0) q ∙ r) ∙ (unfold any in rw t)

    kept : finishes (set_of f n) (walk g m (d + 1) (set_of f (d + 1))) ≡ any f m (d + 1) → f d ≡ false → finishes (set_of f n) (walk g (suc m) d (set_of f d)) ≡ any f (suc m) d
    kept ih t =
        let c : set_of f (d + 1) ≡ set_of f d = rw add-one (set_false f d t) in
        let apart : (W : List ℕ) → has W d ≡ true → same (set_of f n) W ≡ false = λ W s. same_differ' (set_of f n) W d (set_has f n d (omega arith) ∙ t) s in
        let p : finishes (set_of f n) (walk g m (d + 1) (set_of f d)) ≡ any f m (d + 1) = (rw c at ih) in
        let q : finishes (set_of f n) (walk g m (d + 1) (d ∷ set_of f d)) ≡ 0 = walk_misses g (set_of f n) m (d + 1) d (d ∷ set_of f d) (omega arith) (λ W s. apart W (s ∙ has_head d (set_of f d))) in
        let r : pick {A = ℕ} (same (set_of f n) (d ∷ set_of f d)) 1 0 ≡ 0 = ap (λ t. pick t 1 0) (apart (d ∷ set_of f d) (has_head d (set_of f d))) in
        finishes_walk g (set_of f n) m d (set_of f d) ∙ ap₂ ◌+◌ p (ap₂ ◌+◌ q r) ∙ add-zero (any f m (d + 1)) ∙ (unfold any in rw t)

-- THE FINISHES. Whichever axes f tells to sum out, if it tells any, the list of steps finishes that choice exactly once; the full array it never finishes.
pub finished_once : (g : Grid) (f : ℕ → Bool) → finishes (set_of f g.axes) (steps g) ≡ any f g.axes 0
unfolding steps finishes set_of
finished_once g f = zero-add (finishes (set_of f g.axes) (walk g g.axes 0 [])) ∙ walk_once g f g.axes 0 g.axes (zero-add g.axes)

-- ---- nothing else is finished: each finish is of axes below n, the last first

pub set_cong : (f h : ℕ → Bool) (n : ℕ) → ((d : ℕ) → d < n → f d ≡ h d) → set_of f n ≡ set_of h n
unfolding set_of
set_cong f h zero e = refl
set_cong f h (suc n) e = rw (e n (omega arith), set_cong f h n (λ d l. e d (omega arith)))

set_up : (f : ℕ → Bool) (m n : ℕ) → ((d : ℕ) → n ≤ d → f d ≡ false) → set_of f (n + m) ≡ set_of f n
set_up f zero n h = rw add-zero
set_up f (suc m) n h = rw add-suc (set_false f (n + m) (h (n + m) (omega arith)) ∙ set_up f m n h)

-- so it is the choice of a set
pub down_set : (Y : List ℕ) (n : ℕ) → Down Y n → set_of (has Y) n ≡ Y
down_set [] n h = ap (set_of (has [])) (sym (zero-add n)) ∙ set_up (has []) n 0 (λ d l. unfold has in refl) ∙ (unfold set_of in refl)
down_set (j ∷ Y) n h =
    let q = h.0 in
    let e : suc j + (n - suc j) ≡ n = omega arith in
    let out : (d : ℕ) → suc j ≤ d → has (j ∷ Y) d ≡ false = λ d l. down_out (j ∷ Y) (suc j) d (omega arith, h.1) l in
    ap (set_of (has (j ∷ Y))) (sym e) ∙ set_up (has (j ∷ Y)) (n - suc j) (suc j) out ∙ set_true (has (j ∷ Y)) j (has_head j Y) ∙ ap (λ Z. j ∷ Z) (set_cong (has (j ∷ Y)) (has Y) j (λ d l. has_other j d Y (λ z. omega arith)) ∙ down_set Y j h.1)

abbrev Shape : ℕ → TreeStep → Type 0
Shape n (expand Y) = Unit {0}
Shape n (transfer Y s r k) = Unit {0}
Shape n (finish Y) = Down Y n

pub finish_down : (g : Grid) (before rest : List TreeStep) (Y : List ℕ) → steps g ≡ before ++ (finish Y ∷ rest) → Down Y g.axes
finish_down g before rest Y e =
    every_at (Shape g.axes) before (finish Y) rest (rw e at (every_step (Shape g.axes) g (λ Y h. tt) (λ Y j b l d h t r. tt) (λ Y h n. h)))
