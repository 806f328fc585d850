-- The greedy rule spends least: a threshold parts the raises that were made from those that are open.
use Prim.Native.Nat.{ℕ, zero, suc, ◌+◌, ◌-◌, ◌*◌, ◌^◌, ◌≤◌, ◌<◌, min, zero-le}
use mathlib.Core.Path.{◌≡◌, ◌∙◌, ap, sym, refl}
use mathlib.Core.Bool.{Bool, true, false, ◌&&◌}
use mathlib.Core.List.{List, [], ◌∷◌}
use mathlib.Core.Option.{Option, none, some}
use native.Mathlib.Omega.{arith}
use native.Mathlib.Nat.{mul-add, mul-le-mul_left, le_trans, le_refl, le_of_eq, add-le-add, pow-succ', zero-add, suc-add, add-suc}
use native.Mathlib.Decide.{dec_le, dec_lt}
use lib.Pow.{pow_mono, pow_pos}
use lib.Dec.{eqb}
use borrow.Author.Tests.{leb-true, leb-false, eqb-true, eqb-false}
use Rattle.cube_spec.specs.Boxes.{pick}
use Rattle.cube_spec.specs.Tree.{sent}
use Rattle.cube_spec.specs.Ways.{sum_list}
use Rattle.cube_spec.proofs.Axes.{Axis, lens, keys}
use Rattle.plan_spec.specs.Rule.{Entry, price, free, least, up_to, raised, raise_at, raise_by, raise, greedy, exps}
use Rattle.plan_spec.proofs.Cost.{Fits}
use Rattle.cube_spec.proofs.Naturals.{impossible}
use Rattle.plan_spec.proofs.Tools.{bool_cases}

-- the entries' axes, with the exponents so far
unfoldable pub axes : List Entry → List Axis
axes [] = []
axes (e ∷ r) = record { len = e.len; key = e.exp } ∷ axes r

pub axes_keys : (l : List Entry) → keys (axes l) ≡ exps l
unfolding keys axes exps
axes_keys [] = refl
axes_keys (e ∷ r) = ap (λ (x : List ℕ). e.exp ∷ x) (axes_keys r)

-- every raise made cost at most t; the next one, if it may be made, costs at least t
record Even (t : ℕ) (e : Entry) : Type 0 where
  made : (j : ℕ) → j < e.exp → e.weight * 2 ^ j ≤ t
  next : 2 ^ suc e.exp ≤ e.len → t ≤ price e

Fair : ℕ → List Entry → Type 0
Fair t [] = Unit {0}
Fair t (e ∷ r) = Even t e × Fair t r

-- a raise at k adds weight × 2 ^ k to what is paid
one_more : (w k : ℕ) → w * sent (suc k) ≡ w * sent k + w * 2 ^ k
unfolding sent
one_more w k =
    let e : 2 ^ suc k - 1 ≡ 2 ^ k - 1 + 2 ^ k = rw (pow-succ' 2 k) (omega (arith, pow_pos k)) in
    rw (e, mul-add)

-- d raises from k on, the first of which costs at least t
many : (w t k d : ℕ) → t ≤ w * 2 ^ k → w * sent k + t * (d + k) ≤ w * sent (d + k) + t * k
many w t k zero h = rw zero-add (le_refl _)
many w t k (suc d) h =
    let i = many w t k d h in
    let m = mul-le-mul_left w (pow_mono {i = k} {j = d + k} (omega arith)) in
    rw (suc-add d k, one_more w (d + k)) (omega arith)

-- d raises from k on, each of which costs at most t
few : (w t k d : ℕ) → ((j : ℕ) → j < d + k → w * 2 ^ j ≤ t) → w * sent (d + k) + t * k ≤ w * sent k + t * (d + k)
few w t k zero h = rw zero-add (le_refl _)
few w t k (suc d) h =
    let i = few w t k d (λ j l. h j (omega arith)) in
    let s = h (d + k) (omega arith) in
    rw (suc-add d k, one_more w (d + k)) (omega arith)

-- with a threshold, no other exponent of an axis is better
even_best : {t : ℕ} (e : Entry) → Even t e → (k : ℕ) → 2 ^ k ≤ e.len → e.weight * sent e.exp + t * k ≤ e.weight * sent k + t * e.exp
unfolding price
even_best {t} e h k f = go (dec_le k e.exp)
  where
    go : Dec (k ≤ e.exp) → e.weight * sent e.exp + t * k ≤ e.weight * sent k + t * e.exp
    go (yes l) =
        let q : e.exp ≡ (e.exp - k) + k = omega arith in
        rw q (few e.weight t k (e.exp - k) (λ j m. h.made j (omega arith)))
    go (no l) =
        let q : k ≡ (k - e.exp) + e.exp = omega arith in
        rw q (many e.weight t e.exp (k - e.exp) (h.next (le_trans (pow_mono (omega arith)) f)))

-- what the keys of s pay, by the entries' weights
unfoldable pub paid : List Entry → List Axis → ℕ
paid [] s = 0
paid (e ∷ l) [] = 0
paid (e ∷ l) (a ∷ s) = e.weight * sent a.key + paid l s

fair_best : (t : ℕ) (l : List Entry) (s : List Axis) → Fair t l → lens s ≡ lens (axes l) → Fits s
    → paid l (axes l) + t * sum_list (keys s) ≤ paid l s + t * sum_list (keys (axes l))
unfolding Fair lens axes keys sum_list paid Fits
fair_best t [] [] f e h = le_refl _
fair_best t [] (a ∷ s) f e h = impossible (cc)
fair_best t (e ∷ l) [] f g h = impossible (cc)
fair_best t (e ∷ l) (a ∷ s) f g h =
    let u : a.len ≡ e.len = cc in
    let i = fair_best t l s f.1 (cc) h.1 in
    let b = even_best e f.0 a.key (omega arith) in
    omega arith

-- an axis may be raised
abbrev pub May : Entry → Type 0
May e = 2 ^ suc e.exp ≤ e.len

free_may : (e : Entry) → free e ≡ true → May e
unfolding free
free_may e h = leb-true _ _ h

not_free : (e : Entry) → free e ≡ false → ¬ May e
unfolding free
not_free e h = let l = leb-false (2 ^ suc e.exp) e.len h in omega arith

-- what is shown of the least price, and of a raise, by cases on the first entry
least_cases : (P : Option ℕ → Type 0) (e : Entry) (r : List Entry) → (May e → P (some (up_to (price e) (least r)))) → (¬ May e → P (least r)) → P (least (e ∷ r))
unfolding least
least_cases P e r f g = bool_cases (λ b. P (pick b (some (up_to (price e) (least r))) (least r))) (free e) (λ h. f (free_may e h)) (λ h. g (not_free e h))

pub raise_cases : (P : List Entry → Type 0) (t : ℕ) (e : Entry) (r : List Entry) → (May e → price e ≡ t → P (raised e ∷ r))
    → ((May e → price e ≡ t → ⊥) → P (e ∷ raise_at t r)) → P (raise_at t (e ∷ r))
unfolding raise_at
raise_cases P t e r f g = go (free e) (eqb (price e) t) refl refl
  where
    go : (b c : Bool) → free e ≡ b → eqb (price e) t ≡ c → P (pick (b && c) (raised e ∷ r) (e ∷ raise_at t r))
    go true true h i = f (free_may e h) (eqb-true _ _ i)
    go true false h i = g (λ m q. eqb-false _ _ i q)
    go false true h i = g (λ m q. not_free e h m)
    go false false h i = g (λ m q. not_free e h m)

-- every raise that may be made costs at least this; there is none if there is no least
unfoldable pub Above : Option ℕ → List Entry → Type 0
Above o [] = Unit {0}
Above none (e ∷ r) = (¬ May e) × Above none r
Above (some t) (e ∷ r) = (May e → t ≤ price e) × Above (some t) r

above_cons : (o : Option ℕ) (e : Entry) (r : List Entry) → ¬ May e → Above o r → Above o (e ∷ r)
unfolding Above
above_cons none e r n h = (n, h)
above_cons (some t) e r n h = (λ m. absurd (n m), h)

above_less : (x : ℕ) (o : Option ℕ) (r : List Entry) → Above o r → Above (some (up_to x o)) r
unfolding Above
above_less x none [] h = tt
above_less x (some t) [] h = tt
above_less x none (e ∷ r) h = (λ m. absurd (h.0 m), above_less x none r h.1)
above_less x (some t) (e ∷ r) h = (λ m. let b = h.0 m in omega arith, above_less x (some t) r h.1)

up_to_le : (x : ℕ) (o : Option ℕ) → up_to x o ≤ x
up_to_le x none = le_refl x
up_to_le x (some y) = omega arith

pub least_above : (l : List Entry) → Above (least l) l
unfolding Above
least_above [] = tt
least_above (e ∷ r) =
    least_cases (λ o. Above o (e ∷ r)) e r (λ m. (λ _. up_to_le _ (least r), above_less _ (least r) r (least_above r)))
    (λ n. above_cons (least r) e r n (least_above r))

-- a threshold is at most the least price
abbrev AtLeast : ℕ → Option ℕ → Type 0
AtLeast t none = Unit {0}
AtLeast t (some u) = t ≤ u

fair_least : (t : ℕ) (l : List Entry) → Fair t l → AtLeast t (least l)
unfolding Fair least
fair_least t [] f = tt
fair_least t (e ∷ r) f = least_cases (AtLeast t) e r (λ m. go (least r) (f.0.next m) (fair_least t r f.1)) (λ n. fair_least t r f.1)
  where
    go : (o : Option ℕ) → t ≤ price e → AtLeast t o → t ≤ up_to (price e) o
    go none h _ = h
    go (some u) h k = omega arith

-- a raise at the least price, and none, both keep a threshold
fair_stay : (t u : ℕ) (l : List Entry) → t ≤ u → Fair t l → Above (some u) l → Fair u l
unfolding Fair Above
fair_stay t u [] h f a = tt
fair_stay t u (e ∷ r) h f a = (record { made = λ j l. le_trans (f.0.made j l) h; next = a.0 }, fair_stay t u r h f.1 a.1)

even_raise : {t u : ℕ} (e : Entry) → t ≤ u → Even t e → price e ≡ u → Even u (raised e)
unfolding price
even_raise {t} {u} e h f q =
    record {
      made = λ j l. made j l (dec_lt j e.exp);
      next = λ l. let b = mul-le-mul_left e.weight (pow_mono {i = e.exp} {j = suc e.exp} (omega arith)) in omega arith;
    }
  where
    made : (j : ℕ) → j < suc e.exp → Dec (j < e.exp) → e.weight * 2 ^ j ≤ u
    made j l (yes i) = le_trans (f.made j i) h
    made j l (no i) = let z : j ≡ e.exp = omega arith in rw z (le_of_eq q)

fair_raise : (t u : ℕ) (l : List Entry) → t ≤ u → Fair t l → Above (some u) l → Fair u (raise_at u l)
unfolding Fair Above raise_at
fair_raise t u [] h f a = tt
fair_raise t u (e ∷ r) h f a =
    raise_cases (Fair u) u e r (λ m q. (even_raise e h f.0 q, fair_stay t u r h f.1 a.1))
    (λ n. (record { made = λ j l. le_trans (f.0.made j l) h; next = a.0 }, fair_raise t u r h f.1 a.1))

-- what every raise at the least price keeps, the planner keeps
pub greedy_keeps : (P : List Entry → Type 0) → ((t : ℕ) (l : List Entry) → least l ≡ some t → P l → P (raise_at t l)) → (n : ℕ) (l : List Entry) → P l
    → P (greedy n l)
unfolding greedy raise raise_by
greedy_keeps P k zero l h = h
greedy_keeps P k (suc n) l h = go (least (greedy n l)) refl (greedy_keeps P k n l h)
  where
    go : (o : Option ℕ) → least (greedy n l) ≡ o → P (greedy n l) → P (raise_by o (greedy n l))
    go none q p = p
    go (some t) q p = k t (greedy n l) q p

-- the planner always has a threshold
fair_greedy : (n : ℕ) (l : List Entry) → Fair 0 l → (t : ℕ) × Fair t (greedy n l)
fair_greedy n l f =
    greedy_keeps (λ x. (t : ℕ) × Fair t x)
    (λ u x q h. (u, fair_raise h.0 u x (rw q at (fair_least h.0 x h.1)) h.1 (rw q at (least_above x)))) n l (0, f)

-- no exponent is raised yet
unfoldable pub Unraised : List Entry → Type 0
Unraised [] = Unit {0}
Unraised (e ∷ r) = (e.exp ≡ 0) × Unraised r

fair_start : (l : List Entry) → Unraised l → Fair 0 l
unfolding Fair Unraised
fair_start [] u = tt
fair_start (e ∷ r) u = (record { made = λ j l. absurd (let z = u.0 in omega arith); next = λ l. zero-le }, fair_start r u.1)

total_start : (l : List Entry) → Unraised l → sum_list (keys (axes l)) ≡ 0
unfolding sum_list keys axes Unraised
total_start [] u = refl
total_start (e ∷ r) u = let z = u.0 in let i = total_start r u.1 in omega arith

-- A raise changes no length and no weight.
raise_lens : (t : ℕ) (l : List Entry) → lens (axes (raise_at t l)) ≡ lens (axes l)
unfolding raise_at lens axes
raise_lens t [] = refl
raise_lens t (e ∷ r) = raise_cases (λ x. lens (axes x) ≡ e.len ∷ lens (axes r)) t e r (λ m q. refl) (λ n. ap (λ (x : List ℕ). e.len ∷ x) (raise_lens t r))

raise_paid : (t : ℕ) (l : List Entry) (s : List Axis) → paid (raise_at t l) s ≡ paid l s
unfolding raise_at paid
raise_paid t [] s = refl
raise_paid t (e ∷ r) [] = raise_cases (λ x. paid x [] ≡ 0) t e r (λ m q. refl) (λ n. refl)
raise_paid t (e ∷ r) (a ∷ s) =
    raise_cases (λ x. paid x (a ∷ s) ≡ e.weight * sent a.key + paid r s) t e r (λ m q. refl)
    (λ n. ap (λ (x : ℕ). e.weight * sent a.key + x) (raise_paid t r s))

pub greedy_lens : (n : ℕ) (l : List Entry) → lens (axes (greedy n l)) ≡ lens (axes l)
greedy_lens n l = greedy_keeps (λ x. lens (axes x) ≡ lens (axes l)) (λ t x _ e. raise_lens t x ∙ e) n l refl

greedy_paid : (n : ℕ) (l : List Entry) (s : List Axis) → paid (greedy n l) s ≡ paid l s
greedy_paid n l s = greedy_keeps (λ x. paid x s ≡ paid l s) (λ t x _ e. raise_paid t x s ∙ e) n l refl

-- Where no axis may be raised, no exponents that fit have a larger sum.
closed_most : (l : List Entry) (s : List Axis) → Above none l → lens s ≡ lens (axes l) → Fits s → sum_list (keys s) ≤ sum_list (keys (axes l))
unfolding Above lens axes keys sum_list Fits
closed_most [] [] a e f = le_refl 0
closed_most [] (b ∷ s) a e f = impossible (cc)
closed_most (e ∷ l) [] a g f = impossible (cc)
closed_most (e ∷ l) (b ∷ s) a g f =
    let u : b.len ≡ e.len = cc in
    add-le-add (go (dec_le b.key e.exp) u) (closed_most l s a.1 (cc) f.1)
  where
    go : Dec (b.key ≤ e.exp) → b.len ≡ e.len → b.key ≤ e.exp
    go (yes h) u = h
    go (no h) u = absurd (a.0 (let q = pow_mono {i = suc e.exp} {j = b.key} (omega arith) in omega arith))

-- if the first entry is not raised, the least price is that of the others
least_tail : (t : ℕ) (e : Entry) (r : List Entry) → (May e → price e ≡ t → ⊥) → least (e ∷ r) ≡ some t → least r ≡ some t
least_tail t e r n = least_cases (λ o. o ≡ some t → least r ≡ some t) e r (λ m. go (least r) (n m)) (λ _ h. h)
  where
    go : (o : Option ℕ) → (price e ≡ t → ⊥) → some (up_to (price e) o) ≡ some t → o ≡ some t
    go none x h = absurd (x (cc))
    go (some u) x h = ap {B = Option ℕ} some (let m : min (price e) u ≡ t = cc in omega arith)

-- a raise at the least price adds one to the sum
raise_total : (t : ℕ) (l : List Entry) → least l ≡ some t → sum_list (keys (axes (raise_at t l))) ≡ suc (sum_list (keys (axes l)))
unfolding axes keys sum_list
raise_total t [] h = impossible (unfold least in cc)
raise_total t (e ∷ r) h =
    raise_cases (λ x. sum_list (keys (axes x)) ≡ suc (e.exp + sum_list (keys (axes r)))) t e r (λ m q. suc-add _ _)
    (λ n. ap (λ (x : ℕ). e.exp + x) (raise_total t r (least_tail t e r n h)) ∙ add-suc _ _)

-- The rule reaches every sum that some exponents have that fit.
greedy_total : (l : List Entry) (s : List Axis) (n : ℕ) → lens s ≡ lens (axes l) → Fits s → sum_list (keys (axes l)) ≡ 0 → n ≤ sum_list (keys s)
    → sum_list (keys (axes (greedy n l))) ≡ n
unfolding greedy raise raise_by
greedy_total l s zero e f z h = z
greedy_total l s (suc n) e f z h = go (least (greedy n l)) refl (least_above (greedy n l)) (greedy_total l s n e f z (omega arith))
  where
    go : (o : Option ℕ) → least (greedy n l) ≡ o → Above o (greedy n l) → sum_list (keys (axes (greedy n l))) ≡ n
        → sum_list (keys (axes (raise_by o (greedy n l)))) ≡ suc n
    go none q a i = absurd (let b = closed_most (greedy n l) s a (e ∙ sym (greedy_lens n l)) f in omega arith)
    go (some t) q a i = raise_total t (greedy n l) q ∙ ap suc i

-- the planner's exponents fit, if any do
raise_fits : (t : ℕ) (l : List Entry) → Fits (axes l) → Fits (axes (raise_at t l))
unfolding raise_at axes Fits
raise_fits t [] f = tt
raise_fits t (e ∷ r) f = raise_cases (λ x. Fits (axes x)) t e r (λ m q. (m, f.1)) (λ n. (f.0, raise_fits t r f.1))

start_fits : (l : List Entry) (s : List Axis) → Unraised l → lens s ≡ lens (axes l) → Fits s → Fits (axes l)
unfolding lens axes Unraised Fits
start_fits [] s u e f = tt
start_fits (e ∷ l) [] u g f = impossible (cc)
start_fits (e ∷ l) (a ∷ s) u g f =
    let q : a.len ≡ e.len = cc in
    (rw u.0 (let p = pow_pos a.key in omega arith), start_fits l s u.1 (cc) f.1)

module _ (l : List Entry) (start : Unraised l) (s : List Axis) (same : lens s ≡ lens (axes l)) (fits : Fits s) where
  pub greedy_fits : (p : ℕ) → Fits (axes (greedy p l))
  greedy_fits p = greedy_keeps (λ l. Fits (axes l)) (λ t l _. raise_fits t l) p l (start_fits l s start same fits)

  pub greedy_sum : sum_list (keys (axes (greedy (sum_list (keys s)) l))) ≡ sum_list (keys s)
  greedy_sum = greedy_total l s (sum_list (keys s)) same fits (total_start l start) (le_refl _)

  -- no exponents that fit and have the same sum cost less by weights
  pub greedy_least : paid l (axes (greedy (sum_list (keys s)) l)) ≤ paid l s
  greedy_least =
      let p = sum_list (keys s) in
      let g = greedy p l in
      let (t, h) = fair_greedy p l (fair_start l start) in
      let b = fair_best t g s h (same ∙ sym (greedy_lens p l)) fits in
      let c = greedy_paid p l (axes g) in
      let e = greedy_paid p l s in
      let d : t * sum_list (keys (axes g)) ≡ t * sum_list (keys s) = ap (λ (x : ℕ). t * x) greedy_sum in
      omega arith
