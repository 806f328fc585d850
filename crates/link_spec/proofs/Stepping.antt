-- What the code that goes from one division to the next asks, in plain variables.
use Prim.Native.Nat.{ℕ, zero, suc, ◌+◌, ◌-◌, ◌≤◌, ◌<◌, min}
use mathlib.Core.Path.{◌≡◌, ◌∙◌, ap, ap₂, sym, refl}
use mathlib.Core.Bool.{true, false, ◌&&◌}
use mathlib.Core.List.{List, [], ◌∷◌, ◌++◌, append_assoc, append-nil}
use mathlib.Core.Option.{none, some}
use native.Mathlib.Omega.{arith}
use native.Mathlib.Nat.{le_refl}
use native.Mathlib.Numerals.{add-one}
use native.Mathlib.Decide.{dec_le}
use lib.Dec.{ltb}
use lib.ListN.{length, get_or, take, drop, set, length-set, length-drop, drop_of_length-le}
use lib.Seq.{take_all, drop-cons, take-suc-set, take-suc, set_at, length-take-le}
use borrow.Author.Tests.{lt-ltb, le-ltb}
use borrow.Rule.Slice.PartMut.{put_mid}
use Rattle.cube_spec.specs.Boxes.{pick}
use Rattle.cube_spec.specs.Ways.{sum_list}
use Rattle.link_spec.specs.Stepping.{filled, raised_or, next_of, went, next_or}

-- ---- filling

most_head : (c s q : ℕ) → min c (min q (c + s) - s) ≡ min c (q - s)
most_head c s q = omega arith

most_tail : (c s q : ℕ) → min (min q (c + s)) s ≡ min q s
most_tail c s q = omega arith

-- what is asked beyond the caps is left over
filled_most : (cs : List ℕ) (q : ℕ) → filled cs (min q (sum_list cs)) ≡ filled cs q
unfolding filled sum_list
filled_most [] q = refl
filled_most (c ∷ cs) q = ap₂ (λ (x y : ℕ). x ∷ filled cs y) (most_head c (sum_list cs) q) (most_tail c (sum_list cs) q)

filled_next : (c : ℕ) (cs : List ℕ) (q : ℕ) → filled (c ∷ cs) (min q (c + sum_list cs)) ≡ min c (q - sum_list cs) ∷ filled cs (min q (sum_list cs))
unfolding filled sum_list
filled_next c cs q = filled_most (c ∷ cs) q

pub taken_left : (c s q now k : ℕ) → now ≡ q - s → k ≡ min c now → now - k ≡ q - (c + s)
taken_left c s q now k e f = omega arith

-- a list, its place j set
set_in : (l m : List ℕ) (j v : ℕ) → j < length l → set (take (j + 1) l ++ m) j v ≡ take j l ++ (v ∷ m)
set_in l m j v h =
    rw (add-one j, take-suc l j 0 h)
    (ap (λ (x : List ℕ). set x j v) (append_assoc (take j l) (get_or l j 0 ∷ []) m) ∙ set_at (take j l) (get_or l j 0) m v j (length-take-le j l (omega arith)))

-- the exponents from i on are filled, with what there is of q for them
unfoldable pub Filling : List ℕ → List ℕ → ℕ → ℕ → List ℕ → ℕ → Type 0
Filling exps caps q i out left = (out ≡ take i exps ++ filled (drop i caps) (min q (sum_list (drop i caps)))) × (left ≡ q - sum_list (drop i caps))

module _ (exps caps : List ℕ) (each : length exps ≡ length caps) where
  pub fill_start : (q : ℕ) → Filling exps caps q (length caps) exps q
  unfolding Filling
  fill_start q =
      rw (drop_of_length-le caps (le_refl (length caps))) (unfold filled sum_list in (sym (append-nil (take (length caps) exps) ∙ take_all (length caps) exps (omega arith)), omega arith))

  module _ (q i : ℕ) (out : List ℕ) (left k : ℕ) (h : i < length caps) (e : k ≡ min (get_or caps i 0) left) (f : Filling exps caps q (i + 1) out left) where
    cap : drop i caps ≡ get_or caps i 0 ∷ drop (i + 1) caps
    cap = rw add-one (drop-cons caps i 0 h)

    pub fill_turn : Filling exps caps q i (set out i k) (left - k)
    unfolding Filling sum_list
    fill_turn =
        let r = filled (drop (i + 1) caps) (min q (sum_list (drop (i + 1) caps))) in
        let m : k ≡ min (get_or caps i 0) (q - sum_list (drop (i + 1) caps)) = e ∙ ap (λ (x : ℕ). min (get_or caps i 0) x) f.1 in (
          rw (cap, f.0, filled_next (get_or caps i 0) (drop (i + 1) caps) q, ← m) (set_in exps r i k (omega arith)),
          rw cap (taken_left (get_or caps i 0) (sum_list (drop (i + 1) caps)) q left k f.1 e),
        )

  pub fill_end : (q : ℕ) (out : List ℕ) (left : ℕ) → Filling exps caps q 0 out left → out ≡ filled caps q
  unfolding Filling
  fill_end q out left f = rw (← filled_most caps q) f.0

-- ---- the next division

next_miss : (c : ℕ) (cs : List ℕ) (k : ℕ) (ks : List ℕ) → next_of cs ks ≡ none → (0 < sum_list ks → k < c → ⊥) → next_of (c ∷ cs) (k ∷ ks) ≡ none
unfolding next_of
next_miss c cs k ks e o = rw e (unfold raised_or in (go (dec_le 1 (sum_list ks))))
  where
    go : Dec (1 ≤ sum_list ks) → pick (ltb 0 (sum_list ks) && ltb k c) (some (suc k ∷ filled cs (sum_list ks - 1))) none ≡ none
    go (no h) = rw (le-ltb 0 (sum_list ks) (omega arith))
    go (yes h) = rw (lt-ltb 0 (sum_list ks) h, le-ltb k c (let q : k < c → ⊥ = o h in omega arith))

next_hit : (c : ℕ) (cs : List ℕ) (k : ℕ) (ks : List ℕ) → next_of cs ks ≡ none → 0 < sum_list ks → k < c → next_of (c ∷ cs) (k ∷ ks) ≡ some (suc k ∷ filled cs (sum_list ks - 1))
unfolding next_of raised_or
next_hit c cs k ks e h l = rw (e, lt-ltb 0 (sum_list ks) h, lt-ltb k c l)

-- what the later axes have, all have, behind the same first ones
next_front : (i : ℕ) (cs ks r : List ℕ) → i ≤ length cs → i ≤ length ks → next_of (drop i cs) (drop i ks) ≡ some r → next_of cs ks ≡ some (take i ks ++ r)
unfolding next_of raised_or
next_front zero cs ks r h l e = e
next_front (suc i) [] ks r h l e = absurd (omega arith)
next_front (suc i) (c ∷ cs) [] r h l e = absurd (omega arith)
next_front (suc i) (c ∷ cs) (k ∷ ks) r h l e = rw (next_front i cs ks r (omega arith) (omega arith) e)

sum_drop : (i : ℕ) (l : List ℕ) → sum_list (drop i l) ≤ sum_list l
unfolding sum_list
sum_drop zero l = omega arith
sum_drop (suc i) [] = omega arith
sum_drop (suc i) (x ∷ l) = let q = sum_drop i l in omega arith

-- the axes from i on have no next division, and `rest` between them
unfoldable pub Stuck : List ℕ → List ℕ → ℕ → ℕ → Type 0
Stuck exps caps i rest = (rest ≡ sum_list (drop i exps)) × (next_of (drop i caps) (drop i exps) ≡ none)

module _ (exps caps : List ℕ) (each : length exps ≡ length caps) where
  pub stuck_start : Stuck exps caps (length caps) 0
  unfolding Stuck next_of
  stuck_start =
      rw (drop_of_length-le caps (le_refl (length caps)), drop_of_length-le exps (let h : length exps ≤ length caps = omega arith in h)) (unfold sum_list in (refl, refl))

  module _ (i rest : ℕ) (h : i < length caps) (s : Stuck exps caps (i + 1) rest) where
    caps_cut : drop i caps ≡ get_or caps i 0 ∷ drop (i + 1) caps
    caps_cut = rw add-one (drop-cons caps i 0 h)

    exps_cut : drop i exps ≡ get_or exps i 0 ∷ drop (i + 1) exps
    exps_cut = rw add-one (drop-cons exps i 0 (omega arith))

    pub stuck_next : (0 < rest → get_or exps i 0 < get_or caps i 0 → ⊥) → Stuck exps caps i (rest + get_or exps i 0)
    unfolding Stuck
    stuck_next o =
        let e = s.0 in
        rw (caps_cut, exps_cut) (unfold sum_list in (omega arith, next_miss (get_or caps i 0) (drop (i + 1) caps) (get_or exps i 0) (drop (i + 1) exps) s.1 (λ p l. o (omega arith) l)))

    pub stuck_sum : rest + get_or exps i 0 ≤ sum_list exps
    unfolding Stuck
    stuck_sum =
        let e = s.0 in
        let q = sum_drop i exps in
        let c : sum_list (drop i exps) ≡ get_or exps i 0 + sum_list (drop (i + 1) exps) = (rw exps_cut (unfold sum_list in refl)) in
        omega arith

    pub raised_next : 0 < rest → get_or exps i 0 < get_or caps i 0
        → next_or exps (next_of caps exps) ≡ went true (take i exps ++ ((get_or exps i 0 + 1) ∷ filled (drop (i + 1) caps) (rest - 1)))
    unfolding Stuck next_or
    raised_next p l =
        let e = s.0 in
        let hit : next_of (drop i caps) (drop i exps) ≡ some (suc (get_or exps i 0) ∷ filled (drop (i + 1) caps) (rest - 1)) =
        (rw (caps_cut, exps_cut, e) (next_hit (get_or caps i 0) (drop (i + 1) caps) (get_or exps i 0) (drop (i + 1) exps) s.1 (omega arith) l)) in
        rw (next_front i caps exps _ (omega arith) (omega arith) hit, add-one (get_or exps i 0)) refl

  -- the axis raised and those after it filled, in place
  pub raised_put : (i k v : ℕ) (ys : List ℕ) → i < length exps → length exps ≤ i + 1 + k → put_mid (i + 1) k (set exps i v) ys ≡ take i exps ++ (v ∷ ys)
  raised_put i k v ys h l =
      let e : drop k (drop (i + 1) (set exps i v)) ≡ [] = drop_of_length-le (drop (i + 1) (set exps i v)) (let n = length-drop (i + 1) (set exps i v) in let m = length-set exps i v in omega arith) in
      ap (λ (x : List ℕ). take (i + 1) (set exps i v) ++ (ys ++ x)) e
      ∙ ap₂ (λ (x y : List ℕ). x ++ y) (ap (λ (j : ℕ). take j (set exps i v)) (add-one i) ∙ take-suc-set exps i v h) (append-nil ys)
      ∙ append_assoc (take i exps) (v ∷ []) ys

  pub stuck_end : (rest : ℕ) → Stuck exps caps 0 rest → next_or exps (next_of caps exps) ≡ went false exps
  unfolding Stuck next_or
  stuck_end rest s = rw s.1

-- ---- turns from the last axis down

pub before_last : (P : ℕ → Type 0) {i : ℕ} → 0 < i → P i → P (i - 1 + 1)
before_last P {i} h p = let e : i - 1 + 1 ≡ i = omega arith in rw e p

-- a turn that raises nothing: there is nothing to take, or no room
pub kept_on : {rest k c : ℕ} → (0 < rest → c ≤ k) → 0 < rest → k < c → ⊥
kept_on h p l = let q = h p in omega arith
