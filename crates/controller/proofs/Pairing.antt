-- Lengths as pairs of bytes, what is asked for by them, and the refusal of the controller's planning.
use Prim.Native.Nat.{ℕ, zero, suc, ◌+◌, ◌-◌, ◌*◌, ◌/◌, ◌%◌, ◌^◌, ◌≤◌, ◌<◌}
use mathlib.Core.Path.{◌≡◌, sym, ◌∙◌, refl, ap, ap₂}
use mathlib.Core.Bool.{true, false}
use mathlib.Core.List.{List, [], ◌∷◌, ◌++◌, append-nil}
use native.Mathlib.Omega.{arith}
use borrow.Author.Tests.{eq-eqb, ne_eqb, eqb-false}
use lib.Dec.{eqb}
use lib.ListN.{length, get_or, take, drop, drop_of_length-le, length-append, length-take, length-drop}
use lib.Seq.{length-take-le}
use borrow.Rule.Slice.PartMut.{put_mid}
use Rattle.std.proofs.lemmas.List.{take_at}
use Rattle.cube_spec.specs.Limits.{axis_limit, padded}
use Rattle.cube_spec.specs.Bytes.{little}
use Rattle.cube_spec.specs.Boxes.{pick, table}
use Rattle.cube_spec.specs.declared.refusals.Refusal.{Refusal}
use Rattle.cube_spec.specs.Refusals.{number_of}
use Rattle.cube_spec.specs.Checks.{check, first, gives, refuses}
use Rattle.cube_spec.proofs.Answered.{gives_is, refuses_is, given, error}
use Rattle.cube_spec.proofs.Slots.{padded_length, padded_all, padded_take}
use Rattle.cube_spec.proofs.Dues.{Numbered, first_due, first_passed, none_first, none_both, lacks, never}
use Rattle.plan_spec.specs.declared.types.Arrangement.{Arrangement}
use Rattle.plan_spec.specs.Answers.{arrangement}
use Rattle.plan_spec.specs.Rule.{order, ordered_exponents, power_used, idle_boards}
use Rattle.plan_spec.specs.Refusals.{length_checks, planning_checks, planning_refusal}
use Rattle.plan_spec.proofs.Accepting.{planning_numbered, planning_passed}
use Rattle.plan_spec.proofs.Answering.{too_many_lem}
use Rattle.plan_spec.proofs.Places.{order_length}
use Rattle.plan_spec.proofs.Chosen.{exponents_length}
use Rattle.controller.specs.declared.types.Asked.{Asked}
use Rattle.controller.specs.Bytes.{pairs, odd_bytes, asked_checks, asked_refusal, asked_of, asking, wrong_result, controller_checks, controller_refusal, written_or, written}

-- ---- pairs

pub pairs_length : (n : ℕ) (bytes : List ℕ) → length bytes ≡ n + n → length (pairs bytes) ≡ n
unfolding pairs
pairs_length zero [] e = refl
pairs_length zero (a ∷ []) e = absurd (omega arith)
pairs_length zero (a ∷ b ∷ r) e = absurd (omega arith)
pairs_length (suc n) [] e = absurd (omega arith)
pairs_length (suc n) (a ∷ []) e = absurd (omega arith)
pairs_length (suc n) (a ∷ b ∷ r) e = ap suc (pairs_length n r (omega arith))

pub pairs_at : (n : ℕ) (bytes : List ℕ) (i : ℕ) → length bytes ≡ n + n → i < n → get_or (pairs bytes) i 0 ≡ get_or bytes (i + i) 0 + 256 * get_or bytes (i + i + 1) 0
unfolding pairs little
pairs_at zero bytes i e h = absurd (omega arith)
pairs_at (suc n) [] i e h = absurd (omega arith)
pairs_at (suc n) (a ∷ []) i e h = absurd (omega arith)
pairs_at (suc n) (a ∷ b ∷ r) zero e h = omega arith
pairs_at (suc n) (a ∷ b ∷ r) (suc i) e h =
    let p : suc i + suc i ≡ suc (suc (i + i)) = omega arith in
    let q : suc i + suc i + 1 ≡ suc (suc (i + i + 1)) = omega arith in
    pairs_at n r i (omega arith) (omega arith) ∙ ap₂ (λ x y. x + 256 * y) (ap (λ k. get_or (a ∷ b ∷ r) k 0) (sym p)) (ap (λ k. get_or (a ∷ b ∷ r) k 0) (sym q))

-- all pairs, in slots
pub pairs_slots : (n : ℕ) (bytes : List ℕ) → length bytes ≡ n + n → padded (table n (λ i. get_or (pairs bytes) i 0)) ≡ padded (pairs bytes)
pairs_slots n bytes e = padded_all (pairs bytes) n (pairs_length n bytes e)

pub taken_back : (n : ℕ) (bytes slots : List ℕ) → length bytes ≡ n + n → n ≤ axis_limit → slots ≡ padded (pairs bytes) → take n slots ≡ pairs bytes
taken_back n bytes slots e fits es = ap (take n) es ∙ padded_take (pairs bytes) n (pairs_length n bytes e) fits

-- ---- what is asked for

module _ (bytes : List ℕ) (p : ℕ) where
  abbrev ds : List ℕ
  ds = pairs bytes

  pub asked_numbered : Numbered (asked_checks bytes p)
  unfolding asked_checks
  asked_numbered = (omega arith, planning_numbered ds p)

  pub asks_odd : length bytes % 2 ≡ 1 → 3 ≡ asked_refusal bytes p
  unfolding asked_refusal asked_checks first odd_bytes
  asks_odd e = rw (eq-eqb (length bytes % 2) 1 e) refl

  module _ (n : ℕ) (even : length bytes ≡ n + n) where
    -- of an even number of bytes the refusal is planning's
    pub asks_planning : planning_refusal ds p ≡ asked_refusal bytes p
    unfolding asked_refusal asked_checks planning_refusal first odd_bytes
    asks_planning = rw (ne_eqb (length bytes % 2) 1 (λ z. let q : (n + n) % 2 ≡ 1 = rw even at z in omega arith)) refl

    pub asks_many : axis_limit < n → 3 ≡ asked_refusal bytes p
    asks_many h = too_many_lem ds p (let l = pairs_length n bytes even in omega arith) ∙ asks_planning

  -- without a refusal the bytes are pairs of no more axes than there may be, and planning refuses nothing
  pub asks_none : asked_refusal bytes p ≡ 0 → planning_refusal ds p ≡ 0
  unfolding asked_refusal asked_checks planning_refusal
  asks_none z = (none_first (check 3 (odd_bytes bytes)) (planning_checks ds p) (omega arith) z).1

  pub even_bytes : asked_refusal bytes p ≡ 0 → length bytes ≡ length bytes / 2 + length bytes / 2
  unfolding asked_refusal asked_checks odd_bytes
  even_bytes z =
      let d = (none_first (check 3 (eqb (length bytes % 2) 1)) (planning_checks ds p) (omega arith) z).0 in
      let o = eqb-false (length bytes % 2) 1 d in
      omega (arith, o)

  pub few_axes : asked_refusal bytes p ≡ 0 → length bytes / 2 ≤ axis_limit
  few_axes z =
      let l = pairs_length (length bytes / 2) bytes (even_bytes z) in
      let f = (planning_passed ds p (asks_none z)).0.few in
      omega arith

module _ (bytes : List ℕ) (p : ℕ) where
  -- what is refused, and what is given
  pub asked_error : (n : Refusal) → number_of n ≡ asked_refusal bytes p → refuses (number_of n) ≡ asking bytes p
  unfolding asking
  asked_error n e = error n (asked_refusal bytes p) (asked_of (pairs bytes) p) e

  pub asked_given : asked_refusal bytes p ≡ 0 → (u i : ℕ) (slots : List ℕ) → u ≡ power_used (pairs bytes) p → i ≡ 2 ^ p - 2 ^ u → slots ≡ padded (pairs bytes)
      → gives (record { used = u; idle = i; lengths = slots }) ≡ asking bytes p
  unfolding asking idle_boards
  asked_given z u i slots eu ei es =
      let f : i ≡ 2 ^ p - 2 ^ power_used (pairs bytes) p = ei ∙ ap (λ k. 2 ^ p - 2 ^ k) eu in
      ap gives (λ j. record { used = eu j; idle = f j; lengths = es j }) ∙ given (asked_refusal bytes p) (asked_of (pairs bytes) p) z

  -- and what an answer says
  pub error_is : (n : ℕ) → refuses n ≡ asking bytes p → n ≡ asked_refusal bytes p
  unfolding asking
  error_is n e = refuses_is (asked_refusal bytes p) n (asked_of (pairs bytes) p) e

  module _ (a : Asked) (e : gives a ≡ asking bytes p) where
    pub asked_fine : asked_refusal bytes p ≡ 0
    unfolding asking
    asked_fine = (gives_is (asked_refusal bytes p) (asked_of (pairs bytes) p) a e).0

    asked_is : a ≡ asked_of (pairs bytes) p
    unfolding asking
    asked_is = (gives_is (asked_refusal bytes p) (asked_of (pairs bytes) p) a e).1

    pub used_is : a.used ≡ power_used (pairs bytes) p
    used_is = ap (λ (x : Asked). x.used) asked_is

    pub idle_is : a.idle ≡ idle_boards (pairs bytes) p
    idle_is = ap (λ (x : Asked). x.idle) asked_is

    pub lengths_are : a.lengths ≡ padded (pairs bytes)
    lengths_are = ap (λ (x : Asked). x.lengths) asked_is

-- ---- the refusal of planning over bytes

module _ (bytes : List ℕ) (p m : ℕ) where
  pub refuses_asked : (r : ℕ) → r ≡ asked_refusal bytes p → (r ≡ 0 → ⊥) → r ≡ controller_refusal bytes p m
  unfolding controller_refusal controller_checks asked_refusal
  refuses_asked r e h = e ∙ sym (first_due (asked_checks bytes p) _ (λ z. h (e ∙ z)))

  -- no refusal: none of what is asked for
  pub granted : controller_refusal bytes p m ≡ 0 → asked_refusal bytes p ≡ 0
  unfolding controller_refusal controller_checks asked_refusal
  granted z = (none_both (asked_checks bytes p) _ (asked_numbered bytes p) z).0

  module _ (fine : asked_refusal bytes p ≡ 0) (n : ℕ) (even : length bytes ≡ n + n) where
    past : controller_refusal bytes p m ≡ pick (wrong_result (pairs bytes) m) 13 0
    unfolding controller_refusal controller_checks asked_refusal first
    past = first_passed (asked_checks bytes p) (check 13 (wrong_result (pairs bytes) m) ∷ []) (asked_numbered bytes p) fine

    pub refuses_result : (m ≡ n + n → ⊥) → 13 ≡ controller_refusal bytes p m
    refuses_result h =
        let l = pairs_length n bytes even in
        let q : wrong_result (pairs bytes) m ≡ true = (unfold wrong_result in rw (l, ne_eqb m (2 * n) (λ z. h (omega arith)))) in
        sym (past ∙ (rw q))

    pub refuses_nothing : m ≡ n + n → 0 ≡ controller_refusal bytes p m
    refuses_nothing h =
        let l = pairs_length n bytes even in
        let q : wrong_result (pairs bytes) m ≡ false = (unfold wrong_result in rw (l, eq-eqb m (2 * n) (omega arith))) in
        sym (past ∙ (rw q))

-- "7 is no longer given"
pub never_controller : (bytes : List ℕ) (p m : ℕ) → controller_refusal bytes p m ≡ 7 → ⊥
unfolding controller_refusal controller_checks asked_checks planning_checks length_checks lacks
never_controller bytes p m = never 7 (controller_checks bytes p m) (omega arith) refl

-- ---- the result

pub left : (bytes : List ℕ) (p r : ℕ) (result : List ℕ) → r ≡ controller_refusal bytes p (length result) → (r ≡ 0 → ⊥) → result ≡ written bytes p result
unfolding written
left bytes p r result e h = go (controller_refusal bytes p (length result)) (λ z. h (e ∙ z))
  where
    go : (k : ℕ) → (k ≡ 0 → ⊥) → result ≡ written_or k (pairs bytes) p result
    go zero h = absurd (h refl)
    go (suc k) h = unfold written_or in refl

-- two copies, one after the other, that fill a list
module _ (res x y : List ℕ) (n : ℕ) (full : length res ≡ n + n) (long : length x ≡ n) where
  pub copied_length : length (take (length (x ++ drop n res) - n) (drop n (x ++ drop n res))) ≡ n
  copied_length = simp (length-take, length-drop, length-append) (omega arith)

  two_copies : put_mid n (length (x ++ drop n res) - n) (x ++ drop n res) y ≡ x ++ y
  two_copies =
      let d = length-drop n (x ++ drop n res) in
      let none : drop (length (x ++ drop n res) - n) (drop n (x ++ drop n res)) ≡ [] = drop_of_length-le (drop n (x ++ drop n res)) {i = length (x ++ drop n res) - n} (omega arith) in
      ap₂ ◌++◌ (take_at x (drop n res) n long) (ap (λ l. y ++ l) none ∙ append-nil y)

-- the order and the exponents of the p used, put one after the other, are what is written
module _ (bytes : List ℕ) (p u n : ℕ) (result : List ℕ) (used : u ≡ power_used (pairs bytes) p) (v : Arrangement) (l : List ℕ)
    (arranged : v ≡ arrangement l u) (same : l ≡ pairs bytes) where
  abbrev ds' : List ℕ
  ds' = pairs bytes

  ordered : v.order ≡ padded (order ds')
  unfolding arrangement
  ordered = ap (λ (w : Arrangement). w.order) arranged ∙ ap (λ x. padded (order x)) same

  cut : v.exponents ≡ padded (ordered_exponents ds' u)
  unfolding arrangement
  cut = ap (λ (w : Arrangement). w.exponents) arranged ∙ ap (λ x. padded (ordered_exponents x u)) same

  pub order_long : n ≤ axis_limit → length (take n v.order) ≡ n
  order_long fits = length-take-le n v.order (let q = padded_length (order ds') in rw ordered (omega arith))

  pub exponents_long : n ≤ axis_limit → length (take n v.exponents) ≡ n
  exponents_long fits = length-take-le n v.exponents (let q = padded_length (ordered_exponents ds' u) in rw cut (omega arith))

  pub put_both : 0 ≡ controller_refusal bytes p (length result) → length result ≡ n + n → n ≤ axis_limit → length ds' ≡ n → (x y : List ℕ) → x ≡ take n v.order → y ≡ take n v.exponents
      → put_mid n (length (x ++ drop n result) - n) (x ++ drop n result) y ≡ written bytes p result
  unfolding written written_or
  put_both z e fits en x y ex ey =
      let first' = ap (take n) ordered ∙ padded_take (order ds') n (order_length ds' ∙ en) fits in
      let second = ap (take n) cut ∙ padded_take (ordered_exponents ds' u) n (exponents_length ds' u ∙ en) fits in
      rw (← z)
      (two_copies result x y n e (ap length ex ∙ order_long fits) ∙ ap₂ ◌++◌ (ex ∙ first') (ey ∙ second) ∙ ap (λ y. order ds' ++ ordered_exponents ds' y) used)
