-- A refusal is 0 exactly where what Accepted says holds; and the planner's own plan is accepted.
use Prim.Native.Nat.{ℕ, ◌+◌, ◌-◌, ◌^◌, ◌≤◌, ◌<◌}
use mathlib.Core.Path.{◌≡◌, sym, ◌∙◌, refl, ap}
use mathlib.Core.Bool.{Bool, true, false, ◌||◌, not}
use mathlib.Core.List.{List, [], ◌∷◌, ◌++◌, map}
use native.Mathlib.Omega.{arith}
use native.Mathlib.Nat.{le_trans}
use native.Mathlib.Decide.{dec_le}
use borrow.Author.Tests.{eqb-true, eqb-false, eq-eqb, ltb-false, le-ltb, leb-true, le-leb, not-false}
use lib.Dec.{eqb, ltb, leb}
use lib.ListN.{length-map, length, get_or, take, drop, replicate, length-append, length-drop, length-take, length-replicate, get_or-replicate, get_or-eq_default}
use lib.Seq.{get_or-drop, get_or-take, get_or-append-add, take-take, take_at}
use Rattle.cube_spec.specs.Limits.{axis_limit, point_limit, power_limit, padded}
use Rattle.cube_spec.specs.Choices.{points, length_of}
use Rattle.cube_spec.specs.Ways.{sum_list, room}
use Rattle.cube_spec.specs.Checks.{Check, check, first}
use Rattle.cube_spec.proofs.Naturals.{clash}
use Rattle.cube_spec.proofs.Dues.{Numbered}
use Rattle.plan_spec.specs.declared.types.Plan.{Plan}
use Rattle.plan_spec.specs.Plans.{PlanLists, Sound, count, lists_of, slotted}
use Rattle.plan_spec.specs.Rule.{plan_of, power_used, plan_within}
use Rattle.plan_spec.specs.Refusals.{all, some, bad_axes, bad_length, too_many_points, too_many_boards, names_each, slots_used, bad_order, bad_exponents, length_checks, planning_checks, planning_refusal, plan_refusal}
use Rattle.plan_spec.specs.Accepted.{LengthsAccepted, PlanningAccepted, Spare, Accepted}
use Rattle.plan_spec.proofs.Judging.{some_false, some_none, all_true, all_each, first_length, good_length, length_good, good_axes, few_boards, later, plan_list, bad_order_lem, bad_exponents_lem}
use Rattle.plan_spec.proofs.Demand.{plan_sound}

-- ---- tests and lists of checks

first_none : (n : ℕ) (t : Bool) (r : List Check) → 0 < n → first (check n t ∷ r) ≡ 0 → (t ≡ false) × (first r ≡ 0)
unfolding first
first_none n true r h e = absurd (omega arith)
first_none n false r h e = (refl, e)

pub or_none : (a b : Bool) → (a || b) ≡ false → (a ≡ false) × (b ≡ false)
or_none true b e = clash e
or_none false b e = (refl, e)

few_axes : (n : ℕ) → bad_axes n ≡ false → (1 ≤ n) × (n ≤ axis_limit)
unfolding bad_axes
few_axes n e =
    let h = or_none (eqb n 0) (ltb 8 n) e in
    let ne = eqb-false n 0 h.0 in
    (omega (arith, ne), ltb-false 8 n h.1)

few_points : (ds : List ℕ) → too_many_points ds ≡ false → points ds ≤ point_limit
unfolding too_many_points
few_points ds e = ltb-false 16777216 (points ds) e

points_few : (ds : List ℕ) → points ds ≤ point_limit → too_many_points ds ≡ false
unfolding too_many_points
points_few ds h = le-ltb 16777216 (points ds) h

boards_few : (p : ℕ) → too_many_boards p ≡ false → p ≤ power_limit
unfolding too_many_boards
boards_few p e = ltb-false 10 p e

-- ---- the power used

module _ (ds : List ℕ) (p : ℕ) where
  pub used_le : power_used ds p ≤ p
  unfolding power_used
  used_le = omega arith

  pub used_room : power_used ds p ≤ room ds
  unfolding power_used
  used_room = omega arith

  -- all that is asked for, or all the room
  pub used_all : p ≤ room ds → p ≡ power_used ds p
  unfolding power_used
  used_all h = omega arith

  pub used_most : room ds < p → room ds ≡ power_used ds p
  unfolding power_used
  used_most h = omega arith

named_once : (n : ℕ) (o : List ℕ) → names_each n o ≡ true → (d : ℕ) → d < n → count d o ≡ 1
unfolding names_each
named_once n o e d h = eqb-true (count d o) 1 (all_true (λ a. eqb (count a o) 1) n e d h)

once_named : (n : ℕ) (o : List ℕ) → ((d : ℕ) → d < n → count d o ≡ 1) → names_each n o ≡ true
unfolding names_each
once_named n o h = all_each (λ a. eqb (count a o) 1) n (λ d l. eq-eqb (count d o) 1 (h d l))

-- ---- lengths

module _ (ds : List ℕ) where
  pub lengths_accepted : bad_axes (length ds) ≡ false → some bad_length ds ≡ false → too_many_points ds ≡ false → LengthsAccepted ds
  lengths_accepted a b c =
      record {
        axes = (few_axes (length ds) a).0;
        few = (few_axes (length ds) a).1;
        some = λ d h. (length_good (length_of ds d) (some_false bad_length ds b d h)).0;
        short = λ d h. (length_good (length_of ds d) (some_false bad_length ds b d h)).1;
        small = few_points ds c;
      }

  pub lengths_accept : LengthsAccepted ds → (bad_axes (length ds) ≡ false) × (some bad_length ds ≡ false) × (too_many_points ds ≡ false)
  lengths_accept ok =
      (good_axes (length ds) ok.axes ok.few, some_none bad_length ds (λ d h. good_length (length_of ds d) (ok.some d h) (ok.short d h)), points_few ds ok.small)

-- ---- planning

module _ (ds : List ℕ) (p : ℕ) where
  planning_list : planning_refusal ds p ≡ first (check 3 (bad_axes (length ds)) ∷ check 4 (some bad_length ds) ∷ check 5 (too_many_points ds) ∷ check 6 (too_many_boards p) ∷ [])
  unfolding planning_refusal planning_checks length_checks
  planning_list = refl

  pub planning_numbered : Numbered (planning_checks ds p)
  unfolding planning_checks length_checks
  planning_numbered = (omega arith, (omega arith, (omega arith, (omega arith, tt))))

  pub planning_passed : planning_refusal ds p ≡ 0 → LengthsAccepted ds × (p ≤ power_limit)
  planning_passed e =
      let a = first_none 3 (bad_axes (length ds)) (check 4 (some bad_length ds) ∷ check 5 (too_many_points ds) ∷ check 6 (too_many_boards p) ∷ []) (omega arith) (sym planning_list ∙ e) in
      let b = first_none 4 (some bad_length ds) (check 5 (too_many_points ds) ∷ check 6 (too_many_boards p) ∷ []) (omega arith) a.1 in
      let c = first_none 5 (too_many_points ds) (check 6 (too_many_boards p) ∷ []) (omega arith) b.1 in
      let d = first_none 6 (too_many_boards p) [] (omega arith) c.1 in
      (lengths_accepted ds a.0 b.0 c.0, boards_few p d.0)

  -- what passes 3 to 6 has a plan for the boards in use
  pub planning_accepted : planning_refusal ds p ≡ 0 → PlanningAccepted ds (power_used ds p)
  planning_accepted e =
      let a = planning_passed e in
      record { lengths = a.0; boards = le_trans (used_le ds p) a.1; enough = used_room ds p }

  pub planning_accept : LengthsAccepted ds → p ≤ power_limit → planning_refusal ds p ≡ 0
  unfolding first
  planning_accept ok h =
      let l = lengths_accept ds ok in
      planning_list ∙ (rw (l.0, l.1, l.2, few_boards p h))

-- ---- slots past the last axis

spare : (n : ℕ) (l : List ℕ) → slots_used n l ≡ false → Spare n l
unfolding slots_used
spare n l e d h = go (dec_le (length l) d)
  where
    go : Dec (length l ≤ d) → get_or l d 0 ≡ 0
    go (yes r) = get_or-eq_default l 0 r
    go (no r) =
        let q = length-drop n l in
        let t = some_false (λ x. not (eqb x 0)) (drop n l) e (d - n) (omega (arith, r)) in
        let z : n + (d - n) ≡ d = omega arith in
        let g : get_or (drop n l) (d - n) 0 ≡ get_or l d 0 = get_or-drop n l (d - n) 0 ∙ ap (λ i. get_or l i 0) z in
        sym g ∙ eqb-true (get_or (drop n l) (d - n) 0) 0 (not-false _ t)

unused : (n : ℕ) (l : List ℕ) → Spare n l → slots_used n l ≡ false
unfolding slots_used
unused n l h = some_none (λ x. not (eqb x 0)) (drop n l) (λ i r. ap not (eq-eqb (get_or (drop n l) i 0) 0 (get_or-drop n l i 0 ∙ h (n + i) (omega arith))))

-- ---- plans

module _ (q : Plan) (lengths : length q.lengths ≡ 8) (order : length q.order ≡ 8) (exponents : length q.exponents ≡ 8) where
  abbrev ds : List ℕ
  ds = take q.axes q.lengths

  abbrev names : Bool
  names = names_each q.axes (take q.axes q.order)

  abbrev used : List ℕ → Bool
  used slots = slots_used q.axes slots

  abbrev cut : ℕ → Bool
  cut d = leb (2 ^ get_or (take q.axes q.exponents) d 0) (length_of ds d)

  abbrev cuts : Bool
  cuts = all q.axes cut

  abbrev sums : Bool
  sums = eqb (sum_list (take q.axes q.exponents)) q.p

  pub accepted : plan_refusal q ≡ 0 → Accepted q
  unfolding lists_of
  accepted e =
      let a = first_none 3 (bad_axes q.axes) (check 4 (some bad_length ds) ∷ check 5 (too_many_points ds) ∷ later q) (omega arith) (sym (plan_list q) ∙ e) in
      let b = first_none 4 (some bad_length ds) (check 5 (too_many_points ds) ∷ later q) (omega arith) a.1 in
      let c = first_none 5 (too_many_points ds) (later q) (omega arith) b.1 in
      let d = first_none 6 (too_many_boards q.p) (check 8 (bad_order q) ∷ check 9 (bad_exponents (lists_of q)) ∷ []) (omega arith) c.1 in
      let f = first_none 8 (bad_order q) (check 9 (bad_exponents (lists_of q)) ∷ []) (omega arith) d.1 in
      let g = first_none 9 (bad_exponents (lists_of q)) [] (omega arith) f.1 in
      let few = (few_axes q.axes a.0).1 in
      let n = first_length q.lengths q.axes lengths few in
      let o = first_length q.order q.axes order few in
      let k = first_length q.exponents q.axes exponents few in
      let s = or_none (not names) (used q.lengths || (used q.order || used q.exponents)) (sym (bad_order_lem q) ∙ f.0) in
      let t = or_none (used q.lengths) (used q.order || used q.exponents) s.1 in
      let u = or_none (used q.order) (used q.exponents) t.1 in
      let v = or_none (not cuts) (not sums) (sym (bad_exponents_lem q lengths few) ∙ g.0) in
      record {
        axes = n;
        lengths = lengths_accepted ds (rw n a.0) b.0 c.0;
        boards = boards_few q.p d.0;
        sound =
            record {
              places = o ∙ sym n;
              once = λ d h. named_once q.axes (take q.axes q.order) (not-false names s.0) d (omega arith);
              cut = λ d h. leb-true _ _ (all_true cut q.axes (not-false cuts v.0) d (omega arith));
              each = k ∙ sym n;
              sums = eqb-true _ _ (not-false sums v.1);
            };
        spare_lengths = spare q.axes q.lengths t.0;
        spare_order = spare q.axes q.order u.0;
        spare_exponents = spare q.axes q.exponents u.1;
      }

  pub accept : Accepted q → plan_refusal q ≡ 0
  unfolding lists_of first
  accept ok =
      let n : length ds ≡ q.axes = ok.axes in
      let few : q.axes ≤ 8 = (let w = ok.lengths.few in omega arith) in
      let l = lengths_accept ds ok.lengths in
      let three : bad_axes q.axes ≡ false = (rw n at l.0) in
      let named = once_named q.axes (take q.axes q.order) (λ d h. ok.sound.once d (omega arith)) in
      let eight : bad_order q ≡ false =
      bad_order_lem q ∙ (rw (named, unused q.axes q.lengths ok.spare_lengths, unused q.axes q.order ok.spare_order, unused q.axes q.exponents ok.spare_exponents)) in
      let fits : cuts ≡ true = all_each cut q.axes (λ d h. le-leb _ _ (ok.sound.cut d (omega arith))) in
      let adds : sums ≡ true = eq-eqb _ _ ok.sound.sums in
      let nine : bad_exponents (lists_of q) ≡ false = bad_exponents_lem q lengths few ∙ (rw (fits, adds)) in
      plan_list q ∙ (rw (three, l.1, l.2, few_boards q.p ok.boards, eight, nine))

-- the same from what a function knows of a plan that it is passed
pub passed_accepted : (q : Plan) → length (map (λ v. v) q.lengths) ≡ 8 → length (map (λ v. v) q.order) ≡ 8 → length (map (λ v. v) q.exponents) ≡ 8 → plan_refusal q ≡ 0 → Accepted q
passed_accepted q l o k e = accepted q (rw length-map at l) (rw length-map at o) (rw length-map at k) e

-- ---- the planner's own plan

module _ (l : List ℕ) (few : length l ≤ axis_limit) where
  pub padded_length : length (padded l) ≡ 8
  unfolding padded
  padded_length =
      let a = length-take 8 (l ++ replicate 8 0) in
      let b = length-append l (replicate 8 0) in
      let c = length-replicate {A = ℕ} 8 0 in
      omega arith

  pub take_padded : take (length l) (padded l) ≡ l
  unfolding padded
  take_padded = take-take (length l) 8 (l ++ replicate 8 0) few ∙ take_at l (replicate 8 0) (length l) refl

  pub padded_spare : Spare (length l) (padded l)
  unfolding padded
  padded_spare d h = go (dec_le 8 d)
    where
      go : Dec (8 ≤ d) → get_or (padded l) d 0 ≡ 0
      go (yes r) = get_or-eq_default (padded l) 0 (let q = padded_length in omega arith)
      go (no r) =
          let z : length l + (d - length l) ≡ d = omega arith in
          (get_or-take 8 (l ++ replicate 8 0) d 0 (omega (arith, r)) ∙ ap (λ i. get_or (l ++ replicate 8 0) i 0) (sym z) ∙ get_or-append-add l (replicate 8 0) (d - length l) 0 ∙ get_or-replicate 8 (d - length l) 0 0 (omega (arith, r)))

module _ (a : PlanLists) (ok : Sound a) (few : length a.lengths ≤ axis_limit) where
  pub lists_slotted : lists_of (slotted a) ≡ a
  unfolding lists_of slotted
  lists_slotted =
      let d : take (length a.lengths) (padded a.lengths) ≡ a.lengths = take_padded a.lengths few in
      let o : take (length a.lengths) (padded a.order) ≡ a.order = (let p = ok.places in rw (← p) (take_padded a.order (omega arith))) in
      let k : take (length a.lengths) (padded a.exponents) ≡ a.exponents = (let p = ok.each in rw (← p) (take_padded a.exponents (omega arith))) in
      λ i. record { lengths = d i; order = o i; exponents = k i; p = a.p }

-- a sound plan within the limits is accepted, put into slots
pub slotted_accepted : (a : PlanLists) → LengthsAccepted a.lengths → a.p ≤ power_limit → Sound a → Accepted (slotted a)
unfolding slotted
slotted_accepted a l b ok =
    let few = l.few in
    let e = lists_slotted a ok few in
    let o = ok.places in
    let k = ok.each in
    record {
      axes = rw e;
      lengths = rw e l;
      boards = b;
      sound = rw e ok;
      spare_lengths = padded_spare a.lengths few;
      spare_order = λ d h. padded_spare a.order (omega arith) d (omega arith);
      spare_exponents = λ d h. padded_spare a.exponents (omega arith) d (omega arith);
    }

-- planning and pricing agree on the planner's own plan
rule_accepted : (ds : List ℕ) (p : ℕ) → PlanningAccepted ds p → plan_refusal (slotted (plan_of ds p)) ≡ 0
unfolding plan_of slotted
rule_accepted ds p ok =
    let sound = plan_sound ds p ok.lengths.some ok.enough in
    let o = sound.places in
    let k = sound.each in
    let few = ok.lengths.few in
    accept (slotted (plan_of ds p)) (padded_length ds few) (padded_length (plan_of ds p).order (omega arith)) (padded_length (plan_of ds p).exponents (omega arith)) (slotted_accepted (plan_of ds p) ok.lengths ok.boards sound)

pub planned_accepted : (ds : List ℕ) (p : ℕ) → planning_refusal ds p ≡ 0 → plan_refusal (slotted (plan_within ds p)) ≡ 0
planned_accepted ds p e = rule_accepted ds (power_used ds p) (planning_accepted ds p e)
