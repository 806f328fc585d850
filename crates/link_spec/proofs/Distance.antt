-- What the search promises, for every budget: its answer is a division with parents that costs what it says, and no division with any parents undercuts it by more
-- than the distance.
use Prim.Native.Nat.{ℕ, zero, suc, ◌+◌, ◌-◌, ◌*◌, ◌≤◌, ◌<◌, min}
use mathlib.Core.Path.{◌≡◌, ◌∙◌, ap, sym, refl}
use mathlib.Core.List.{List, [], ◌∷◌}
use native.Mathlib.Omega.{arith}
use native.Mathlib.Decide.{dec_le}
use native.Mathlib.Nat.{le_refl, le_trans, mul-one, mul_comm, mul-le-mul_left}
use lib.Dec.{leb}
use lib.ListN.{length, get_or, take, length-take}
use lib.Seq.{get_or-take, take_all}
use borrow.Author.Tests.{leb-true, leb-false, le-leb}
use Rattle.cube_spec.specs.Boxes.{sum_n}
use Rattle.cube_spec.specs.Choices.{full_mask, length_of, cells}
use Rattle.cube_spec.specs.Tree.{sent}
use Rattle.cube_spec.specs.Ways.{Way, Division, cost_by, moved_by}
use Rattle.cube_spec.proofs.Sums.{by}
use Rattle.cube_spec.proofs.Naturals.{sum_n_cong, sum_n_le, sum_n_times_right}
use Rattle.plan_spec.specs.Plans as Plans
use Rattle.plan_spec.specs.Rule.{power_used, plan_within}
use Rattle.plan_spec.proofs.Room.{room_division}
use Rattle.plan_spec.proofs.Accepting.{used_room}
use Rattle.plan_spec.proofs.Demand.{demand}
use Rattle.link_spec.specs.Divisions.{in_use}
use Rattle.link_spec.specs.Costs.{link_of, weighted_cost, fare, cheapest_cost}
use Rattle.link_spec.specs.Search.{smallest, search}
use Rattle.link_spec.specs.Anytime.{First}
use Rattle.link_spec.proofs.Winners.{cheapest_way, cheapest_least, cheapest_attained}
use Rattle.link_spec.proofs.Listing.{listing}
use Rattle.link_spec.proofs.Cheapest.{first_cheapest_lem, more_cheaper}

-- ---- the smallest link weight

pub smallest_le : (links : List ℕ) (d : ℕ) → d < length links → smallest links ≤ link_of links d
unfolding smallest
smallest_le [] d h = absurd (omega arith)
smallest_le (w ∷ []) zero h = le_refl w
smallest_le (w ∷ []) (suc d) h = absurd (omega arith)
smallest_le (w ∷ v ∷ l) zero h = omega arith
smallest_le (w ∷ v ∷ l) (suc d) h = let i = smallest_le (v ∷ l) d (omega arith) in omega arith

pub smallest_at : (links : List ℕ) → 0 < length links → (d : ℕ) × (d < length links) × (link_of links d ≡ smallest links)
unfolding smallest
smallest_at [] h = absurd (omega arith)
smallest_at (w ∷ []) h = (0, omega arith, refl)
smallest_at (w ∷ v ∷ l) h = go (dec_le w (smallest (v ∷ l))) (smallest_at (v ∷ l) (omega arith))
  where
    go : Dec (w ≤ smallest (v ∷ l)) → (d : ℕ) × (d < length (v ∷ l)) × (link_of (v ∷ l) d ≡ smallest (v ∷ l))
        → (d : ℕ) × (d < length (w ∷ v ∷ l)) × (link_of (w ∷ v ∷ l) d ≡ min w (smallest (v ∷ l)))
    go (yes k) i = (0, omega arith, omega arith)
    go (no k) i = let (d, m, e) = i in (suc d, omega arith, e ∙ omega arith)

smallest_same : (links : List ℕ) (w : ℕ) → 0 < length links → ((d : ℕ) → d < length links → link_of links d ≡ w) → smallest links ≡ w
unfolding smallest
smallest_same [] w h e = absurd (omega arith)
smallest_same (x ∷ []) w h e = e 0 (omega arith)
smallest_same (x ∷ y ∷ l) w h e =
    let a : x ≡ w = e 0 (omega arith) in
    let b = smallest_same (y ∷ l) w (omega arith) (λ d k. e (suc d) (omega arith)) in
    omega arith

-- at a least price for every axis, a way costs at least that price for each value it moves
module _ (ds links : List ℕ) (s : ℕ) {p : ℕ} (e : Division ds p) (w : Way (length ds)) where
  values : ℕ → ℕ
  values mask = cells ds mask * sent (get_or e.exponents (w.axis mask) 0)

  moved_values : sum_n (full_mask (length ds)) values * s ≡ s * moved_by ds e w
  unfolding moved_by cost_by values
  moved_values =
      mul_comm (sum_n (full_mask (length ds)) values) s
      ∙ ap (λ (x : ℕ). s * x) (sum_n_cong (full_mask (length ds)) (λ mask l. sym (mul-one (cells ds mask * sent (get_or e.exponents (w.axis mask) 0)))))

  pub dearer : ((d : ℕ) → d < length ds → s ≤ link_of links d) → s * moved_by ds e w ≤ weighted_cost ds links e w
  unfolding weighted_cost cost_by values
  dearer h =
      rw (← moved_values, ← sum_n_times_right s (full_mask (length ds)) values)
      (sum_n_le (full_mask (length ds)) _ _ (λ mask l. mul-le-mul_left (values mask) (h (w.axis mask) (w.within mask l))))

  pub alike : ((d : ℕ) → d < length ds → link_of links d ≡ s) → weighted_cost ds links e w ≡ s * moved_by ds e w
  unfolding weighted_cost cost_by values
  alike h =
      sum_n_cong (full_mask (length ds)) (λ mask l. ap (λ (x : ℕ). values mask * x) (h (w.axis mask) (w.within mask l)))
      ∙ sum_n_times_right s (full_mask (length ds)) values ∙ moved_values

-- ---- the search, over lengths of which none is 0, with a link weight for each

module _ (ds : List ℕ) (p : ℕ) (links : List ℕ) (some : (d : ℕ) → d < length ds → 1 ≤ length_of ds d) (each : length links ≡ length ds) where
  there : 0 < length (in_use ds p)
  there =
      let (i, l, e) = (listing ds (power_used ds p) some).all (room_division ds (power_used ds p) some (used_room ds p)) in
      omega arith

  -- no division with any parents costs less than the smallest link weight for each value that the planner moves
  pub floor_cost : (e : Division ds (power_used ds p)) (w : Way (length ds)) → smallest links * Plans.moved (plan_within ds p) ≤ weighted_cost ds links e w
  floor_cost e w =
      le_trans (mul-le-mul_left (smallest links) ((demand ds (power_used ds p) some (used_room ds p)).moves_least e w))
      (dearer ds links (smallest links) e w (λ d l. smallest_le links d (rw each l)))

  module _ (budget : ℕ) (pays : 1 ≤ budget) where
    pub cost_of : (search ds p links budget).cost ≡ cheapest_cost ds links (search ds p links budget).exponents
    unfolding search
    cost_of = refl

    -- the first cheapest of the first so many
    pub first_so_far : First (cheapest_cost ds links) (take budget (in_use ds p)) (search ds p links budget).exponents
    unfolding search
    first_so_far =
        let l = length-take budget (in_use ds p) in
        let t = there in
        first_cheapest_lem (cheapest_cost ds links) (take budget (in_use ds p)) (omega arith)

    -- THE ANSWER IS A DIVISION, AND SOME PARENTS COST WHAT IT SAYS
    pub answer_division : (e : Division ds (power_used ds p)) × (e.exponents ≡ (search ds p links budget).exponents)
    answer_division =
        let f = first_so_far in
        let l = length-take budget (in_use ds p) in
        let w = f.within in
        let (e, g) = (listing ds (power_used ds p) some).each f.place (omega arith) in
        (e, g ∙ sym (get_or-take budget (in_use ds p) f.place [] (omega arith)) ∙ f.here)

    answer_attained : (e : Division ds (power_used ds p)) × (w : Way (length ds)) × (weighted_cost ds links e w ≡ (search ds p links budget).cost)
    answer_attained =
        let (e, g) = answer_division in
        (e, cheapest_way (fare links e.exponents) (length ds), cheapest_attained ds links e ∙ ap (cheapest_cost ds links) g ∙ sym cost_of)

    -- so the planner's floor is no more than it
    pub floor_answer : smallest links * Plans.moved (plan_within ds p) ≤ (search ds p links budget).cost
    floor_answer = let (e, w, c) = answer_attained in rw c at (floor_cost e w)

    -- THE DISTANCE: 0 once all are priced, and else the cost less that floor
    pub distance_none : length (in_use ds p) ≤ budget → (search ds p links budget).distance ≡ 0
    unfolding search
    distance_none h = rw (le-leb (length (in_use ds p)) budget h)

    pub distance_some : budget < length (in_use ds p) → (search ds p links budget).distance + smallest links * Plans.moved (plan_within ds p) ≡ (search ds p links budget).cost
    distance_some h =
        let f = floor_answer in
        let d = distance_less in
        omega arith
      where
        distance_less : (search ds p links budget).distance ≡ (search ds p links budget).cost - smallest links * Plans.moved (plan_within ds p)
        distance_less =
            unfold search in
            (by (leb (length (in_use ds p)) budget) (λ t. absurd (let k = leb-true (length (in_use ds p)) budget t in omega arith)) (λ t. rw t))

    -- with all priced, no division costs less
    all_least : length (in_use ds p) ≤ budget → (e : Division ds (power_used ds p)) → (search ds p links budget).cost ≤ cheapest_cost ds links e.exponents
    all_least h e =
        let (i, l, g) = (listing ds (power_used ds p) some).all e in
        let t = take_all budget (in_use ds p) h in
        let f = first_so_far in
        let c : cheapest_cost ds links (search ds p links budget).exponents ≤ cheapest_cost ds links (get_or (in_use ds p) i []) = (rw t at f).least i l in
        rw (cost_of, ← g) c

    -- NO DIVISION WITH ANY PARENTS UNDERCUTS THE ANSWER BY MORE THAN THE DISTANCE
    pub undercut : (e : Division ds (power_used ds p)) (w : Way (length ds)) → (search ds p links budget).cost ≤ weighted_cost ds links e w + (search ds p links budget).distance
    undercut e w =
        by (leb (length (in_use ds p)) budget)
        (λ t. let a = all_least (leb-true (length (in_use ds p)) budget t) e in let b = cheapest_least ds links e w in omega arith)
        (λ t. let a = distance_some (let l = leb-false (length (in_use ds p)) budget t in omega arith) in let b = floor_cost e w in omega arith)

    -- WITH ALL WEIGHTS ALIKE THE WHOLE SEARCH COSTS WHAT THE PLANNER MOVES, AT THAT WEIGHT
    pub alike_all : (s : ℕ) → 0 < length ds → ((d : ℕ) → d < length ds → link_of links d ≡ s) → length (in_use ds p) ≤ budget → (search ds p links budget).cost ≡ s * Plans.moved (plan_within ds p)
    alike_all s n h a =
        let least = demand ds (power_used ds p) some (used_room ds p) in
        let e = least.division in
        let w = least.way in
        let u = undercut e w in
        let z = distance_none a in
        let c = alike ds links s e w h in
        let m = ap (λ (x : ℕ). s * x) least.moves in
        let f = floor_answer in
        let g = ap (λ (x : ℕ). x * Plans.moved (plan_within ds p)) (smallest_same links s (omega arith) (λ d l. h d (omega arith))) in
        omega arith

  -- WITH A LARGER BUDGET NEITHER COST NOR DISTANCE RISES
  pub cost_falls : (b c : ℕ) → 1 ≤ b → b ≤ c → (search ds p links c).cost ≤ (search ds p links b).cost
  unfolding search
  cost_falls b c h k = more_cheaper (cheapest_cost ds links) b c (in_use ds p) h k there

  pub distance_falls : (b c : ℕ) → 1 ≤ b → b ≤ c → (search ds p links c).distance ≤ (search ds p links b).distance
  distance_falls b c h k =
      by (leb (length (in_use ds p)) c)
      (λ t. let z = distance_none c (omega arith) (leb-true (length (in_use ds p)) c t) in omega arith)
      (λ t.
      let l = leb-false (length (in_use ds p)) c t in
      let x = distance_some c (omega arith) (omega arith) in
      let y = distance_some b h (omega arith) in
      let z = cost_falls b c h k in
      omega arith)
