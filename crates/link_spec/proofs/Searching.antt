-- What the code that tries divisions one after the other asks, in plain variables.
use Prim.Native.Nat.{ℕ, zero, suc, ◌+◌, ◌-◌, ◌≤◌, ◌<◌, min}
use mathlib.Core.Path.{◌≡◌, ◌∙◌, ap, sym, refl}
use mathlib.Core.Bool.{true, false, not}
use mathlib.Core.List.{List, [], ◌∷◌, ◌++◌}
use mathlib.Core.Option.{none, some}
use native.Mathlib.Omega.{arith}
use native.Mathlib.Numerals.{add-one}
use native.Mathlib.Decide.{dec_le}
use lib.Dec.{ltb}
use lib.ListN.{length, get_or, take, drop, replicate, length-append, length-drop, length-take, get_or-replicate, get_or-append, get_or-eq_default, drop_of_length-le}
use lib.Seq.{take_all, take-suc, drop-cons, get_or-append-add, get_or-drop}
use borrow.Author.Tests.{le-leb, lt-leb, lt-ltb, le-ltb}
use Rattle.cube_spec.specs.Limits.{axis_limit, power_limit, padded}
use Rattle.cube_spec.specs.Boxes.{pick, table}
use Rattle.cube_spec.specs.Choices.{points}
use Rattle.cube_spec.specs.Ways.{sum_list, log2}
use Rattle.cube_spec.proofs.Sums.{by}
use Rattle.cube_spec.proofs.Naturals.{clash}
use Rattle.cube_spec.proofs.Tables.{table_of}
use Rattle.cube_spec.proofs.Slots.{padded_length, padded_at, padded_of, padded_take}
use Rattle.plan_spec.specs.Choosing.{Bounded}
use Rattle.plan_spec.proofs.PricingLaws.{sum_member}
use Rattle.link_spec.specs.declared.types.Tried.{Tried}
use Rattle.link_spec.specs.Divisions.{divisions}
use Rattle.link_spec.specs.Costs.{fare, cheapest_cost}
use Rattle.link_spec.specs.Search.{cheaper, first_cheapest}
use Rattle.link_spec.specs.Shares.{shares_cost, Rated}
use Rattle.link_spec.specs.Stepping.{caps_of, filled, next_of, Next, went, next_or}
use Rattle.link_spec.specs.Trying.{tried, Searchable}
use Rattle.link_spec.proofs.Listing.{at_in, in_divides, Divides}
use Rattle.link_spec.proofs.Chain.{head_or, Follows, divisions_chain}
use Rattle.link_spec.proofs.Shares.{cheapest_shares}

-- ---- slots

-- a list of n over slots that are 0 from n on
pub padded_over : (r slots : List ℕ) (n : ℕ) → length r ≡ n → n ≤ axis_limit → length slots ≡ axis_limit → ((j : ℕ) → n ≤ j → get_or slots j 0 ≡ 0) → r ++ drop n slots ≡ padded r
padded_over r slots n e h l z = padded_of r (r ++ drop n slots) (length-append r (drop n slots) ∙ (let d = length-drop n slots in omega arith)) at
  where
    at : (j : ℕ) → j < axis_limit → get_or (r ++ drop n slots) j 0 ≡ get_or r j 0
    at j k = go (dec_le (suc j) n)
      where
        go : Dec (suc j ≤ n) → get_or (r ++ drop n slots) j 0 ≡ get_or r j 0
        go (yes b) = get_or-append r (drop n slots) 0 j (omega arith)
        go (no b) =
            let q : j ≡ length r + (j - n) = omega arith in
            let s : n + (j - n) ≡ j = omega arith in
            ap (λ (x : ℕ). get_or (r ++ drop n slots) x 0) q
            ∙ get_or-append-add r (drop n slots) (j - n) 0
            ∙ get_or-drop n slots (j - n) 0
            ∙ ap (λ (x : ℕ). get_or slots x 0) s
            ∙ z j (omega arith)
            ∙ sym (get_or-eq_default r 0 (omega arith))

pub padded_spare : (l : List ℕ) (n : ℕ) → length l ≡ n → n ≤ axis_limit → (j : ℕ) → n ≤ j → get_or (padded l) j 0 ≡ 0
padded_spare l n e h j k = go (dec_le (suc j) axis_limit)
  where
    go : Dec (suc j ≤ axis_limit) → get_or (padded l) j 0 ≡ 0
    go (yes b) = padded_at l j b ∙ get_or-eq_default l 0 (omega arith)
    go (no b) = get_or-eq_default (padded l) 0 (let q = padded_length l in omega arith)

pub zeros_spare : (j : ℕ) → ◌≡◌ {A = ℕ} (get_or (replicate 8 0) j 0) 0
zeros_spare j = go (dec_le (suc j) 8)
  where
    go : Dec (suc j ≤ 8) → ◌≡◌ {A = ℕ} (get_or (replicate 8 0) j 0) 0
    go (yes b) = get_or-replicate 8 j 0 0 b
    go (no b) = get_or-eq_default (replicate 8 0) 0 {n = j} (omega arith)

-- the caps, by axis
pub caps_length : (ds : List ℕ) → length (caps_of ds) ≡ length ds
unfolding caps_of
caps_length [] = refl
caps_length (d ∷ ds) = ap suc (caps_length ds)

caps_at : (ds : List ℕ) (i : ℕ) → i < length ds → get_or (caps_of ds) i 0 ≡ log2 (get_or ds i 0)
unfolding caps_of
caps_at [] i h = absurd (omega arith)
caps_at (d ∷ ds) zero h = refl
caps_at (d ∷ ds) (suc i) h = caps_at ds i (omega arith)

pub caps_table : (ds : List ℕ) → caps_of ds ≡ table (length ds) (λ d. log2 (get_or ds d 0))
caps_table ds = table_of (length ds) (λ d. log2 (get_or ds d 0)) (caps_of ds) 0 (caps_length ds) (λ j k. caps_at ds j k)

-- ---- one more

cheaper_more : (cost : List ℕ → ℕ) (b e : List ℕ) (l : List (List ℕ)) → cheaper cost b (l ++ (e ∷ [])) ≡ pick (ltb (cost e) (cost (cheaper cost b l))) e (cheaper cost b l)
unfolding cheaper
cheaper_more cost b e [] = refl
cheaper_more cost b e (x ∷ l) = cheaper_more cost (pick (ltb (cost x) (cost b)) x b) e l

first_more : (cost : List ℕ → ℕ) (l : List (List ℕ)) (e : List ℕ) → 0 < length l → first_cheapest cost (l ++ (e ∷ [])) ≡ pick (ltb (cost e) (cost (first_cheapest cost l))) e (first_cheapest cost l)
unfolding first_cheapest
first_more cost [] e h = absurd (omega arith)
first_more cost (x ∷ l) e h = cheaper_more cost x e l

pub first_one : (cost : List ℕ → ℕ) (l : List (List ℕ)) → 0 < length l → first_cheapest cost (take 1 l) ≡ get_or l 0 []
unfolding first_cheapest cheaper
first_one cost [] h = absurd (omega arith)
first_one cost (x ∷ l) h = refl

pub first_next : (cost : List ℕ → ℕ) (l : List (List ℕ)) (i : ℕ) → 0 < i → i < length l
    → first_cheapest cost (take (i + 1) l) ≡ pick (ltb (cost (get_or l i [])) (cost (first_cheapest cost (take i l)))) (get_or l i []) (first_cheapest cost (take i l))
first_next cost l i h k = rw (add-one i, take-suc l i [] k) (first_more cost (take i l) (get_or l i []) (let q = length-take i l in omega arith))

-- ---- from one to the next

follows_at : (cs : List ℕ) (l : List (List ℕ)) → Follows cs l none → (i : ℕ) → i < length l → next_of cs (get_or l i []) ≡ head_or (drop (suc i) l) none
unfolding Follows
follows_at cs [] f i h = absurd (omega arith)
follows_at cs (e ∷ l) f zero h = f.0
follows_at cs (e ∷ l) f (suc i) h = follows_at cs l f.1 i (omega arith)

head_some : (l : List (List ℕ)) (i : ℕ) → i < length l → head_or (drop i l) none ≡ some (get_or l i [])
unfolding head_or
head_some l i h = rw (drop-cons l i [] h)

head_none : (l : List (List ℕ)) (i : ℕ) → length l ≤ i → head_or (drop i l) none ≡ none
unfolding head_or
head_none l i h = rw (drop_of_length-le l h)

head_first : (l : List (List ℕ)) (e : List ℕ) → head_or l none ≡ some e → (0 < length l) × (get_or l 0 [] ≡ e)
unfolding head_or
head_first [] e h = absurd (let x : ◌≡◌ {A = ℕ} 0 1 = cc in omega arith)
head_first (x ∷ l) e h = (omega arith, cc)

-- ---- the search

module _ (ds links : List ℕ) (q : ℕ) (ok : Searchable ds links q) where
  -- all divisions, and what each costs
  abbrev all : List (List ℕ)
  all = divisions ds q

  abbrev cost : List ℕ → ℕ
  cost = cheapest_cost ds links

  few : length ds ≤ axis_limit
  few = ok.lengths.few

  -- the first, and each from the one before
  chain : (head_or (divisions ds q) none ≡ some (filled (caps_of ds) q)) × Follows (caps_of ds) (divisions ds q) none
  chain = divisions_chain ds q ok.lengths.some ok.enough

  pub there : 0 < length all
  there = (head_first (divisions ds q) (filled (caps_of ds) q) chain.0).0

  first_is : get_or all 0 [] ≡ filled (caps_of ds) q
  first_is = (head_first (divisions ds q) (filled (caps_of ds) q) chain.0).1

  divides_at : (i : ℕ) → i < length all → Divides ds q (get_or all i [])
  divides_at i h = in_divides ds q ok.lengths.some (at_in (divisions ds q) i [] h)

  each_at : (i : ℕ) → i < length all → length (get_or all i []) ≡ length ds
  each_at i h = (divides_at i h).each

  pub lens_bounded : Bounded (λ d. get_or ds d 0) (length ds)
  lens_bounded = record { few = few; some = ok.lengths.some; short = ok.lengths.short; small = unfold points in ok.lengths.small }

  -- exponents in slots
  module _ (i : ℕ) (at : List ℕ) (h : i < length all) (e : at ≡ padded (get_or all i [])) where
    at_takes : take (length ds) at ≡ get_or all i []
    at_takes = rw e (padded_take (get_or all i []) (length ds) (each_at i h) few)

    pub at_length : length (take (length ds) at) ≡ length ds
    at_length = rw at_takes (each_at i h)

    pub at_sums : sum_list (take (length ds) at) ≤ power_limit
    at_sums =
        let d = (divides_at i h).sums in
        let b = ok.boards in
        rw at_takes (omega arith)

    pub at_rated : Rated (take (length ds) at) links (length ds)
    at_rated =
        rw at_takes
        (record {
          few = few;
          cut = λ d k. let l = sum_member (get_or all i []) d in let t = (divides_at i h).sums in let b = ok.boards in omega arith;
          low = ok.low;
        })

    pub at_cost : shares_cost (λ d. get_or ds d 0) (fare links (take (length ds) at)) (length ds) ≡ cost (get_or all i [])
    at_cost = rw at_takes (sym (cheapest_shares ds links (get_or all i [])))

  -- caps in slots
  module _ (caps : List ℕ) (capped : caps ≡ padded (caps_of ds)) where
    caps_are : take (length ds) caps ≡ caps_of ds
    caps_are = rw capped (padded_take (caps_of ds) (length ds) (caps_length ds) few)

    pub caps_each : length (take (length ds) caps) ≡ length ds
    caps_each = rw caps_are (caps_length ds)

    -- the first division, filled into empty slots
    pub start : (at : List ℕ) → at ≡ filled (take (length ds) caps) q ++ drop (length ds) (replicate 8 0) → at ≡ padded (get_or all 0 [])
    start at e = e ∙ (rw (caps_are, ← first_is) (padded_over (get_or all 0 []) (replicate 8 0) (length ds) (each_at 0 there) few refl (λ j k. zeros_spare j)))

    module _ (i : ℕ) (at : List ℕ) (h : i < length all) (e : at ≡ padded (get_or all i [])) where
      next_is : next_of (take (length ds) caps) (take (length ds) at) ≡ head_or (drop (suc i) all) none
      next_is = rw (caps_are, at_takes i at h e) (follows_at (caps_of ds) (divisions ds q) chain.1 i h)

      -- the next one
      pub next_some : suc i < length all → next_or (take (length ds) at) (next_of (take (length ds) caps) (take (length ds) at)) ≡ went true (get_or all (suc i) [])
      unfolding next_or
      next_some k = rw (next_is, head_some all (suc i) k) refl

      pub next_none : length all ≤ suc i → next_or (take (length ds) at) (next_of (take (length ds) caps) (take (length ds) at)) ≡ went false (take (length ds) at)
      unfolding next_or
      next_none k = rw (next_is, head_none all (suc i) k) refl

      -- in slots again
      pub next_slots : suc i < length all → (to : List ℕ) → to ≡ get_or all (suc i) [] ++ drop (length ds) at → to ≡ padded (get_or all (suc i) [])
      next_slots k to f =
          f
          ∙ rw e (padded_over (get_or all (suc i) []) (padded (get_or all i [])) (length ds) (each_at (suc i) k) few (padded_length (get_or all i [])) (padded_spare (get_or all i []) (length ds) (each_at i h) few))

-- ---- turns

-- so many are priced: where the search stands, and what it has found
pub record Trying (all : List (List ℕ)) (cost : List ℕ → ℕ) (budget : ℕ) (at best : List ℕ) (least priced : ℕ) : Type 0 where
  pub some : 1 ≤ priced
  pub bought : priced ≤ budget
  pub there : priced ≤ length all
  pub now : at ≡ padded (get_or all (priced - 1) [])
  pub kept : best ≡ padded (first_cheapest cost (take priced all))
  pub cheap : least ≡ cost (first_cheapest cost (take priced all))

module _ (all : List (List ℕ)) (cost : List ℕ → ℕ) (budget : ℕ) where
  pub trying_start : (at : List ℕ) (least : ℕ) → 1 ≤ budget → 0 < length all → at ≡ padded (get_or all 0 []) → least ≡ cost (get_or all 0 []) → Trying all cost budget at at least 1
  trying_start at least b l e f =
      record { some = omega arith; bought = b; there = l; now = e; kept = rw (first_one cost all l) e; cheap = rw (first_one cost all l) f }

  module _ (at best : List ℕ) (least priced : ℕ) (t : Trying all cost budget at best least priced) (b : priced < budget) (l : priced < length all)
      (to : List ℕ) (c : ℕ) (e : to ≡ padded (get_or all priced [])) (f : c ≡ cost (get_or all priced [])) where
    last_one : priced ≡ priced + 1 - 1
    last_one = omega arith

    more : first_cheapest cost (take (priced + 1) all) ≡ pick (ltb (cost (get_or all priced [])) (cost (first_cheapest cost (take priced all)))) (get_or all priced []) (first_cheapest cost (take priced all))
    more = first_next cost all priced t.some l

    pub trying_takes : c < least → Trying all cost budget to to c (priced + 1)
    trying_takes h =
        let g = t.cheap in
        let w : first_cheapest cost (take (priced + 1) all) ≡ get_or all priced [] = more ∙ (rw (lt-ltb (cost (get_or all priced [])) (cost (first_cheapest cost (take priced all))) (omega arith))) in
        record { some = omega arith; bought = omega arith; there = omega arith; now = rw (← last_one) e; kept = rw w e; cheap = rw w f }

    pub trying_passes : least ≤ c → Trying all cost budget to best least (priced + 1)
    trying_passes h =
        let g = t.cheap in
        let w : first_cheapest cost (take (priced + 1) all) ≡ first_cheapest cost (take priced all) =
        more ∙ (rw (le-ltb (cost (get_or all priced [])) (cost (first_cheapest cost (take priced all))) (omega arith))) in
        record { some = omega arith; bought = omega arith; there = omega arith; now = rw (← last_one) e; kept = rw w t.kept; cheap = rw w t.cheap }

module _ (ds links : List ℕ) (q budget : ℕ) (at best : List ℕ) (least priced : ℕ)
    (t : Trying (divisions ds q) (cheapest_cost ds links) budget at best least priced) where
  -- all are priced
  pub tried_all : length (divisions ds q) ≤ priced → ◌≡◌ {A = Tried} (record { exponents = best; cost = least; priced = priced; all = true }) (tried ds q links budget)
  unfolding tried
  tried_all h =
      let b = t.bought in
      let l = t.there in
      let m : min budget (length (divisions ds q)) ≡ priced = omega arith in
      let w : take budget (divisions ds q) ≡ take priced (divisions ds q) = take_all budget (divisions ds q) (omega arith) ∙ sym (take_all priced (divisions ds q) h) in
      rw (w, m, le-leb (length (divisions ds q)) budget (omega arith), ← t.kept, ← t.cheap)

  -- the budget is spent
  pub tried_some : budget ≤ priced → priced < length (divisions ds q) → ◌≡◌ {A = Tried} (record { exponents = best; cost = least; priced = priced; all = false }) (tried ds q links budget)
  unfolding tried
  tried_some h k =
      let b = t.bought in
      let e : budget ≡ priced = omega arith in
      let m : min priced (length (divisions ds q)) ≡ priced = omega arith in
      rw (e, m, lt-leb (length (divisions ds q)) priced k, ← t.kept, ← t.cheap)

-- ---- the same in the code's terms

-- where the search stands, with what it goes by
pub record Turn (ds links : List ℕ) (q : ℕ) (caps : List ℕ) (budget : ℕ) (at best : List ℕ) (least priced : ℕ) : Type 0 where
  pub ok : Searchable ds links q
  pub capped : caps ≡ padded (caps_of ds)
  pub state : Trying (divisions ds q) (cheapest_cost ds links) budget at best least priced

-- the first division, filled into empty slots
module _ {ds links : List ℕ} {q : ℕ} (ok : Searchable ds links q) {caps : List ℕ} (capped : caps ≡ padded (caps_of ds))
    {at : List ℕ} (e : at ≡ filled (take (length ds) caps) q ++ drop (length ds) (replicate 8 0)) where
  begun : at ≡ padded (get_or (divisions ds q) 0 [])
  begun = start ds links q ok caps capped at e

  pub starts_rated : (length (take (length ds) at) ≡ length ds) × Rated (take (length ds) at) links (length ds) × Bounded (λ d. get_or ds d 0) (length ds)
  starts_rated = let t = there ds links q ok in (at_length ds links q ok 0 at t begun, at_rated ds links q ok 0 at t begun, lens_bounded ds links q ok)

  pub starts : {budget least : ℕ} → 1 ≤ budget → least ≡ shares_cost (λ d. get_or ds d 0) (fare links (take (length ds) at)) (length ds)
      → Turn ds links q caps budget at at least 1
  starts {budget} {least} b c =
      let t = there ds links q ok in
      let s = trying_start (divisions ds q) (cheapest_cost ds links) budget at least b t begun (c ∙ at_cost ds links q ok 0 at t begun) in
      record { ok = ok; capped = capped; state = s }

-- a turn finds the next one, or there is none
module _ {ds links : List ℕ} {q : ℕ} {caps : List ℕ} {budget : ℕ} {at best : List ℕ} {least priced : ℕ} (t : Turn ds links q caps budget at best least priced) where
  abbrev every : List (List ℕ)
  every = divisions ds q

  spot : priced - 1 < length every
  spot =
      let a = t.state.some in
      let b = t.state.there in
      omega arith

  pub turn_places : length (take (length ds) at) ≡ length (take (length ds) caps)
  turn_places = at_length ds links q t.ok (priced - 1) at spot t.state.now ∙ sym (caps_each ds links q t.ok caps t.capped)

  pub turn_sums : sum_list (take (length ds) at) ≤ power_limit
  turn_sums = at_sums ds links q t.ok (priced - 1) at spot t.state.now

  module _ (r : Next) (e : r ≡ next_or (take (length ds) at) (next_of (take (length ds) caps) (take (length ds) at))) where
    turn_finds : priced < length every → (r.found ≡ true) × (r.exponents ≡ get_or every priced [])
    turn_finds h =
        let a = t.state.some in
        let p : suc (priced - 1) ≡ priced = omega arith in
        let z = e ∙ next_some ds links q t.ok caps t.capped (priced - 1) at spot t.state.now (omega arith) in
        (ap (λ (x : Next). x.found) z, ap (λ (x : Next). x.exponents) z ∙ ap (λ (i : ℕ). get_or every i []) p)

    turn_misses : length every ≤ priced → r.found ≡ false
    turn_misses h =
        let a = t.state.some in
        ap (λ (x : Next). x.found) (e ∙ next_none ds links q t.ok caps t.capped (priced - 1) at spot t.state.now (omega arith))

    -- so a test of what was found tells
    found_one : r.found ≡ true → priced < length every
    found_one f = go (dec_le (suc priced) (length every))
      where
        go : Dec (suc priced ≤ length every) → priced < length every
        go (yes h) = h
        go (no h) = clash (sym f ∙ turn_misses (omega arith))

    found_none : r.found ≡ false → length every ≤ priced
    found_none f = go (dec_le (length every) priced)
      where
        go : Dec (length every ≤ priced) → length every ≤ priced
        go (yes h) = h
        go (no h) = clash (sym (turn_finds (omega arith)).0 ∙ f)

    -- the end: none is left, or the budget is spent and one more look says whether any is
    pub turn_ends : r.found ≡ false → ◌≡◌ {A = Tried} (record { exponents = best; cost = least; priced = priced; all = true }) (tried ds q links budget)
    turn_ends f = tried_all ds links q budget at best least priced t.state (found_none f)

    pub last_look : priced ≡ budget → ◌≡◌ {A = Tried} (record { exponents = best; cost = least; priced = budget; all = not r.found }) (tried ds q links budget)
    last_look e =
        ap (λ (x : ℕ). record { exponents = best; cost = least; priced = x; all = not r.found }) (sym e)
        ∙ by r.found (λ f. rw f (tried_some ds links q budget at best least priced t.state (let h : budget ≤ priced = omega arith in h) (found_one f)))
        (λ f. rw f (turn_ends f))

    module _ (f : r.found ≡ true) (to : List ℕ) (u : to ≡ r.exponents ++ drop (length ds) at) where
      reached : to ≡ padded (get_or every priced [])
      reached =
          let a = t.state.some in
          let p : suc (priced - 1) ≡ priced = omega arith in
          let l = found_one f in
          let h = u ∙ ap (λ (x : List ℕ). x ++ drop (length ds) at) ((turn_finds l).1 ∙ ap (λ (i : ℕ). get_or every i []) (sym p)) in
          next_slots ds links q t.ok caps t.capped (priced - 1) at spot t.state.now (omega arith) to h ∙ ap (λ (i : ℕ). padded (get_or every i [])) p

      pub turn_rated : (length (take (length ds) to) ≡ length ds) × Rated (take (length ds) to) links (length ds) × Bounded (λ d. get_or ds d 0) (length ds)
      turn_rated =
          (at_length ds links q t.ok priced to (found_one f) reached, at_rated ds links q t.ok priced to (found_one f) reached, lens_bounded ds links q t.ok)

      module _ (b : priced < budget) (c : ℕ) (g : c ≡ shares_cost (λ d. get_or ds d 0) (fare links (take (length ds) to)) (length ds)) where
        costs : c ≡ cheapest_cost ds links (get_or every priced [])
        costs = g ∙ at_cost ds links q t.ok priced to (found_one f) reached

        goes_on : {best' : List ℕ} {least' : ℕ} → Trying every (cheapest_cost ds links) budget to best' least' (priced + 1)
            → Turn ds links q caps budget to best' least' (priced + 1)
        goes_on s = record { ok = t.ok; capped = t.capped; state = s }

        pub turn_takes : {best' : List ℕ} {least' : ℕ} → c < least → best' ≡ to → least' ≡ c → Turn ds links q caps budget to best' least' (priced + 1)
        turn_takes h x y =
            goes_on
            (rw (x, y) (trying_takes every (cheapest_cost ds links) budget at best least priced t.state b (found_one f) to c reached costs h))

        pub turn_passes : {best' : List ℕ} {least' : ℕ} → least ≤ c → best' ≡ best → least' ≡ least → Turn ds links q caps budget to best' least' (priced + 1)
        turn_passes h x y =
            goes_on
            (rw (x, y) (trying_passes every (cheapest_cost ds links) budget at best least priced t.state b (found_one f) to c reached costs h))
