-- WHAT THE SEARCH PROMISES, FOR EVERY REQUEST THAT IS NOT REFUSED
use Prim.Native.Nat.{ℕ, ◌*◌, ◌≤◌, ◌<◌}
use mathlib.Core.Path.{◌≡◌, sym, ◌∙◌, refl, ap, subst}
use mathlib.Core.List.{List}
use lib.ListN.{length}
use Rattle.cube_spec.specs.Limits.{padded}
use Rattle.cube_spec.specs.Checks.{gives, refuses}
use Rattle.cube_spec.proofs.Answered.{gives_is, refuses_is}
use Rattle.plan_spec.specs.Plans.{moved}
use Rattle.plan_spec.specs.Rule.{power_used, plan_within}
use Rattle.link_spec.specs.declared.types.Searched.{Searched}
use Rattle.link_spec.specs.Divisions.{in_use}
use Rattle.link_spec.specs.Costs.{link_of, fare, cheapest_cost}
use Rattle.link_spec.specs.Search.{search, search_refusal, searched_of, searching}
use Rattle.link_spec.specs.Accepted.{SearchAccepted}
use Rattle.link_spec.specs.Anytime.{Anytime}
use Rattle.link_spec.proofs.Winners.{cheapest_way, cheapest_least, cheapest_attained}
use Rattle.link_spec.proofs.Listing.{listing}
use Rattle.link_spec.proofs.Deciding.{accepted, accept}
use Rattle.link_spec.proofs.Distance as distance

module _ (ds : List ℕ) (p : ℕ) (links : List ℕ) where
  pub refusal_is : (budget n : ℕ) → refuses n ≡ searching ds p links budget → n ≡ search_refusal ds p links budget
  unfolding searching
  refusal_is budget n e = refuses_is _ n _ e

  -- what is not refused is the search's
  pub found_is : (budget : ℕ) (r : Searched) → gives r ≡ searching ds p links budget → (search_refusal ds p links budget ≡ 0) × (r ≡ searched_of (search ds p links budget))
  unfolding searching
  found_is budget r e = gives_is _ _ r e

  fine : (budget : ℕ) (r : Searched) → gives r ≡ searching ds p links budget → SearchAccepted ds p links budget
  fine budget r e = accepted ds p links budget (found_is budget r e).0

  found_anytime : (budget : ℕ) → SearchAccepted ds p links budget → Anytime ds p links budget (searched_of (search ds p links budget))
  unfolding searched_of
  found_anytime budget ok =
      let (e, g) = distance.answer_division ds p links ok.lengths.some ok.each budget ok.pays in
      record {
        accepted = accept ds p links budget ok;
        listed = listing ds (power_used ds p) ok.lengths.some;
        least = λ e w. cheapest_least ds links e w;
        parents = λ e. (cheapest_way (fare links e.exponents) (length ds), cheapest_attained ds links e);
        division = e;
        exponents = ap padded (sym g);
        first = rw g (distance.first_so_far ds p links ok.lengths.some ok.each budget ok.pays);
        cost = distance.cost_of ds p links ok.lengths.some ok.each budget ok.pays ∙ ap (cheapest_cost ds links) (sym g);
        priced = unfold search in refl;
        smallest_least = λ d h. distance.smallest_le links d (rw ok.each h);
        smallest_some = rw ok.each at (distance.smallest_at links (rw ok.each ok.lengths.axes));
        early = distance.distance_some ds p links ok.lengths.some ok.each budget ok.pays;
        whole = distance.distance_none ds p links ok.lengths.some ok.each budget ok.pays;
        undercut = distance.undercut ds p links ok.lengths.some ok.each budget ok.pays;
      }

  pub anytime : (budget : ℕ) (r : Searched) → gives r ≡ searching ds p links budget → Anytime ds p links budget r
  anytime budget r e = subst (Anytime ds p links budget) (sym (found_is budget r e).1) (found_anytime budget (fine budget r e))

  -- WITH A LARGER BUDGET NEITHER THE COST NOR THE DISTANCE RISES
  module _ (b c : ℕ) (h : b ≤ c) (r s : Searched) (x : gives r ≡ searching ds p links b) (y : gives s ≡ searching ds p links c) where
    pub cost_falls : s.cost ≤ r.cost
    unfolding searched_of
    cost_falls =
        let ok = fine b r x in
        rw ((found_is b r x).1, (found_is c s y).1) (distance.cost_falls ds p links ok.lengths.some ok.each b c ok.pays h)

    pub distance_falls : s.distance ≤ r.distance
    unfolding searched_of
    distance_falls =
        let ok = fine b r x in
        rw ((found_is b r x).1, (found_is c s y).1) (distance.distance_falls ds p links ok.lengths.some ok.each b c ok.pays h)

  -- WITH ALL LINK WEIGHTS w THE WHOLE SEARCH COSTS w FOR EACH VALUE THAT THE PLANNER MOVES
  pub alike : (budget w : ℕ) (r : Searched) → gives r ≡ searching ds p links budget → ((d : ℕ) → d < length ds → link_of links d ≡ w)
      → length (in_use ds p) ≤ budget → r.cost ≡ w * moved (plan_within ds p)
  unfolding searched_of
  alike budget w r e h l =
      let ok = fine budget r e in
      rw (found_is budget r e).1 (distance.alike_all ds p links ok.lengths.some ok.each budget ok.pays w ok.lengths.axes h l)
