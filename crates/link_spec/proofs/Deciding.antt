-- The refusals of the search, test by test, and what is left when none is due.
use Prim.Native.Nat.{ℕ, ◌+◌, ◌≤◌, ◌<◌}
use mathlib.Core.Path.{◌≡◌, ◌∙◌, sym}
use mathlib.Core.Bool.{Bool, true, false, not}
use mathlib.Core.List.{List, [], ◌∷◌}
use native.Mathlib.Omega.{arith}
use native.Mathlib.Nat.{pos_of_ne-zero}
use native.Mathlib.Numerals.{add-one}
use lib.Dec.{eqb, ltb}
use lib.ListN.{length, get_or, drop, drop_of_length-le}
use lib.Seq.{drop-cons}
use borrow.Author.Tests.{eq-eqb, ne_eqb, eqb-true, eqb-false, le-ltb, ltb-false, not-false}
use Rattle.cube_spec.specs.Checks.{Check, check, first}
use Rattle.cube_spec.proofs.Dues.{Numbered, numbered_both, first_due, first_passed, none_first, none_both}
use Rattle.plan_spec.specs.Refusals.{some, planning_checks, planning_refusal}
use Rattle.plan_spec.proofs.Judging.{some_false, some_none}
use Rattle.plan_spec.proofs.Accepting.{or_none, planning_numbered, planning_passed, planning_accept}
use Rattle.link_spec.specs.Costs.{link_of}
use Rattle.link_spec.specs.Search.{link_limit, bad_link, bad_links, search_checks, search_refusal}
use Rattle.link_spec.specs.Accepted.{SearchAccepted}

-- ---- link weights
pub link_good : (w : ℕ) → (w ≡ 0 → ⊥) → w ≤ link_limit → bad_link w ≡ false
unfolding bad_link
link_good w z h = rw (ne_eqb w 0 z, le-ltb link_limit w h)

good_link : (w : ℕ) → bad_link w ≡ false → (1 ≤ w) × (w ≤ link_limit)
unfolding bad_link
good_link w e =
    let o = or_none (eqb w 0) (ltb link_limit w) e in
    (pos_of_ne-zero (eqb-false w 0 o.0), ltb-false link_limit w o.1)

-- a list tested from place i on
module _ (f : ℕ → Bool) (l : List ℕ) (i : ℕ) (h : i < length l) where
  pub some_here : f (get_or l i 0) ≡ true → some f (drop i l) ≡ true
  unfolding some
  some_here t = rw (drop-cons l i 0 h, t)

  pub some_on : f (get_or l i 0) ≡ false → some f (drop i l) ≡ some f (drop (i + 1) l)
  unfolding some
  some_on t = rw (drop-cons l i 0 h, t, add-one i)

pub some_past : (f : ℕ → Bool) (l : List ℕ) (i : ℕ) → length l ≤ i → some f (drop i l) ≡ false
unfolding some
some_past f l i h = rw (drop_of_length-le l h)

-- one for each axis, each in range
module _ (n : ℕ) (links : List ℕ) where
  pub links_each : length links ≡ n → (t : Bool) → t ≡ some bad_link links → t ≡ bad_links n links
  unfolding bad_links
  links_each h t e = rw (eq-eqb (length links) n h) e

  good_links : bad_links n links ≡ false → (length links ≡ n) × (some bad_link links ≡ false)
  unfolding bad_links
  good_links e =
      let o = or_none (not (eqb (length links) n)) (some bad_link links) e in
      (eqb-true (length links) n (not-false _ o.0), o.1)

-- ---- the list: what planning refuses, then 18 and 19

module _ (ds : List ℕ) (p : ℕ) (links : List ℕ) (budget : ℕ) where
  abbrev ours : List Check
  ours = check 18 (eqb budget 0) ∷ check 19 (bad_links (length ds) links) ∷ []

  pub search_numbered : Numbered (search_checks ds p links budget)
  unfolding search_checks
  search_numbered = numbered_both (planning_checks ds p) ours (planning_numbered ds p) (omega arith, (omega arith, tt))

  pub refuses_planning : (k : ℕ) → k ≡ planning_refusal ds p → (k ≡ 0 → ⊥) → k ≡ search_refusal ds p links budget
  unfolding search_refusal search_checks planning_refusal
  refuses_planning k e h = e ∙ sym (first_due (planning_checks ds p) ours (λ z. h (e ∙ z)))

  module _ (z : planning_refusal ds p ≡ 0) where
    from_18 : search_refusal ds p links budget ≡ first ours
    unfolding search_refusal search_checks planning_refusal
    from_18 = first_passed (planning_checks ds p) ours (planning_numbered ds p) z

    pub refuses_budget : budget ≡ 0 → 18 ≡ search_refusal ds p links budget
    unfolding first
    refuses_budget h = sym (from_18 ∙ (rw (eq-eqb budget 0 h)))

    module _ (pays : budget ≡ 0 → ⊥) where
      pub refuses_links : bad_links (length ds) links ≡ true → 19 ≡ search_refusal ds p links budget
      unfolding first
      refuses_links h = sym (from_18 ∙ (rw (ne_eqb budget 0 pays, h)))

      pub refuses_nothing : bad_links (length ds) links ≡ false → search_refusal ds p links budget ≡ 0
      unfolding first
      refuses_nothing h = from_18 ∙ (rw (ne_eqb budget 0 pays, h))

  pub accepted : search_refusal ds p links budget ≡ 0 → SearchAccepted ds p links budget
  unfolding search_refusal search_checks planning_refusal
  accepted e =
      let both = none_both (planning_checks ds p) ours (planning_numbered ds p) e in
      let a = planning_passed ds p both.0 in
      let b = none_first (check 18 (eqb budget 0)) (check 19 (bad_links (length ds) links) ∷ []) (omega arith) both.1 in
      let c = none_first (check 19 (bad_links (length ds) links)) [] (omega arith) b.1 in
      let k = good_links (length ds) links c.0 in
      let range : (d : ℕ) → d < length ds → (1 ≤ link_of links d) × (link_of links d ≤ link_limit) = λ d h. good_link (link_of links d) (some_false bad_link links k.1 d (rw k.0 h)) in
      record {
        lengths = a.0;
        boards = a.1;
        pays = pos_of_ne-zero (eqb-false budget 0 b.0);
        each = k.0;
        positive = λ d h. (range d h).0;
        most = λ d h. (range d h).1;
      }

  pub accept : SearchAccepted ds p links budget → search_refusal ds p links budget ≡ 0
  accept ok =
      let none = planning_accept ds p ok.lengths ok.boards in
      refuses_nothing none (λ z. let h = ok.pays in omega arith) (sym (links_each (length ds) links ok.each false (sym good)))
    where
      good : some bad_link links ≡ false
      good = some_none bad_link links (λ d h. let l : d < length ds = rw (← ok.each) h in link_good (link_of links d) (λ z. let q = ok.positive d l in omega arith) (ok.most d l))
