-- Request 9/12 for callers in C: what the cells that `campaign_search` leaves say (link_spec/Anytime).
use Prim.Native.Nat.{ℕ}
use mathlib.Core.Path.{◌≡◌, sym, ◌∙◌, ap}
use mathlib.Core.List.{List}
use contract.Lifetimes.{Lfts}
use borrow.Fn.World.{ArgsD, ResD}
use denote.Triple.Clauses.{AtExit}
use Rattle.cube_spec.specs.Checks.{gives}
use Rattle.cube_spec.proofs.Answered.{given}
use Rattle.cube_spec.proofs.Dues.{none_both}
use Rattle.link_spec.specs.declared.types.Searched.{Searched}
use Rattle.link_spec.specs.Search.{search, search_checks, search_refusal, searched_of, searching}
use Rattle.link_spec.specs.Anytime.{Anytime}
use Rattle.link_spec.proofs.Deciding.{search_numbered}
use Rattle.link_spec.proofs.Anytime.{anytime}
use Rattle.campaign_slices.specs.Lent.{lent_refusal, written_or}
use Rattle.campaign_slices.specs.Links.{cells_searched, searched_in, lent_search_refusal, lent_search}
use Rattle.campaign_slices.proofs.Linking.{read_again}
use Rattle.campaign.specs.contracts.links.campaign_search.{signature, ended}
use Rattle.campaign.proofs.links.campaign_search.Reads as reads

-- no refusal with the slice is none of the search
search_passed : (ds : List ℕ) (p : ℕ) (links : List ℕ) (budget out : ℕ) → lent_search_refusal ds p links budget out ≡ 0 → search_refusal ds p links budget ≡ 0
unfolding lent_search_refusal lent_refusal search_refusal
search_passed ds p links budget out e = (none_both (search_checks ds p links budget) _ (search_numbered ds p links budget) e).0

-- of every call of `campaign_search` with answer 0
module _ (κs : Lfts 3) (a : ArgsD signature κs) (r : ResD signature κs) (s : AtExit ended κs) (h : reads.Learnt κs a r s) (e : r ≡ 0) where
  abbrev lengths : List ℕ
  lengths = a.0.now

  abbrev p : ℕ
  p = a.1.0

  abbrev links : List ℕ
  links = a.1.1.0.now

  abbrev budget : ℕ
  budget = a.1.1.1.0

  -- the cells that it leaves
  abbrev cells : List ℕ
  cells = s.1.1.1.1.0.now

  abbrev found : Searched
  found = searched_of (search lengths p links budget)

  left : cells ≡ cells_searched found
  unfolding lent_search written_or
  left = h.1 ∙ ap (λ n. written_or n (cells_searched found) a.1.1.1.1.0.now) (sym h.0 ∙ e)

  says : gives found ≡ searching lengths p links budget
  unfolding searching
  says = given _ found (search_passed lengths p links budget _ (sym h.0 ∙ e))

  -- Statement: they hold an answer, and what the search promises of its answer holds of it.
  pub search_anytime : Anytime lengths p links budget (searched_in cells)
  search_anytime = rw (left, read_again found) (anytime lengths p links budget found says)
