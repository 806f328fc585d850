-- Laws of the cells of a search, and of its refusals with a lent slice.
use Prim.Native.Nat.{ℕ, suc, ◌+◌}
use mathlib.Core.Path.{◌≡◌, refl, ◌∙◌}
use mathlib.Core.List.{List, [], ◌∷◌, append-nil}
use native.Mathlib.Omega.{arith}
use borrow.Rule.Slice.PartMut.{put_mid}
use lib.ListN.{length, replicate, set, drop_of_length-le}
use lib.Seq.{sets, sets-eq}
use Rattle.cube_spec.specs.Checks.{gives, refuses}
use Rattle.cube_spec.specs.Limits.{axis_limit}
use Rattle.link_spec.specs.declared.types.Searched.{Searched}
use Rattle.link_spec.specs.Search.{search, search_checks, search_refusal, searched_of, searching}
use Rattle.link_spec.proofs.Deciding.{search_numbered}
use Rattle.campaign_slices.specs.Lent.{lent_refusal, written_or}
use Rattle.campaign_slices.specs.Links.{search_cells, cells_searched, searched_in, lent_search_refusal, lent_search}
use Rattle.campaign_slices.proofs.Lending as lending

pub all_cells : (s : List ℕ) (f : Searched) → length s ≡ search_cells → length f.exponents ≡ axis_limit
    → sets (set (set (set s 0 f.cost) 1 f.distance) 2 f.priced) 3 f.exponents ≡ cells_searched f
unfolding cells_searched
all_cells s f h k =
    sets-eq (f.cost ∷ f.distance ∷ f.priced ∷ f.exponents) s 0 (omega arith)
    ∙ rw (drop_of_length-le s {i = 0 + suc (suc (suc (length f.exponents)))} (omega arith), append-nil f.exponents)

pub searched_put : (f : Searched) (l : List ℕ) → length f.exponents ≡ axis_limit → l ≡ f.exponents
    → put_mid 3 8 (set (set (set (replicate search_cells 0) 0 f.cost) 1 f.distance) 2 f.priced) l ≡ cells_searched f
searched_put f l k e = lending.copied _ l f.exponents 3 8 (omega arith) e k ∙ all_cells (replicate search_cells 0) f refl k

pub cells_number : (f : Searched) → length f.exponents ≡ axis_limit → length (cells_searched f) ≡ search_cells
unfolding cells_searched
cells_number f k = omega arith

pub read_again : (f : Searched) → searched_in (cells_searched f) ≡ f
unfolding searched_in cells_searched
read_again f = refl

module _ (ds : List ℕ) (p : ℕ) (links : List ℕ) (budget : ℕ) where
  abbrev answer : Searched
  answer = searched_of (search ds p links budget)

  pub refused : (n : ℕ) → refuses n ≡ searching ds p links budget → (out : List ℕ) → (n ≡ lent_search_refusal ds p links budget (length out)) × (out ≡ lent_search ds p links budget out)
  unfolding lent_search_refusal lent_search search_refusal searching
  refused n e out = lending.not_told (search_checks ds p links budget) search_cells out answer cells_searched n e

  pub given : (f : Searched) → gives f ≡ searching ds p links budget → (r : ℕ) (out w : List ℕ) → (r ≡ lent_refusal [] search_cells (length out)) × (w ≡ written_or r (cells_searched f) out)
      → (r ≡ lent_search_refusal ds p links budget (length out)) × (w ≡ lent_search ds p links budget out)
  unfolding lent_search_refusal lent_search search_refusal searching
  given f e r out w h = lending.told (search_checks ds p links budget) search_cells out answer cells_searched (search_numbered ds p links budget) f e r w h
