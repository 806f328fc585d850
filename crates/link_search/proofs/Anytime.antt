-- What every call of `search_links` that is not refused promises, by what its caller learns.
use Rattle.std.specs.Prelude.{◌≡◌, Ok}
use mathlib.Core.Path.{sym, ◌∙◌, ap}
use contract.Lifetimes.{Lfts}
use borrow.Fn.World.{ArgsD, ResD}
use denote.Triple.Clauses.{AtExit}
use Rattle.cube_spec.specs.Refusals.{reply_of}
use Rattle.link_spec.specs.declared.types.Searched.{Searched}
use Rattle.link_spec.specs.Anytime.{Anytime}
use Rattle.link_spec.proofs.Anytime.{anytime}
use Rattle.link_search.specs.contracts.searching.search_links.{signature, ended}
use Rattle.link_search.proofs.searching.search_links.Reads as reads

pub searched_anytime : (κs : Lfts 2) (a : ArgsD signature κs) (r : ResD signature κs) (s : AtExit ended κs) → reads.Learnt κs a r s → (found : Searched) → r ≡ Ok found
    → Anytime a.0.now a.1.0 a.1.1.0.now a.1.1.1.0 found
searched_anytime κs a r s h found e = anytime a.0.now a.1.0 a.1.1.0.now a.1.1.1.0 found (sym (ap reply_of e) ∙ h)
