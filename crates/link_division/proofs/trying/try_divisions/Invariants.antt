-- `link_division::trying::try_divisions` meets its contract.
use Rattle.link_spec.proofs.Searching.{Turn}
use Rattle.link_division.proofs.trying.try_divisions.Given as goal

abbrev pub invariant-loop-priced : goal.invariant-loop-priced
invariant-loop-priced l = Turn l.lens l.links l.q l.caps l.budget l.at l.best l.least l.priced
