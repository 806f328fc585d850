use native.Mathlib.Omega.{arith}
use mathlib.Core.Path.{sym, ◌∙◌}
use Rattle.rack_spec.proofs.Found.{own_formed, own_none}
use Rattle.rack_held.proofs.holds.own_of.Goals as goal

pub returns-then-is_lead : goal.returns-then-is_lead
returns-then-is_lead c = (c.cells_of.ensures.0 ∙ own_formed c.requires (sym c.is_lead.ensures ∙ c.if-is_lead.true), c.cells_of.ensures.1)

pub returns-else-is_lead : goal.returns-else-is_lead
returns-else-is_lead c = (own_none c.requires (sym c.is_lead.ensures ∙ c.if-is_lead.false), omega arith)
