-- What is left of the board's number at place d, and that every axis from d on allows a lead.
use Rattle.plan_spec.specs.Accepted.{Accepted}
use Rattle.rack_grid.proofs.Leads.{Left, LeadFrom}
use Rattle.rack_grid.proofs.places.is_lead.Given as goal

abbrev pub invariant-loop-d : goal.invariant-loop-d
invariant-loop-d l = (Accepted l.plan) × Left l.plan l.board l.rest l.d × LeadFrom l.plan l.choice.mask l.board l.d
