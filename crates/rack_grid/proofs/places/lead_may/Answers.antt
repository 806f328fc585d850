use native.Mathlib.Omega.{arith}
use Rattle.plan_spec.proofs.Accepting.{passed_accepted}
use borrow.Author.Tests.{ne_eqb}
use Rattle.plan_spec.proofs.PricingLaws.{few_axes}
use Rattle.rack_spec.proofs.Planned.{has_slot}
use borrow.Author.Rules.{rules}
use Rattle.rack_grid.proofs.places.lead_may.Goals as goal

pub bounds-plan-d : goal.bounds-plan-d
bounds-plan-d c = let gd = c.well_formed.0.1.1.1.1 in let ok = passed_accepted c.args.plan (search rules) (search rules) (search rules) c.requires.0 in let f = few_axes ok in omega (arith, c.requires.1)

pub returns-else-l-eq0 : goal.returns-else-l-eq0
returns-else-l-eq0 c = let gd = c.well_formed.0.1.1.1.1 in let ok = passed_accepted c.args.plan (search rules) (search rules) (search rules) c.requires.0 in rw (ne_eqb c.args.l 0 c.if-l-eq0.false, c.keeps.ensures) (has_slot c.args.plan ok c.args.choice.mask c.args.d c.requires.1)
