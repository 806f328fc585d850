use native.Mathlib.Omega.{arith}
use mathlib.Core.Path.{refl}
use Rattle.plan_spec.proofs.Accepting.{passed_accepted}
use Rattle.plan_spec.proofs.PricingLaws.{few_axes}
use Rattle.rack_spec.proofs.Tallied.{axis_fits, parts_small, exponent_small, parts_shifted}
use borrow.Author.Rules.{rules}
use Rattle.rack_count.proofs.counts.parts_of.Goals as goal

pub bounds-plan-d : goal.bounds-plan-d
bounds-plan-d c = let g = c.well_formed.0.1.1.1.1 in let ok = passed_accepted c.args.plan (search rules) (search rules) (search rules) c.requires.0 in let f = few_axes ok in omega (arith, c.requires.1)

pub bounds-plan-axis : goal.bounds-plan-axis
bounds-plan-axis c = let g = c.well_formed.0.1.1.1.1 in let ok = passed_accepted c.args.plan (search rules) (search rules) (search rules) c.requires.0 in axis_fits c.args.plan ok c.args.d c.requires.1

pub overflow_shl-result : goal.overflow_shl-result
overflow_shl-result c = let g = c.well_formed.0.1.1.1.1 in let ok = passed_accepted c.args.plan (search rules) (search rules) (search rules) c.requires.0 in let e = exponent_small c.args.plan ok c.args.d c.requires.1 in omega arith

pub returns : goal.returns
returns c = let g = c.well_formed.0.1.1.1.1 in let ok = passed_accepted c.args.plan (search rules) (search rules) (search rules) c.requires.0 in rw (parts_shifted c.args.plan ok c.args.d c.requires.1) (let b = parts_small c.args.plan ok c.args.d c.requires.1 in (refl, b.0, b.1))
