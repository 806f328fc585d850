use native.Mathlib.Omega.{arith}
use Prim.Native.Nat.{suc}
use mathlib.Core.Path.{refl}
use Rattle.plan_spec.proofs.Accepting.{passed_accepted}
use Rattle.plan_spec.proofs.PricingLaws.{few_axes}
use Rattle.rack_spec.proofs.Tallied.{axis_fits, parts_small, exponent_small}
use Rattle.rack_spec.proofs.Planned.{start_small}
use Rattle.plan_portion.proofs.Portioned.{start_here}
use borrow.Author.Rules.{rules}
use Rattle.rack_grid.proofs.places.extent_of.Goals as goal

pub bounds-plan-d : goal.bounds-plan-d
bounds-plan-d c = let gd = c.well_formed.0.1.1.1.1 in let ok = passed_accepted c.args.plan (search rules) (search rules) (search rules) c.requires.0 in let f = few_axes ok in omega (arith, c.requires.1)

pub bounds-plan-axis : goal.bounds-plan-axis
bounds-plan-axis c = let gd = c.well_formed.0.1.1.1.1 in let ok = passed_accepted c.args.plan (search rules) (search rules) (search rules) c.requires.0 in axis_fits c.args.plan ok c.args.d c.requires.1

pub bounds-plan-axis-2 : goal.bounds-plan-axis-2
bounds-plan-axis-2 c = let gd = c.well_formed.0.1.1.1.1 in let ok = passed_accepted c.args.plan (search rules) (search rules) (search rules) c.requires.0 in axis_fits c.args.plan ok c.args.d c.requires.1

pub portion_of-requires : goal.portion_of-requires
portion_of-requires c = let gd = c.well_formed.0.1.1.1.1 in let ok = passed_accepted c.args.plan (search rules) (search rules) (search rules) c.requires.0 in let b = parts_small c.args.plan ok c.args.d c.requires.1 in (exponent_small c.args.plan ok c.args.d c.requires.1, omega (arith, b.1, c.requires.2))

pub returns : goal.returns
returns c = let gd = c.well_formed.0.1.1.1.1 in let ok = passed_accepted c.args.plan (search rules) (search rules) (search rules) c.requires.0 in let e = start_here c.args.plan ok c.args.d c.requires.1 in rw (c.portion_of.ensures, e (suc c.args.l), e c.args.l) (refl, (let m = start_small c.args.plan ok c.args.d (suc c.args.l) c.requires.1 c.requires.2 in omega arith))
