use borrow.Author.Rules.{rules}
use native.Mathlib.Omega.{arith}
use Rattle.plan_spec.proofs.Accepting.{passed_accepted}
use mathlib.Core.Path.{sym, ◌∙◌}
use Rattle.plan_spec.proofs.PricingLaws.{few_axes}
use Rattle.run_spec.proofs.Strided.{along_kept, along_summed}
use Rattle.run_box.proofs.points.kept_length.Goals as goal

pub bounds-plan-a : goal.bounds-plan-a
bounds-plan-a c = let ok = passed_accepted c.args.plan (search rules) (search rules) (search rules) c.requires.0 in let f = few_axes ok in omega (arith, c.requires.1)

pub returns-then-keeps : goal.returns-then-keeps
returns-then-keeps c = let ok = passed_accepted c.args.plan (search rules) (search rules) (search rules) c.requires.0 in let f = few_axes ok in along_kept c.args.plan ok c.args.choice.mask c.args.a c.requires.1 (sym c.keeps.ensures ∙ c.if-keeps.true)

pub returns-else-keeps : goal.returns-else-keeps
returns-else-keeps c = let ok = passed_accepted c.args.plan (search rules) (search rules) (search rules) c.requires.0 in let f = few_axes ok in along_summed c.args.plan ok c.args.choice.mask c.args.a c.requires.1 (sym c.keeps.ensures ∙ c.if-keeps.false)
