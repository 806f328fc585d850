use borrow.Author.Rules.{rules}
use native.Mathlib.Omega.{arith}
use Rattle.plan_spec.proofs.Accepting.{passed_accepted}
use native.Mathlib.Nat.{le_refl}
use Rattle.plan_spec.proofs.PricingLaws.{few_axes}
use Rattle.run_spec.proofs.Strided.{stride_begin, stride_turn, stride_fits, stride_end, order_in}
use Rattle.run_box.proofs.points.stride_of.Goals as goal

pub bounds-plan-d : goal.bounds-plan-d
bounds-plan-d c = let ok = passed_accepted c.args.plan (search rules) (search rules) (search rules) c.requires.0 in let f = few_axes ok in omega (arith, c.requires.1)

pub loop-a-init : goal.loop-a-init
loop-a-init c = let ok = passed_accepted c.args.plan (search rules) (search rules) (search rules) c.requires.0 in let o = order_in c.args.plan ok c.args.d c.requires.1 in (ok, c.requires.1, le_refl _, omega arith, stride_begin c.args.plan ok c.args.choice.mask _)

pub overflow_mul-count : goal.overflow_mul-count
overflow_mul-count c = let i = c.loop-a.invariant in let b = stride_fits c.args.plan i.0 c.args.choice.mask _ c.loop-a.count c.loop-a.a _ c.kept_length-count.ensures i.2 c.loop-a-test.true i.4 in omega arith

pub loop-a-preserved : goal.loop-a-preserved
loop-a-preserved c = let i = c.loop-a.invariant in let h = c.loop-a-test.true in (i.0, i.1, omega (arith, i.2), omega arith, stride_turn c.args.plan i.0 c.args.choice.mask _ c.loop-a.count c.loop-a.a _ c.kept_length-count.ensures i.2 h i.4)

pub returns : goal.returns
returns c = let i = c.loop-a.invariant in stride_end c.args.plan i.0 c.args.choice.mask c.args.d c.loop-a.count c.loop-a.a i.1 i.2 i.3 c.loop-a-test.false i.4
