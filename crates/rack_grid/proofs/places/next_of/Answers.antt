use native.Mathlib.Omega.{arith}
use Rattle.plan_spec.proofs.Accepting.{passed_accepted}
use Prim.Native.Nat.{◌-◌, ◌+◌}
use mathlib.Core.Path.{◌≡◌, sym, ◌∙◌}
use Rattle.rack_spec.proofs.Planned.{next_found, next_passed, next_root}
use borrow.Author.Rules.{rules}
use Rattle.rack_grid.proofs.places.next_of.Goals as goal

pub loop-d-init : goal.loop-d-init
loop-d-init c = let gd = c.well_formed.0.1.1.1.1 in let ok = passed_accepted c.args.plan (search rules) (search rules) (search rules) c.requires in (ok, λ e l r. absurd (omega arith))

pub returns-then-not-keeps : goal.returns-then-not-keeps
returns-then-not-keeps c = let i = c.loop-d.invariant in let e : c.loop-d.d - 1 + 1 ≡ c.loop-d.d = omega (arith, c.loop-d-test.true) in rw e (next_found c.args.plan i.0 c.args.choice.mask c.loop-d.d i.1 c.loop-d-test.true c.loop-d.auto.d (sym c.keeps.ensures ∙ c.if-not-keeps.true), c.loop-d.auto.d)

pub loop-d-preserved : goal.loop-d-preserved
loop-d-preserved c = let i = c.loop-d.invariant in let h = c.loop-d-test.true in (i.0, next_passed c.args.plan i.0 c.args.choice.mask c.loop-d.d i.1 h c.loop-d.auto.d (sym c.keeps.ensures ∙ c.if-not-keeps.false))

pub returns : goal.returns
returns c = let i = c.loop-d.invariant in (next_root c.args.plan i.0 c.args.choice.mask c.loop-d.d i.1 c.loop-d-test.false, omega arith)
