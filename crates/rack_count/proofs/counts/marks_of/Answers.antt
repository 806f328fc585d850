use native.Mathlib.Omega.{arith}
use mathlib.Core.Path.{refl, sym}
use Prim.Native.Nat.{◌-◌, ◌^◌, ◌≤◌}
use lib.Pow.{pow_mono}
use Rattle.plan_spec.proofs.PricingLaws.{shifted}
use Rattle.rack_spec.specs.Counts.{marks}
use Rattle.rack_spec.proofs.Tallied.{marks_some}
use Rattle.rack_count.proofs.counts.marks_of.Goals as goal

pub returns-then-m-eq0 : goal.returns-then-m-eq0
unfolding marks
returns-then-m-eq0 c = rw c.if-m-eq0.true (refl, omega arith)

pub returns : goal.returns
returns c =
    let a : 2 ^ c.args.m ≤ 2 ^ 8 = pow_mono {j = 8} c.requires in
    let b : 2 ^ (c.args.m - 1) ≤ 2 ^ 8 = pow_mono {j = 8} (omega (arith, c.requires)) in
    rw (shifted c.args.m (omega (arith, c.requires)), shifted (c.args.m - 1) (omega (arith, c.requires))) (sym (marks_some c.args.m c.if-m-eq0.false), omega arith)
