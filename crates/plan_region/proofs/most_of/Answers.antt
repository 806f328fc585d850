use Prim.Native.Nat.{◌+◌, ◌-◌, ◌/◌, ◌^◌}
use mathlib.Core.Path.{◌≡◌, ◌∙◌}
use native.Mathlib.Nat.{div-le_self}
use native.Mathlib.Omega.{arith}
use Rattle.cube_spec.specs.Portions.{ceiling}
use Rattle.plan_spec.proofs.PricingLaws.{shifted, power_small, ceiling_divides}
use Rattle.plan_region.proofs.most_of.Goals as goal

pub returns : goal.returns
unfolding ceiling
returns c =
    let d = c.args.length in
    let m = 2 ^ c.args.k in
    let p = power_small c.args.k c.requires in
    let e = rw (c.from.ensures, shifted c.args.k c.requires) at c.div_ceil.ensures in
    let q : c.div_ceil.result ≡ (d + (m - 1)) / m = e ∙ ceiling_divides d m p.0 in
    (q, let s = div-le_self (d + (m - 1)) m in omega (arith, c.ranges.length.fits))
