-- By the rule's two laws: one position more below the number of longer portions, and none from there on.
use Prim.Native.Nat.{◌^◌}
use mathlib.Core.Path.{sym}
use native.Mathlib.Omega.{arith}
use lib.Pow.{pow_pos}
use Rattle.cube_spec.proofs.Portions.{extent_rule, rule_longer, rule_shorter}
use Rattle.plan_portion.proofs.portion_of.Goals as goal

pub returns-then-l-longer_of : goal.returns-then-l-longer_of
returns-then-l-longer_of c = let a = c.args in
    let e = c.longer_of.ensures in
    let t = c.if-l-longer_of.true in
    rw (c.least_of-least.ensures.0, extent_rule a.length (2 ^ a.k) (pow_pos _) a.l) (sym (rule_longer a.length (2 ^ a.k) (pow_pos _) a.l (omega (arith, t))))

pub returns : goal.returns
returns c = let a = c.args in
    let e = c.longer_of.ensures in
    let t = c.if-l-longer_of.false in
    rw (c.least_of-least.ensures.0, extent_rule a.length (2 ^ a.k) (pow_pos _) a.l) (sym (rule_shorter a.length (2 ^ a.k) (pow_pos _) a.l (omega (arith, t))))
