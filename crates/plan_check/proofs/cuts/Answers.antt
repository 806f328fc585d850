use Prim.Native.Nat.{◌^◌, ◌≤◌}
use mathlib.Core.Path.{sym, ◌∙◌}
use native.Mathlib.Omega.{arith}
use lib.Pow.{pow_mono}
use borrow.Author.Tests.{lt-leb, le-ltb}
use Rattle.plan_check.proofs.cuts.Goals as goal

pub returns-else-k-lt32 : goal.returns-else-k-lt32
returns-else-k-lt32 c =
    let q : 2 ^ 32 ≤ 2 ^ c.args.k = pow_mono c.if-k-lt32.false in
    le-ltb c.args.k 32 c.if-k-lt32.false ∙ sym (lt-leb (2 ^ c.args.k) c.args.length (omega (arith, c.ranges.length.fits)))
