-- The smaller of l and the number of longer portions is how many longer ones stand before; then the closed form of a start. All fits, since l is at most 1,024.
use Prim.Native.Nat.{◌^◌}
use mathlib.Core.Path.{sym}
use lib.Pow.{pow_pos}
use Rattle.cube_spec.proofs.Portions.{portion_start_lem}
use Rattle.plan_portion.proofs.portion_start.Goals as goal

pub returns : goal.returns
returns c =
    rw (c.min.ensures, c.least_of-least.ensures.0, c.longer_of-longer.ensures) (sym (portion_start_lem c.args.length (2 ^ c.args.k) (pow_pos _) c.args.l))
