use Rattle.std.proofs.Common.{arith, rules}
use Rattle.std.proofs.lemmas.Bool.Decides.{nat_tests}
use Rattle.std.proofs.lemmas.Nat.Bits.{shr_and_one}
use Rattle.cube_spec.specs.Choices.{keeps}
use Rattle.cube_choice.proofs.Bytes.{past_byte}
use Rattle.cube_choice.proofs.types.Choice.keeps.Goals as goal

pub returns-then-axis-lt8 : goal.returns-then-axis-lt8
unfolding keeps
returns-then-axis-lt8 c = rw (shr_and_one c.args.self.mask c.args.axis)

pub returns-else-axis-lt8 : goal.returns-else-axis-lt8
returns-else-axis-lt8 c =
    let w = c.well_formed in
    rw (past_byte c.args.self.mask c.args.axis (search rules) c.if-axis-lt8.false) (grind (arith, nat_tests))
