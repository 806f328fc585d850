use Rattle.std.proofs.Common.{◌∙◌, rules, sym}
use Rattle.std.proofs.lemmas.Nat.{one_shl}
use Rattle.cube_spec.proofs.Digits.{without_kept, without_summed}
use Rattle.cube_choice.proofs.Bytes.{bit_below, kept_below}
use Rattle.cube_choice.proofs.types.Choice.without.Goals as goal

pub returns-then-not-keeps : goal.returns-then-not-keeps
returns-then-not-keeps c = sym (without_summed c.args.self.mask c.args.axis (sym c.keeps.ensures ∙ c.if-not-keeps.true))

pub overflow_shl-result : goal.overflow_shl-result
overflow_shl-result c = let w = c.well_formed in kept_below c.args.self.mask c.args.axis (search rules) (sym c.keeps.ensures ∙ c.if-not-keeps.false)

pub overflow_sub-result : goal.overflow_sub-result
overflow_sub-result c =
    let w = c.well_formed in
    let k = sym c.keeps.ensures ∙ c.if-not-keeps.false in
    rw (one_shl c.args.axis 8 (kept_below c.args.self.mask c.args.axis (search rules) k)) (bit_below c.args.self.mask c.args.axis k)

pub returns : goal.returns
returns c =
    let w = c.well_formed in
    let k = sym c.keeps.ensures ∙ c.if-not-keeps.false in
    rw (one_shl c.args.axis 8 (kept_below c.args.self.mask c.args.axis (search rules) k)) (sym (without_kept c.args.self.mask c.args.axis k))
