use Rattle.std.proofs.Common.{◌∙◌, ap, ◌<◌, ◌^◌, length, arith}
use Rattle.report_field.proofs.Spelling.{decimal_is}
use Rattle.report_field.proofs.numbers.U64Spelled.spell.Goals as goal

pub returns : goal.returns
returns c =
    let e = decimal_is c.args.self (let h : c.args.self < 2 ^ 64 = omega arith in h) in
    (c.format.ensures.text ∙ e, omega (arith, c.format.ensures.fits, ap length c.format.ensures.text, ap length e))
