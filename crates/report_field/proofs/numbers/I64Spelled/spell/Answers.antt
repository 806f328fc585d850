use Rattle.std.proofs.Common.{◌∙◌, ap, length, arith}
use mir.Facts.{to_z-of_z}
use Rattle.report_field.proofs.Spelling.{signed_is}
use Rattle.report_field.proofs.numbers.I64Spelled.spell.Goals as goal

pub returns : goal.returns
returns c =
    let f = c.ranges.self in
    let t = rw (to_z-of_z f) at c.format.ensures.text in
    let e = signed_is c.args.self f.sfits in
    (t ∙ e, omega (arith, c.format.ensures.fits, ap length t, ap length e))
