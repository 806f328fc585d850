use Rattle.std.proofs.Common.{◌≡◌, SFits, w64, arith, rules}
use Rattle.cell_spec.proofs.Combs.{comb_none, four_written}
use Rattle.cell_row.proofs.Combing.{one_value, within_value}
use Rattle.cell_row.proofs.combs.sum_four.Goals as goal

pub loop-m-init : goal.loop-m-init
loop-m-init g c = (comb_none _ _ _ _ _, comb_none _ _ _ _ _, comb_none _ _ _ _ _, comb_none _ _ _ _ _)

pub loop-m-preserved : goal.loop-m-preserved
loop-m-preserved g c =
    let v = within_value c.args.comb _ c.requires.0 in
    let m = c.loop-m.m in
    let fa : SFits w64 c.wide-a.result = search rules in
    let fb : SFits w64 c.wide-b.result = search rules in
    let fc : SFits w64 c.wide-c.result = search rules in
    let fd : SFits w64 c.wide-d.result = search rules in (
      one_value _ c.args.values.now _ _ _ _ _ _ _ _ _ c.loop-m.invariant.0 (omega arith) c.index-values-p.is c.wide-a.ensures (omega (arith, v 0 m (omega arith) (omega arith))) c.loop-m.auto.a-fits.fits fa,
      one_value _ c.args.values.now _ _ _ _ _ _ _ _ _ c.loop-m.invariant.1 (omega arith) c.index-values-p-in-loop-m.is c.wide-b.ensures (omega (arith, v 1 m (omega arith) (omega arith))) c.loop-m.auto.b-fits.fits fb,
      one_value _ c.args.values.now _ _ _ _ _ _ _ _ _ c.loop-m.invariant.2 (omega arith) c.index-values-p-in-loop-m-2.is c.wide-c.ensures (omega (arith, v 2 m (omega arith) (omega arith))) c.loop-m.auto.c-fits.fits fc,
      one_value _ c.args.values.now _ _ _ _ _ _ _ _ _ c.loop-m.invariant.3 (omega arith) c.index-values-p-in-loop-m-3.is c.wide-d.ensures (omega (arith, v 3 m (omega arith) (omega arith))) c.loop-m.auto.d-fits.fits fd,
    )

pub returns : goal.returns
returns g c =
    let q : c.loop-m.m ≡ c.args.comb.values = omega arith in
    let s = c.loop-m.invariant in
    four_written _ _ _ _ _ _ _ (rw q at s.0) (rw q at s.1) (rw q at s.2) (rw q at s.3)
