use Rattle.std.proofs.Common.{refl, sym}
use Rattle.std.proofs.lemmas.Result.{err_from_is_err_and}
use Rattle.rack_spec.proofs.Refusing.{some_due}
use Rattle.run_spec.proofs.Stepped.{passed, refused_out}
use Rattle.run_step.proofs.stepping.step.Goals as goal

pub returns-in_err-check_step : goal.returns-in_err-check_step
returns-in_err-check_step c =
    let p = err_from_is_err_and c.from_residual.result c.from_residual.ensures.1 in
    let e = c.in_err-check_step.field-0.0 in
    rw (p.1, p.2) (refused_out c.args.plan c.args.array.now c.args.work.now c.args.position.now _ c.in_err-check_step.ensures (some_due e refl))

pub tallies_of-requires : goal.tallies_of-requires
tallies_of-requires c = let p = passed c.args.plan _ _ _ (sym c.in_ok-check_step.ensures) in p.plan
