use Rattle.std.proofs.Common.{refl, sym, ◌∙◌}
use Rattle.std.proofs.lemmas.Result.{err_from_is_err_and}
use Rattle.rack_spec.specs.Finding.{plan_grid, summed_in}
use Rattle.rack_spec.proofs.Refusing.{some_due}
use Rattle.run_spec.proofs.Shown.{finished_some}
use Rattle.run_spec.proofs.Gathers.{collecting, kept_refused, gathered_some}
use Rattle.run_gather.proofs.copying.gather.Goals as goal

pub returns-in_err-choice : goal.returns-in_err-choice
returns-in_err-choice c =
    let p = err_from_is_err_and c.from_residual.result c.from_residual.ensures.1 in
    let e = c.in_err-choice.ensures.refusal in
    rw (p.1, p.2) (e, kept_refused c.args.plan c.args.work.now c.args.position c.args.res.now _ e (some_due c.in_err-choice.field-0.0 refl))

pub copy_all-requires : goal.copy_all-requires
copy_all-requires c =
    let p = collecting c.args.plan _ c.args.position _ (sym c.in_ok-choice.ensures.refusal) in
    let e = c.in_ok-choice.ensures.choice in
    let Y = summed_in c.args.plan c.in_ok-choice.choice.mask in
    record { passed = p.plan; some = finished_some (plan_grid c.args.plan) c.args.position Y e; room = p.room; cells = p.cells Y e }

pub returns : goal.returns
returns c =
    let z = c.in_ok-choice.ensures.refusal in
    (z, c.copy_all.ensures ∙ gathered_some c.args.plan c.args.work.now c.args.position c.args.res.now (sym z) (summed_in c.args.plan c.in_ok-choice.choice.mask) c.in_ok-choice.ensures.choice)
