use Rattle.std.proofs.Common.{rules, sym, ap, not}
use Rattle.plan_spec.proofs.Accepting.{passed_accepted}
use Rattle.rack_spec.specs.Finding.{plan_grid}
use Rattle.rack_spec.proofs.Tallied.{lawful}
use Rattle.run_spec.specs.Entries.{is_none}
use Rattle.rack_spec.proofs.Told.{not_finish}
use Rattle.run_spec.proofs.Shown.{finished_is, other_none}
use Rattle.run_finish.proofs.is_finished.Goals as goal

pub returns-in-Finish : goal.returns-in-Finish
returns-in-Finish c =
    let ok = passed_accepted c.args.plan (search rules) (search rules) (search rules) c.requires in
    sym (ap (λ o. not (is_none o)) (finished_is (plan_grid c.args.plan) (lawful c.args.plan ok) c.args.at _ c.in-Finish.ensures).0)

pub returns-in_default : goal.returns-in_default
returns-in_default c =
    sym (ap (λ o. not (is_none o)) (other_none (plan_grid c.args.plan) c.args.at _ c.step_before.ensures (not_finish _ c.in_default.not-Finish)))
