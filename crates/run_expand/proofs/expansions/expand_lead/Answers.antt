-- `run_expand::expansions::expand_lead` meets its contract: a choice in the work area does not read the array.
use mathlib.Core.Path.{◌∙◌}
use native.Mathlib.Omega.{arith}
use lib.ListN.{length}
use Rattle.rack_spec.specs.Finding.{plan_grid, summed_in, lead_at}
use Rattle.run_spec.proofs.Gathering.{table_same}
use Rattle.run_spec.proofs.Expanded.{array_unread}
use Rattle.run_expand.proofs.expansions.expand_lead.Goals as goal

pub returns-else-next-eq0 : goal.returns-else-next-eq0
returns-else-next-eq0 c =
    let e = c.requires.1 in
    let ne = c.if-next-eq0.false in
    c.expand_cells.ensures
    ∙ table_same (length c.args.work.now) _ _ (λ i h. array_unread (plan_grid c.args.plan) _ _ (summed_in c.args.plan c.args.choice.mask) (lead_at (plan_grid c.args.plan) (summed_in c.args.plan c.args.choice.mask) c.args.rank) (plan_grid c.args.plan).axes _ i (omega (arith, e, ne)))
