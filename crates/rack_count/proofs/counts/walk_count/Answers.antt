use Rattle.std.proofs.Common.{◌-◌, ◌*◌, ◌+◌, arith, rules, ap, ◌∙◌}
use Rattle.plan_spec.proofs.Accepting.{passed_accepted}
use Rattle.plan_spec.proofs.PricingLaws.{few_axes}
use Rattle.rack_spec.specs.Counts.{walk_count, marks}
use Rattle.rack_count.proofs.Tallying.{tallied_at, tally_small}
use Rattle.rack_count.specs.declared.counts.Tally.{Tally}
use Rattle.rack_count.proofs.counts.walk_count.Goals as goal

pub bounds-tallies-d : goal.bounds-tallies-d
bounds-tallies-d c =
    let w = c.well_formed in
    let ok = passed_accepted c.args.plan (search rules) (search rules) (search rules) c.requires.0 in
    let f = few_axes ok in
    omega (arith, c.requires.1)

pub count_with-requires : goal.count_with-requires
count_with-requires c =
    let w = c.well_formed in
    let ok = passed_accepted c.args.plan (search rules) (search rules) (search rules) c.requires.0 in
    let f = few_axes ok in
    (rw (tallied_at c.args.plan ok c.requires.3 c.args.d c.requires.1) (tally_small c.args.plan ok c.args.d c.requires.1).1, omega arith, c.requires.2)

pub returns : goal.returns
unfolding walk_count
returns c =
    let w = c.well_formed in
    let ok = passed_accepted c.args.plan (search rules) (search rules) (search rules) c.requires.0 in
    let e = c.count_with.ensures in
    (e.0 ∙ ap (λ (t : Tally). t.sent * c.args.n + marks (c.args.plan.axes - c.args.d)) (tallied_at c.args.plan ok c.requires.3 c.args.d c.requires.1), e.1)
