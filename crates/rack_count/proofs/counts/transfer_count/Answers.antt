use Rattle.std.proofs.Common.{◌+◌, ◌-◌, ◌≤◌, arith, rules, refl, ap, ◌∙◌}
use Rattle.plan_spec.proofs.Accepting.{passed_accepted}
use Rattle.plan_spec.proofs.PricingLaws.{few_axes}
use Rattle.rack_spec.proofs.Tallied.{sent_fits}
use Rattle.rack_count.proofs.Tallying.{tallied_at, tally_small}
use Rattle.rack_count.specs.declared.counts.Tally.{Tally}
use Rattle.rack_count.proofs.counts.transfer_count.Goals as goal

pub bounds-tallies-d : goal.bounds-tallies-d
bounds-tallies-d c =
    let w = c.well_formed in
    let ok = passed_accepted c.args.plan (search rules) (search rules) (search rules) c.requires.0 in
    let f = few_axes ok in
    omega (arith, c.requires.1)

pub overflow_mul-result : goal.overflow_mul-result
overflow_mul-result c =
    let w = c.well_formed in
    let ok = passed_accepted c.args.plan (search rules) (search rules) (search rules) c.requires.0 in
    let l : c.args.d + 1 ≤ c.args.plan.axes = omega (arith, c.requires.1) in
    let e = c.from.ensures ∙ ap (λ (t : Tally). t.span) (tallied_at c.args.plan ok c.requires.3 (c.args.d + 1) l) in
    let s = sent_fits c.args.n c.from.result 1 c.requires.2 (rw e (tally_small c.args.plan ok (c.args.d + 1) l).0) (omega arith) in
    omega arith

pub overflow_mul-result-2 : goal.overflow_mul-result-2
overflow_mul-result-2 c =
    let w = c.well_formed in
    let ok = passed_accepted c.args.plan (search rules) (search rules) (search rules) c.requires.0 in
    let l : c.args.d + 1 ≤ c.args.plan.axes = omega (arith, c.requires.1) in
    let e = c.from.ensures ∙ ap (λ (t : Tally). t.span) (tallied_at c.args.plan ok c.requires.3 (c.args.d + 1) l) in
    let p = c.parts_of.ensures in
    let s = sent_fits c.args.n c.from.result (c.parts_of.result - 1) c.requires.2 (rw e (tally_small c.args.plan ok (c.args.d + 1) l).0) (omega arith) in
    omega arith

pub returns : goal.returns
returns c =
    let w = c.well_formed in
    let ok = passed_accepted c.args.plan (search rules) (search rules) (search rules) c.requires.0 in
    let l : c.args.d + 1 ≤ c.args.plan.axes = omega (arith, c.requires.1) in
    let e = c.from.ensures ∙ ap (λ (t : Tally). t.span) (tallied_at c.args.plan ok c.requires.3 (c.args.d + 1) l) in
    let p = c.parts_of.ensures in
    let s = sent_fits c.args.n c.from.result (c.parts_of.result - 1) c.requires.2 (rw e (tally_small c.args.plan ok (c.args.d + 1) l).0) (omega arith) in
    (rw (← e, ← p.0) refl, s)
