use Rattle.cube_spec.proofs.Slots.{table_slots}
use Rattle.plan_spec.proofs.Accepting.{passed_accepted}
use Rattle.plan_spec.proofs.PricingLaws.{few_axes}
use Rattle.run_spec.specs.Memory.{read}
use Rattle.run_spec.proofs.Expanded.{ranks_begin, ranks_expand, ranks_turn, ranks_done}
use borrow.Author.Rules.{rules}
use Rattle.run_expand.proofs.expansions.expand_all.Goals as goal

pub loop-rank-init : goal.loop-rank-init
loop-rank-init c =
    let gd = c.well_formed.0.1.1.1.1 in
    let ok = passed_accepted c.args.plan (search rules) (search rules) (search rules) c.requires.0.passed in
    (ok, ranks_begin ok c.args.choice.mask (read c.args.array.now) c.args.work.now c.requires.0.room _ c.leads_of-leads.ensures.0 c.leads_of-leads.ensures.1)

pub expand_lead-requires : goal.expand_lead-requires
expand_lead-requires c =
    let q = c.args.plan in
    let i = c.loop-rank.invariant in
    let n = c.next_of-next.ensures in
    let g = c.regions_of-regions in
    let t = c.strides_of-strides in
    let starts = table_slots q.axes _ g.result.starts (few_axes i.0) g.ensures.1 in
    let apart = table_slots q.axes _ t.result (few_axes i.0) t.ensures in
    let h = c.loop-rank-test.true in (
      ranks_expand i.0 c.args.choice.mask (read c.args.array.now) c.args.work.now c.requires.0.room i.1 c.requires.0.passed h,
      n.0,
      n.1,
      c.requires.1,
      record { whole = g.ensures.0; most = g.ensures.2; slots = starts.0; each = starts.1 },
      apart,
    )

pub loop-rank-preserved : goal.loop-rank-preserved
loop-rank-preserved c =
    let i = c.loop-rank.invariant in
    (i.0, ranks_turn i.0 c.args.choice.mask (read c.args.array.now) c.args.work.now c.requires.0.room i.1 c.loop-rank-test.true _ c.expand_lead.ensures)

pub returns : goal.returns
returns c =
    let i = c.loop-rank.invariant in
    ranks_done i.0 c.args.choice.mask c.args.array.now c.args.work.now c.requires.0.room i.1 c.loop-rank-test.false
