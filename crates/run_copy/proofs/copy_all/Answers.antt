use Prim.Native.Nat.{ℕ, ◌-◌}
use mathlib.Core.Path.{ap, ◌∙◌}
use native.Mathlib.Omega.{arith}
use Rattle.cube_spec.proofs.Slots.{table_slots}
use Rattle.plan_spec.specs.Plans.{lists_of}
use Rattle.plan_spec.specs.declared.types.Plan.{Plan}
use Rattle.plan_spec.proofs.Accepting.{passed_accepted}
use Rattle.rack_spec.specs.Finding.{plan_grid, summed_in, leads, lead_at}
use Rattle.run_spec.specs.Memory.{read}
use Rattle.run_spec.specs.Copies.{one_board}
use Rattle.run_spec.proofs.Copied.{copy_begin, copy_turn, copy_end}
use Rattle.run_spec.proofs.Gathers.{down, copying_on}
use Rattle.plan_spec.proofs.PricingLaws.{few_axes}
use Rattle.rack_spec.specs.Grids.{region_start}
use Rattle.rack_spec.proofs.Planned.{share_plan, start_plan}
use borrow.Author.Rules.{rules}
use Rattle.run_copy.proofs.copy_all.Goals as goal

abbrev leadCount : Plan → ℕ → ℕ
leadCount q mask = leads (plan_grid q) (summed_in q mask)

pub loop-rank-init : goal.loop-rank-init
loop-rank-init c = let gd = c.well_formed.0.1.1.1.1 in let ok = passed_accepted c.args.plan (search rules) (search rules) (search rules) c.requires.passed in (ok, c.leads_of-leads.ensures.0, omega arith, c.leads_of-leads.ensures.1, copy_begin (lists_of c.args.plan) ok.sound (summed_in c.args.plan c.args.choice.mask) (down c.args.plan ok c.args.choice.mask) c.args.res.now c.args.work.now c.requires.cells)

pub copy_rank-requires : goal.copy_rank-requires
copy_rank-requires c =
    let q = c.args.plan in
    let i = c.loop-rank.invariant in
    let h = c.loop-rank-test.true in
    let e = i.1 in
    let f = few_axes i.0 in
    let r = c.region_of-region.ensures in
    let n = c.next_of-next.ensures.1 in
    let apart = table_slots q.axes _ c.strides_of-strides.result f c.strides_of-strides.ensures in
    let start = r.0 ∙ start_plan q i.0 (c.next_of-next.result - 1) ∙ ap (λ n. region_start (plan_grid q) (n - 1)) c.next_of-next.ensures.0 in
    let on = copying_on q i.0 c.args.choice.mask c.args.work.now c.args.res.now _ c.loop-rank.rank i.4 c.requires in
    (on, omega arith, apart, r.1 ∙ share_plan q i.0, start, omega (arith, r.3), omega (arith, r.2))

pub loop-rank-preserved : goal.loop-rank-preserved
loop-rank-preserved c = let i = c.loop-rank.invariant in let ok = i.0 in let h = c.loop-rank-test.true in let e = i.1 in (ok, i.1, omega arith, i.3, c.copy_rank.ensures ∙ ap (one_board (lists_of c.args.plan).lengths (plan_grid c.args.plan) (summed_in c.args.plan c.args.choice.mask) (lead_at (plan_grid c.args.plan) (summed_in c.args.plan c.args.choice.mask) c.loop-rank.rank) (read c.args.work.now)) i.4 ∙ copy_turn (lists_of c.args.plan) ok.sound (summed_in c.args.plan c.args.choice.mask) (down c.args.plan ok c.args.choice.mask) c.args.res.now c.args.work.now c.requires.cells c.loop-rank.rank (omega arith))

pub returns : goal.returns
returns c = let i = c.loop-rank.invariant in let ok = i.0 in let e = i.1 in i.4 ∙ copy_end (lists_of c.args.plan) ok.sound (summed_in c.args.plan c.args.choice.mask) (down c.args.plan ok c.args.choice.mask) c.args.res.now c.args.work.now c.requires.cells c.loop-rank.rank (omega (arith, c.loop-rank-test.false))
