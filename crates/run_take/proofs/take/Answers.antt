use Rattle.std.proofs.Common.{arith, rules, ◌∙◌}
use Rattle.plan_spec.proofs.Accepting.{passed_accepted}
use Rattle.rack_spec.specs.Finding.{plan_grid}
use Rattle.rack_spec.proofs.Tallied.{lawful}
use Rattle.rack_spec.proofs.Told.{expand_told, transfer_told, finish_told, done_told}
use Rattle.run_spec.proofs.Stepped.{passed, steps_few, taken_out, done_out, taking, transfer_free, finish_free}
use Rattle.run_take.proofs.take.Goals as goal
use Rattle.run_take.proofs.take.Goals.{in-Expand, in-Transfer, in-Finish}

pub step_by-step-requires : goal.step_by-step-requires
step_by-step-requires c = let p = passed c.args.plan _ _ _ c.requires.0 in (p.plan, c.requires.1)

pub expand_all-requires : goal.expand_all-requires
expand_all-requires c =
    let p = passed c.args.plan _ _ _ c.requires.0 in
    let ok = passed_accepted c.args.plan (search rules) (search rules) (search rules) p.plan in
    let e = expand_told (plan_grid c.args.plan) (lawful c.args.plan ok) c.args.position.now _ c.in-Expand.ensures in
    (taking c.args.plan c.args.array.now c.args.work.now c.args.position.now _ p e.0, p.all)

pub move_cells-requires : goal.move_cells-requires
move_cells-requires c =
    let p = passed c.args.plan _ _ _ c.requires.0 in
    let ok = passed_accepted c.args.plan (search rules) (search rules) (search rules) p.plan in
    let e = transfer_told (plan_grid c.args.plan) (lawful c.args.plan ok) c.args.position.now _ _ _ _ c.in-Transfer.ensures in
    taking c.args.plan c.args.array.now c.args.work.now c.args.position.now _ p e.0

pub returns-in-Done : goal.returns-in-Done
returns-in-Done c =
    let p = passed c.args.plan _ _ _ c.requires.0 in
    let ok = passed_accepted c.args.plan (search rules) (search rules) (search rules) p.plan in
    done_out c.args.plan c.args.array.now c.args.work.now c.args.position.now c.requires.0 (done_told (plan_grid c.args.plan) (lawful c.args.plan ok) c.args.position.now 0 c.in-Done.ensures)

pub overflow_add-position : goal.overflow_add-position
overflow_add-position c =
    let p = passed c.args.plan _ _ _ c.requires.0 in
    let ok = passed_accepted c.args.plan (search rules) (search rules) (search rules) p.plan in
    let f = steps_few c.args.plan ok in
    let w = p.within in
    omega arith

pub returns : goal.returns
returns c =
    let p = passed c.args.plan _ _ _ c.requires.0 in
    let ok = passed_accepted c.args.plan (search rules) (search rules) (search rules) p.plan in
    let g = plan_grid c.args.plan in
    let law = lawful c.args.plan ok in
    elim c.match-step.branch [
      | in-Expand w ↦
          let t = w.in-Expand.ensures in
          let e = expand_told g law c.args.position.now _ t in
          rw (w.step-is, w.work-is) (taken_out c.args.plan c.args.array.now c.args.work.now c.args.position.now c.requires.0 _ _ _ e.0 t w.expand_all.ensures)
      | in-Transfer w ↦
          let t = w.in-Transfer.ensures in
          let e = transfer_told g law c.args.position.now _ _ _ _ t in
          rw (w.step-is, w.work-is) (taken_out c.args.plan c.args.array.now c.args.work.now c.args.position.now c.requires.0 _ _ _ e.0 t (w.move_cells.ensures ∙ transfer_free g _ c.args.array.now c.args.work.now _ _ _ _))
      | in-Finish w ↦
          let t = w.in-Finish.ensures in
          let e = finish_told g law c.args.position.now _ t in
          rw (w.step-is, w.work-is, w.in-Finish.is) (taken_out c.args.plan c.args.array.now c.args.work.now c.args.position.now c.requires.0 _ _ _ e.0 t (finish_free g c.args.array.now c.args.work.now _))
    ]
