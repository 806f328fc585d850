-- `totals_group::groups::next_group` meets its contract: a step that is no finish prints nothing, and a finish its choice's group.
use Prim.Native.Nat.{◌+◌, ◌≤◌, ◌<◌}
use mathlib.Core.Path.{◌≡◌, sym, ◌∙◌, refl, ap, ap₂}
use native.Mathlib.Omega.{arith}
use mathlib.Core.List.{[]}
use lib.ListN.{length, take, get_or}
use lib.Seq.{sets}
use Rattle.cube_spec.specs.Choices as Choices
use Rattle.plan_spec.specs.Plans.{step_count, lists_of}
use Rattle.plan_spec.proofs.Accepting.{passed_accepted}
use Rattle.rack_spec.specs.Answers.{told}
use Rattle.rack_spec.proofs.Told.{not_finish}
use Rattle.run_spec.proofs.Refusing.{step_passed}
use Rattle.totals_group.proofs.Turning as laws
use Rattle.totals_group.specs.Grouped.{groups_of, groups_before}
use borrow.Author.Rules.{rules}
use Rattle.totals_group.proofs.groups.next_group.Goals as goal

pub loop-position-init : goal.loop-position-init
loop-position-init c =
    let ok = passed_accepted c.args.plan (search rules) (search rules) (search rules) c.requires.0.passed in
    (ok, c.steps_of-total.ensures, c.requires.0, refl, c.requires.1, refl)

pub take-answer-requires : goal.take-answer-requires
take-answer-requires c =
    let i = c.loop-position.invariant in
    let n = laws.work_length _ i.0 _ _ _ i.2 in
    let a = i.2.area in
    (sym (step_passed _ _ _ c.loop-position.position i.2.passed i.2.all (omega arith) i.2.within), c.tallies_of-tallies.ensures)

pub loop-position-smaller : goal.loop-position-smaller
loop-position-smaller c =
    let i = c.loop-position.invariant in
    let lt : c.loop-position.position < step_count (lists_of c.args.plan) = omega (arith, i.1, c.loop-position-test.true) in
    let m = laws.moved _ i.0 _ _ _ i.2 lt _ _ _ c.take-answer.ensures in
    omega (arith, c.loop-position-test.true)

pub loop-position-preserved : goal.loop-position-preserved
loop-position-preserved c =
    let st = c.take-answer in
    let i = c.loop-position.invariant in
    let lt : c.loop-position.position < step_count (lists_of c.args.plan) = omega (arith, i.1, c.loop-position-test.true) in (
      i.0,
      i.1,
      laws.turned _ i.0 _ _ _ i.2 lt _ _ _ st.ensures,
      laws.nothing_printed _ i.0 _ _ _ i.2 lt _ _ _ st.ensures (λ m e. not_finish st.result (search rules) m (sym e)) ∙ i.3,
      i.4,
      i.5,
    )

pub returns-in-loop-position : goal.returns-in-loop-position
returns-in-loop-position c =
    let st = c.take-answer in
    let i = c.loop-position.invariant in
    let lt : c.loop-position.position < step_count (lists_of c.args.plan) = omega (arith, i.1, c.loop-position-test.true) in
    let q = c.args.plan in
    let pf = c.put_finished.ensures in
    let mask = c.in-Finish.choice.mask in
    let f = ap told c.in-Finish.is in
    let n = laws.part_length _ i.0 _ _ _ i.2 mask c.loop-position.cells i.4 in
    let line = laws.group_printed _ i.0 _ _ _ i.2 lt _ _ _ st.ensures mask f (take (Choices.cells (lists_of q).lengths mask) c.loop-position.cells) n ∙ ap (λ k. get_or (groups_of q c.args.points.now) k []) i.3 in (
      pf.0 ∙ ap length line,
      pf.1,
      pf.2 ∙ ap₂ (λ o l. sets o 0 l) i.5 line,
      laws.turned _ i.0 _ _ _ i.2 lt _ _ _ st.ensures,
      λ l. laws.one_printed _ i.0 _ _ _ i.2 lt _ _ _ st.ensures mask f ∙ ap (λ k. k + 1) i.3,
    )

pub returns : goal.returns
returns c =
    let i = c.loop-position.invariant in
    let h : step_count (lists_of c.args.plan) ≤ c.loop-position.position = omega (arith, i.1, c.loop-position-test.false) in
    let a = laws.all_printed _ i.0 _ _ _ i.2 h in
    let n = i.3 in
    let gs = groups_of c.args.plan c.args.points.now in
    let e : get_or gs (groups_before c.args.plan c.args.points.now c.args.position.now) [] ≡ [] = ap (λ k. get_or gs k []) (sym n) ∙ laws.none_left _ i.0 _ _ _ i.2 h in
    (rw e refl, omega arith, rw e i.5, i.2, λ l. absurd (omega arith))
