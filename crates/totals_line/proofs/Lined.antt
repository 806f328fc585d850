-- Which line comes next, and where the report stands after it.
use Prim.Native.Nat.{ℕ, ◌+◌, ◌*◌, ◌-◌, ◌^◌, ◌%◌, ◌≤◌, ◌<◌}
use mathlib.Core.Path.{◌≡◌, sym, ◌∙◌, refl, ap, ap₂}
use mathlib.Core.List.{List, []}
use native.Mathlib.Omega.{arith}
use lib.IntN.{ℤ}
use lib.Pow.{pow_mono}
use borrow.Author.Tests.{ltb-true, ltb-false}
use lib.Dec.{ltb}
use lib.ListN.{length, get_or, get_or-eq_default}
use Rattle.std.specs.Prelude.{Result, Ok, Err, IfOk}
use Rattle.cube_spec.specs.Checks.{Reply, gives, refuses}
use Rattle.cube_spec.specs.Refusals.{number_of, reply_of}
use Rattle.cube_spec.specs.declared.refusals.Refusal.{Refusal}
use Rattle.cube_spec.proofs.Sums.{by}
use Rattle.plan_spec.specs.Plans.{PlanLists, lists_of}
use Rattle.plan_spec.specs.Accepted.{Accepted}
use Rattle.plan_spec.specs.declared.types.Planned.{Planned}
use Rattle.plan_spec.specs.declared.types.Plan.{Plan}
use Rattle.plan_spec.proofs.PricingLaws.{shifted}
use Rattle.rack_spec.specs.Grids.{grid_of}
use Rattle.rack_spec.specs.Steps.{steps}
use Rattle.run_spec.specs.Memory.{read, ran}
use Rattle.report_spec.specs.Printed.{plan_for, plan_line, dim_line, group_lines, end_line, refused_line, program_refusal, printed_lines, line_at}
use Rattle.report_spec.proofs.Groups.{steps_groups}
use Rattle.report_spec.proofs.Lined.{refused_first, refused_over, refused_count, taken_count, plan_first, dim_there, group_there, end_there, over_there}
use Rattle.report_line.specs.Reports.{plan_text, dim_text}
use Rattle.report_line.proofs.Reporting.{plan_line_is, dim_line_is, axis_in}
use Rattle.totals_check.specs.Judging.{judging}
use Rattle.totals_check.proofs.Taken as Taken
use Rattle.totals_line.specs.Standing.{campaign_of, Running, Stands}
use Rattle.totals_group.specs.Grouped.{Small, Ready, groups_of, groups_before}

grid_axes : (a : PlanLists) → (grid_of a).axes ≡ length a.lengths
unfolding grid_of
grid_axes a = refl

plan_groups : (a : PlanLists) (array : ℕ → ℤ) → length (group_lines a array (steps (grid_of a))) + 1 ≡ 2 ^ length a.lengths
plan_groups a array = steps_groups a array (grid_of a) ∙ ap (λ n. 2 ^ n) (grid_axes a)

module _ (tape : List ℕ) (judged : Result Planned Refusal) (k : ℕ) (points work : List ℤ) (at : ℕ) (s : Stands tape judged k points work at) where
  -- ---- a tape that is refused

  module _ (e : Refusal) (h : judged ≡ Err e) where
    refuses_it : refuses (number_of e) ≡ judging tape
    refuses_it = rw h at s.judgement

    due : program_refusal tape ≡ 0 → ⊥
    due z = Taken.refused_some tape (number_of e) refuses_it (Taken.refusal_is tape (number_of e) refuses_it ∙ z)

    pub refused_line_is : k ≡ 0 → refused_line (number_of e) ≡ line_at tape k
    refused_line_is z = ap refused_line (Taken.refusal_is tape (number_of e) refuses_it) ∙ refused_first tape due ∙ ap (line_at tape) (sym z)

    pub refused_end : (k ≡ 0 → ⊥) → [] ≡ line_at tape k
    refused_end n = refused_over tape due k n

    pub refused_stands : Stands tape judged (k + 1) points work at
    refused_stands = record { judgement = s.judgement; running = rw h tt }

  -- ---- a tape that is taken

  module _ (t : Planned) (z : judged ≡ Ok t) where
    abbrev q : Plan
    q = t.plan

    gives_it : gives t ≡ judging tape
    gives_it = rw z at s.judgement

    run : Running tape q k points work at
    run = rw z at s.running

    pub ok : Accepted q
    ok = Taken.plan_accepted tape t gives_it

    none : program_refusal tape ≡ 0
    none = Taken.none_due tape t gives_it

    lists : lists_of q ≡ plan_for (campaign_of tape)
    lists = Taken.lists_are tape t gives_it

    axes_are : length (plan_for (campaign_of tape)).lengths ≡ q.axes
    axes_are = ap (λ a. length a.lengths) (sym lists) ∙ ok.axes

    pub few_axes : q.axes ≤ 8
    few_axes = let f = ok.lengths.few in let e = ok.axes in omega arith

    pub is_ready : Ready q points work at
    is_ready = run.ready

    pub plan_line_there : k ≡ 0 → plan_text q t.prices ≡ line_at tape k
    plan_line_there e = plan_line_is q ok t.prices (Taken.prices_lists tape t gives_it) ∙ ap plan_line lists ∙ plan_first tape none ∙ ap (line_at tape) (sym e)

    -- the axis of a dim line
    pub dim_asks : (k ≡ 0 → ⊥) → k ≤ q.axes → (k - 1 < 8) × (get_or q.order (k - 1) 0 < 8)
    dim_asks n l =
        let f = few_axes in
        let a = axis_in q ok (k - 1) (omega (arith, n)) in
        (omega (arith, n), omega arith)

    pub dim_line_there : (k ≡ 0 → ⊥) → k ≤ q.axes → dim_text q (k - 1) ≡ line_at tape k
    dim_line_there n l =
        let a = axes_are in
        dim_line_is q ok (k - 1) (omega (arith, n)) ∙ ap (λ a. dim_line a (k - 1)) lists ∙ dim_there tape none (k - 1) k (omega (arith, n)) (omega (arith, n))

    -- the groups
    abbrev grouped : List (List ℕ)
    grouped = group_lines (plan_for (campaign_of tape)) (read (campaign_of tape).points) (steps (grid_of (plan_for (campaign_of tape))))

    groups_are : groups_of q points ≡ grouped
    unfolding groups_of
    groups_are = ap₂ (λ a l. group_lines a (read l) (steps (grid_of a))) lists run.loaded

    groups_count : length grouped + 1 ≡ 2 ^ q.axes
    groups_count = plan_groups (plan_for (campaign_of tape)) (read (campaign_of tape).points) ∙ ap (λ n. 2 ^ n) axes_are

    pub power : (1 * 2 ^ q.axes) % 18446744073709551616 ≡ 2 ^ q.axes
    power = shifted q.axes (let f = few_axes in omega arith)

    pub power_few : (2 ^ q.axes ≤ 256) × (0 < 2 ^ q.axes)
    power_few = (let f = few_axes in pow_mono {j = 8} f, let g = groups_count in omega arith)

    module _ (late : q.axes < k) where
      module _ (more : k < q.axes + 2 ^ q.axes) where
        printed : 1 + q.axes + groups_before q points at ≡ k
        printed = run.later late (omega arith)

        pub some_left : groups_before q points at < length (groups_of q points)
        some_left = let e = ap length groups_are in let g = groups_count in let p = printed in omega arith

        pub group_line_there : get_or (groups_of q points) (groups_before q points at) [] ≡ line_at tape k
        group_line_there =
            let a = axes_are in
            let g = groups_count in
            let p = printed in
            ap (λ l. get_or l (groups_before q points at) []) groups_are ∙ group_there tape none (groups_before q points at) k (omega arith) (omega arith)

        pub group_stands : (w : List ℤ) (p : ℕ) → Ready q points w p → (groups_before q points at < length (groups_of q points) → groups_before q points p ≡ groups_before q points at + 1) → Stands tape judged (k + 1) points w p
        group_stands w p r h = record {
          judgement = s.judgement;
          running = rw z (record {
            plan = run.plan;
            loaded = run.loaded;
            ready = r;
            early = λ l. absurd (omega arith);
            later = λ l m. (let e = printed in let g = h some_left in omega arith);
          });
        }

      pub end_line_there : k ≡ q.axes + 2 ^ q.axes → (n : ℕ) → n ≡ 2 ^ q.axes - 1 → end_line n ≡ line_at tape k
      end_line_there e n d =
          let a = axes_are in
          let g = groups_count in
          let m : n ≡ length grouped = omega arith in
          ap end_line m ∙ end_there tape none k (omega arith)

      pub over : q.axes + 2 ^ q.axes < k → [] ≡ line_at tape k
      over l = let a = axes_are in let g = groups_count in over_there tape none k (omega arith)

    -- a line that takes no step
    pub kept_stands : (k ≤ q.axes → ⊥) → q.axes + 2 ^ q.axes ≤ k → Stands tape judged (k + 1) points work at
    kept_stands h l = record {
      judgement = s.judgement;
      running = rw z (record { plan = run.plan; loaded = run.loaded; ready = run.ready; early = λ m. absurd (omega arith); later = λ m o. absurd (omega arith) });
    }

    pub head_stands : k ≤ q.axes → Stands tape judged (k + 1) points work at
    head_stands h = record {
      judgement = s.judgement;
      running = rw z (record {
        plan = run.plan;
        loaded = run.loaded;
        ready = run.ready;
        early = λ m. run.early h;
        later = λ m o. (let e = run.early h in omega arith);
      });
    }

-- ---- how many lines there are, and how a report begins

-- a line that is not empty is one of the tape's
pub line_some : (tape : List ℕ) (k n : ℕ) → n ≡ length (line_at tape k) → (n ≡ 0 → ⊥) → k < length (printed_lines tape)
unfolding line_at
line_some tape k n e h = by (ltb k (length (printed_lines tape))) (λ t. ltb-true _ _ t) (λ t. absurd (h (e ∙ ap length (get_or-eq_default (printed_lines tape) [] {n = k} (ltb-false k (length (printed_lines tape)) t)))))

few_for : (tape : List ℕ) (judged : Reply Planned) → judged ≡ judging tape → length (printed_lines tape) ≤ 300
few_for tape (gives t) e =
    let none = Taken.none_due tape t e in
    let a = Taken.plan_accepted tape t e in
    let l : length (plan_for (campaign_of tape)).lengths ≡ t.plan.axes = ap (λ a. length a.lengths) (sym (Taken.lists_are tape t e)) ∙ a.axes in
    let g : length (group_lines (plan_for (campaign_of tape)) (read (campaign_of tape).points) (steps (grid_of (plan_for (campaign_of tape))))) + 1 ≡ 2 ^ t.plan.axes = plan_groups (plan_for (campaign_of tape)) (read (campaign_of tape).points) ∙ ap (λ n. 2 ^ n) l in
    let c = taken_count tape none in
    let f = a.lengths.few in
    let x = a.axes in
    let p : 2 ^ t.plan.axes ≤ 2 ^ 8 = pow_mono {j = 8} (omega arith) in
    omega arith
few_for tape (refuses n) e = let c = refused_count tape (λ y. Taken.refused_some tape n e (Taken.refusal_is tape n e ∙ y)) in omega arith

pub lines_few : (tape : List ℕ) → length (printed_lines tape) ≤ 300
lines_few tape = few_for tape (judging tape) refl

pub begins : (tape : List ℕ) (judged : Result Planned Refusal) → reply_of judged ≡ judging tape → (points work : List ℤ) → IfOk judged (λ t. points ≡ (campaign_of tape).points) → Small points → length work ≡ 8192 → Stands tape judged 0 points work 0
begins tape (Err n) e points work h small room = record { judgement = e; running = tt }
begins tape (Ok t) e points work h small room = record {
  judgement = e;
  running =
      let a = Taken.points_are tape t e in
      let f = Taken.points_few tape t e in
      let l = ap length h in
      record {
        plan = Taken.plan_is tape t e;
        loaded = h;
        ready = record {
          passed = Taken.plan_passed tape t e;
          all = omega arith;
          few = omega arith;
          area = Taken.area_few tape t e;
          small = small;
          begun = work;
          room = room;
          within = omega arith;
          there = unfold ran in refl;
        };
        early = λ m. (unfold groups_before group_lines in refl);
        later = λ m o. absurd (omega arith);
      };
}
