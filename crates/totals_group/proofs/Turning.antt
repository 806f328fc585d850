-- A run taken one step further, and the group that a finish prints.
use Prim.Native.Nat.{ℕ, zero, suc, ◌+◌, ◌≤◌, ◌<◌}
use mathlib.Core.Path.{◌≡◌, sym, ◌∙◌, refl, ap}
use mathlib.Core.Option.{some}
use mathlib.Core.List.{List, [], ◌∷◌, ◌++◌}
use native.Mathlib.Omega.{arith}
use lib.IntN.{ℤ}
use lib.ListN.{length, take, get_or, get_elem?, get_or-eq_default}
use lib.Seq.{take_all, length-take-le}
use Rattle.cube_spec.specs.Choices as Choices
use Rattle.cube_spec.proofs.Counting.{cells_le}
use Rattle.plan_spec.specs.Plans.{step_count, lists_of}
use Rattle.plan_spec.specs.Accepted.{Accepted}
use Rattle.plan_spec.specs.declared.types.Plan.{Plan}
use Rattle.rack_spec.specs.Grids.{Grid, grid_of, mask_of}
use Rattle.rack_spec.specs.Finding.{plan_grid}
use Rattle.rack_spec.specs.Steps.{TreeStep, expand, transfer, finish, steps}
use Rattle.rack_spec.specs.Held.{finished_at, finished_by}
use Rattle.rack_spec.specs.Answers.{Told, finishes, telling}
use Rattle.rack_spec.proofs.Counting.{steps_length}
use Rattle.rack_spec.proofs.Tallied.{lawful}
use Rattle.run_spec.specs.Memory.{read, stepped, ran}
use Rattle.run_spec.specs.Entries.{Outcome, outcome, taken, work_cells, step_or, stepping, gather_refusal, gathering}
use Rattle.run_spec.specs.Gather.{gathered}
use Rattle.run_spec.proofs.Lists.{ran_more}
use Rattle.run_spec.proofs.Gathers.{gather_passed, gathered_some}
use Rattle.run_spec.proofs.Lists.{ran_length}
use Rattle.run_spec.proofs.Positions.{take_next, gathered_at}
use Rattle.run_spec.proofs.Refusing.{step_passed, countable}
use Rattle.report_spec.specs.Text.{text, decimal}
use Rattle.report_spec.specs.Printed.{fields, signeds, group_line, group_lines}
use Rattle.report_spec.proofs.Groups.{passed_over, one_more, printed_there}
use Rattle.totals_group.specs.Grouped.{Ready, groups_of, groups_before, group_text}

record Found (l : List TreeStep) (at : ℕ) : Type 0 where
  step : TreeStep
  there : get_elem? l at ≡ some step

found : (l : List TreeStep) (at : ℕ) → at < length l → Found l at
found [] at h = absurd (omega arith)
found (s ∷ l) zero h = record { step = s; there = refl }
found (s ∷ l) (suc at) h = let i = found l at (omega arith) in record { step = i.step; there = i.there }

-- what is told of a finish, and of nothing else
told_finish : (g : Grid) (m : TreeStep) (Y : List ℕ) → m ≡ finish Y → telling g m ≡ finishes (mask_of g Y)
told_finish g m Y e = rw e refl

record Named (g : Grid) (m : TreeStep) (mask : ℕ) : Type 0 where
  set : List ℕ
  finishing : m ≡ finish set
  mask_is : mask_of g set ≡ mask

named : (g : Grid) (m : TreeStep) (mask : ℕ) → telling g m ≡ finishes mask → Named g m mask
named g (expand Y) mask e = absurd (let z : ◌≡◌ {A = ℕ} 0 1 = cc in omega arith)
named g (transfer Y s r n) mask e = absurd (let z : ◌≡◌ {A = ℕ} 0 1 = cc in omega arith)
named g (finish Y) mask e = record { set = Y; finishing = refl; mask_is = (let y : mask_of g Y ≡ mask = cc in y) }

module _ (q : Plan) (ok : Accepted q) (points work : List ℤ) (at : ℕ) (r : Ready q points work at) where
  abbrev g : Grid
  g = plan_grid q

  count : length (steps g) ≡ step_count (lists_of q)
  count = steps_length (lists_of q) ok.sound ok.lengths.axes

  axes_some : 0 < g.axes
  unfolding grid_of
  axes_some = ok.lengths.axes

  pub work_length : length work ≡ 8192
  work_length = ap length r.there ∙ ran_length g (lawful q ok) axes_some points (take at (steps g)) r.begun ∙ r.room

  -- ---- at the end every group is printed

  pub all_printed : step_count (lists_of q) ≤ at → groups_before q points at ≡ length (groups_of q points)
  unfolding groups_before groups_of
  all_printed h = let c = count in ap (λ l. length (group_lines (lists_of q) (read points) l)) (take_all at (steps g) (omega arith))

  pub none_left : step_count (lists_of q) ≤ at → get_or (groups_of q points) (groups_before q points at) [] ≡ []
  none_left h = let e = all_printed h in get_or-eq_default (groups_of q points) [] {n = groups_before q points at} (omega arith)

  -- ---- before the end a call of step takes the next step

  goes_on : stepping q points work at ≡ taken g points work at (get_elem? (steps g) at)
  unfolding stepping step_or
  goes_on =
      let n = work_length in
      let a = r.area in
      let z = step_passed q (length points) (length work) at r.passed r.all (omega arith) r.within in
      rw (← z) refl

  module _ (lt : at < step_count (lists_of q)) (t : Told) (w : List ℤ) (p : ℕ) (e : outcome t w p ≡ stepping q points work at) where
    next : Found (steps g) at
    next = let c = count in found (steps g) at (omega arith)

    abbrev m : TreeStep
    m = next.step

    out : outcome t w p ≡ outcome (telling g m) (stepped g points m work) (at + 1)
    out = e ∙ goes_on ∙ ap (taken g points work at) next.there ∙ (unfold taken in refl)

    says : t ≡ telling g m
    says = ap (λ (x : Outcome). x.says) out

    pub moved : p ≡ at + 1
    moved = ap (λ (x : Outcome). x.position) out

    arrived : w ≡ ran g points (take p (steps g)) r.begun
    arrived =
        let n : at + 1 ≡ suc at = omega arith in
        ap (λ (x : Outcome). x.work) out
        ∙ ap (stepped g points m) r.there
        ∙ sym (ran_more g points (take at (steps g)) m r.begun)
        ∙ ap (λ l. ran g points l r.begun) (sym (take_next (steps g) at m next.there))
        ∙ ap (λ k. ran g points (take k (steps g)) r.begun) (sym n ∙ sym moved)

    pub turned : Ready q points w p
    turned =
        let c = moved in
        record {
          passed = r.passed;
          all = r.all;
          few = r.few;
          area = r.area;
          small = r.small;
          begun = r.begun;
          room = r.room;
          within = omega arith;
          there = arrived;
        }

    -- a step that is no finish prints nothing
    pub nothing_printed : ((mask : ℕ) → t ≡ finishes mask → ⊥) → groups_before q points p ≡ groups_before q points at
    unfolding groups_before
    nothing_printed h = rw moved (passed_over (lists_of q) (read points) (steps g) at m next.there (λ Y f. h (mask_of g Y) (says ∙ told_finish g m Y f)))

    -- a finish prints its choice's group
    module _ (mask : ℕ) (f : t ≡ finishes mask) where
      name : Named g m mask
      name = named g m mask (sym says ∙ f)

      abbrev Y : List ℕ
      Y = name.set

      finish_there : get_elem? (steps g) at ≡ some (finish Y)
      finish_there = next.there ∙ ap some name.finishing

      pub one_printed : groups_before q points p ≡ groups_before q points at + 1
      unfolding groups_before
      one_printed = rw moved (one_more (lists_of q) (read points) (steps g) at Y finish_there)

      follows : finished_at g p ≡ some Y
      follows = let n : p ≡ suc at = (let c = moved in omega arith) in ap (finished_at g) n ∙ (unfold finished_at in ap finished_by finish_there)

      module _ (cells : List ℤ) (k : length cells ≡ Choices.cells (lists_of q).lengths mask) where
        w_length : length w ≡ 8192
        w_length = ap length arrived ∙ ran_length g (lawful q ok) axes_some points (take p (steps g)) r.begun ∙ r.room

        gathers : gathering q w p cells ≡ Choices.totals (lists_of q).lengths (read points) mask
        gathers =
            let n = w_length in
            let a = r.area in
            let z : gather_refusal q (length w) p (length cells) ≡ 0 = sym (gather_passed q (length w) p (length cells) r.passed (omega arith) turned.within Y follows (k ∙ ap (Choices.cells (lists_of q).lengths) (sym name.mask_is))) in
            sym (gathered_some q w p cells z Y follows)
            ∙ ap (λ x. gathered (lists_of q).lengths g Y (read x)) arrived
            ∙ gathered_at (lists_of q) ok.sound ok.lengths.axes points r.begun (unfold work_cells in (let o = r.room in let i = r.area in omega arith)) r.small ok.lengths.small p Y follows
            ∙ ap (Choices.totals (lists_of q).lengths (read points)) name.mask_is

        line : group_text q w p mask cells ≡ group_line (lists_of q).lengths (read points) mask
        unfolding group_text group_line
        line = ap (λ x. text "group" ++ fields (decimal mask ∷ signeds x)) gathers

        pub group_printed : group_text q w p mask cells ≡ get_or (groups_of q points) (groups_before q points at) []
        unfolding groups_of groups_before
        group_printed =
            line
            ∙ ap (group_line (lists_of q).lengths (read points)) (sym name.mask_is)
            ∙ sym (printed_there (lists_of q) (read points) (steps g) at Y finish_there)

  -- the cells that a group needs
  pub part_length : (mask : ℕ) (room : List ℤ) → length room ≡ 8192 → length (take (Choices.cells (lists_of q).lengths mask) room) ≡ Choices.cells (lists_of q).lengths mask
  unfolding lists_of
  part_length mask room h =
      let s = cells_le (take q.axes q.lengths) q.axes mask (countable q ok) in
      let a = r.all in
      let f = r.few in
      length-take-le (Choices.cells (take q.axes q.lengths) mask) room (omega arith)
