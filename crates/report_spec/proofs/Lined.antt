-- The printed lines one by one.
use Prim.Native.Nat.{ℕ, zero, suc, ◌+◌, ◌≤◌, ◌<◌}
use mathlib.Core.Path.{◌≡◌, sym, ◌∙◌, refl, ap, ap₂}
use mathlib.Core.List.{List, [], ◌∷◌, ◌++◌}
use native.Mathlib.Omega.{arith}
use lib.ListN.{length, get_or, length-append, get_or-append, get_or-eq_default}
use lib.Seq.{get_or-append-add, get_or-append_seam}
use lib.IntN.{ℤ}
use Rattle.plan_spec.specs.Plans.{PlanLists}
use Rattle.rack_spec.specs.Grids.{grid_of}
use Rattle.rack_spec.specs.Steps.{TreeStep, steps}
use Rattle.run_spec.specs.Memory.{read}
use Rattle.tape_spec.specs.Tapes.{Campaign, campaign}
use Rattle.tape_spec.specs.Reading.{or_empty}
use Rattle.report_spec.specs.Printed.{plan_for, plan_line, dim_line, dim_lines, group_lines, end_line, refused_line, ended, report, report_or, program_refusal, printed_lines, line_at}

dims_length : (a : PlanLists) (m d : ℕ) → length (dim_lines a m d) ≡ m
unfolding dim_lines
dims_length a zero d = refl
dims_length a (suc m) d = ap suc (dims_length a m (d + 1))

dims_at : (a : PlanLists) (m d i : ℕ) → i < m → get_or (dim_lines a m d) i [] ≡ dim_line a (d + i)
unfolding dim_lines
dims_at a zero d i h = absurd (omega arith)
dims_at a (suc m) d zero h = let z : d ≡ d + 0 = omega arith in ap (dim_line a) z
dims_at a (suc m) d (suc i) h = let z : d + 1 + i ≡ d + suc i = omega arith in dims_at a m (d + 1) i (omega arith) ∙ ap (dim_line a) z

module _ (a : PlanLists) (array : ℕ → ℤ) (l : List TreeStep) where
  abbrev n : ℕ
  n = length a.lengths

  abbrev groups : List (List ℕ)
  groups = group_lines a array l

  report_length : length (report a array l) ≡ n + length groups + 2
  unfolding report ended
  report_length =
      let d = dims_length a n 0 in
      let x = length-append (dim_lines a n 0) (groups ++ (end_line (length groups) ∷ [])) in
      let y = length-append groups (end_line (length groups) ∷ []) in
      omega arith

  report_plan : get_or (report a array l) 0 [] ≡ plan_line a
  unfolding report
  report_plan = refl

  report_dim : (i : ℕ) → i < n → get_or (report a array l) (suc i) [] ≡ dim_line a i
  unfolding report
  report_dim i h = get_or-append (dim_lines a n 0) (ended groups) [] i (let d = dims_length a n 0 in omega arith) ∙ dims_at a n 0 i h ∙ (let z : 0 + i ≡ i = omega arith in ap (dim_line a) z)

  after_dims : (j : ℕ) → get_or (report a array l) (suc (n + j)) [] ≡ get_or (ended groups) j []
  unfolding report
  after_dims j =
      let d = dims_length a n 0 in
      let z : n + j ≡ length (dim_lines a n 0) + j = omega arith in
      ap (λ k. get_or (dim_lines a n 0 ++ ended groups) k []) z ∙ get_or-append-add (dim_lines a n 0) (ended groups) j []

  report_group : (j : ℕ) → j < length groups → get_or (report a array l) (suc (n + j)) [] ≡ get_or groups j []
  unfolding ended
  report_group j h = after_dims j ∙ get_or-append groups (end_line (length groups) ∷ []) [] j h

  report_end : get_or (report a array l) (suc (n + length groups)) [] ≡ end_line (length groups)
  unfolding ended
  report_end = after_dims (length groups) ∙ get_or-append_seam groups (end_line (length groups)) [] []

module _ (tape : List ℕ) where
  abbrev c : Campaign
  c = or_empty (campaign tape)

  -- ---- a tape that is refused: one line

  refused_lines : (k : ℕ) → program_refusal tape ≡ k → (k ≡ 0 → ⊥) → printed_lines tape ≡ refused_line k ∷ []
  unfolding printed_lines report_or
  refused_lines zero e h = absurd (h refl)
  refused_lines (suc k) e h = rw e refl

  module _ (h : program_refusal tape ≡ 0 → ⊥) where
    pub refused_first : refused_line (program_refusal tape) ≡ line_at tape 0
    unfolding line_at
    refused_first = rw (refused_lines (program_refusal tape) refl h) refl

    pub refused_count : length (printed_lines tape) ≡ 1
    refused_count = rw (refused_lines (program_refusal tape) refl h) refl

    pub refused_over : (k : ℕ) → (k ≡ 0 → ⊥) → [] ≡ line_at tape k
    unfolding line_at
    refused_over k n = let e = refused_count in sym (get_or-eq_default (printed_lines tape) [] {n = k} (omega (arith, n)))

  -- ---- a tape that is taken

  module _ (h : program_refusal tape ≡ 0) where
    abbrev pub plan : PlanLists
    plan = plan_for c

    abbrev pub all : List TreeStep
    all = steps (grid_of plan)

    abbrev pub grouped : List (List ℕ)
    grouped = group_lines plan (read c.points) all

    lines : printed_lines tape ≡ report plan (read c.points) all
    unfolding printed_lines report_or
    lines = rw h refl

    pub taken_count : length (printed_lines tape) ≡ length plan.lengths + length grouped + 2
    taken_count = ap length lines ∙ report_length plan (read c.points) all

    pub plan_first : plan_line plan ≡ line_at tape 0
    unfolding line_at
    plan_first = rw lines (sym (report_plan plan (read c.points) all))

    pub dim_there : (i k : ℕ) → i < length plan.lengths → k ≡ i + 1 → dim_line plan i ≡ line_at tape k
    unfolding line_at
    dim_there i k l e = let z : k ≡ suc i = omega arith in rw (lines, z) (sym (report_dim plan (read c.points) all i l))

    pub group_there : (j k : ℕ) → j < length grouped → k ≡ 1 + length plan.lengths + j → get_or grouped j [] ≡ line_at tape k
    unfolding line_at
    group_there j k l e = let z : k ≡ suc (length plan.lengths + j) = omega arith in rw (lines, z) (sym (report_group plan (read c.points) all j l))

    pub end_there : (k : ℕ) → k ≡ 1 + length plan.lengths + length grouped → end_line (length grouped) ≡ line_at tape k
    unfolding line_at
    end_there k e = let z : k ≡ suc (length plan.lengths + length grouped) = omega arith in rw (lines, z) (sym (report_end plan (read c.points) all))

    pub over_there : (k : ℕ) → 1 + length plan.lengths + length grouped < k → [] ≡ line_at tape k
    unfolding line_at
    over_there k l = let e = taken_count in sym (get_or-eq_default (printed_lines tape) [] {n = k} (omega arith))
