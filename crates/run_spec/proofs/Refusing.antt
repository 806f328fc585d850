-- The lists of checks of the entries that take memory, line by line.
use Prim.Native.Nat.{ℕ, ◌*◌, ◌≤◌, ◌<◌, min}
use mathlib.Core.Path.{◌≡◌, sym, ◌∙◌, refl, ap}
use mathlib.Core.List.{[], ◌∷◌}
use native.Mathlib.Nat.{mul-le-mul}
use native.Mathlib.Omega.{arith}
use borrow.Author.Tests.{eq-eqb, ne_eqb, lt-ltb, le-ltb}
use lib.ListN.{length, take}
use Rattle.cube_spec.specs.Limits.{axis_limit, point_limit}
use Rattle.cube_spec.specs.Choices.{points, cells, counted_cells, full_mask, Countable}
use Rattle.cube_spec.specs.Checks.{check, first}
use Rattle.cube_spec.proofs.Counting.{counted_is, full_cells}
use Rattle.plan_spec.specs.Plans.{lists_of, board_count, share_size, step_count}
use Rattle.plan_spec.specs.Refusals.{plan_refusal}
use Rattle.plan_spec.specs.declared.types.Plan.{Plan}
use Rattle.plan_spec.specs.Accepted.{Accepted}
use Rattle.plan_spec.proofs.PricingLaws.{few_axes, power_small}
use Rattle.rack_spec.specs.Grids.{grid_of, boards, share}
use Rattle.rack_spec.specs.Finding.{plan_grid}
use Rattle.rack_spec.specs.Answers.{past_end}
use Rattle.rack_spec.proofs.Counting.{board_count_lem}
use Rattle.rack_spec.proofs.Refusing.{plan_due, plan_passed}
use Rattle.run_spec.specs.Entries.{bad_array, work_cells, small_area, step_checks, step_refusal}

-- ---- the points and the work area of a plan

pub countable : (q : Plan) → Accepted q → Countable (take q.axes q.lengths) q.axes
unfolding lists_of
countable q ok = let l = ok.lengths in let e = ok.axes in record { few = few_axes ok; each = e; some = λ d h. l.some d (omega arith); small = l.small }

-- the cells of an accepted plan are counted exactly
pub counted_plan : (q : Plan) → Accepted q → (mask : ℕ) → counted_cells (take q.axes q.lengths) mask ≡ cells (lists_of q).lengths mask
counted_plan q ok mask = counted_is (take q.axes q.lengths) q.axes mask (countable q ok) ∙ (unfold lists_of in refl)

pub points_plan : (q : Plan) → Accepted q → counted_cells (take q.axes q.lengths) (full_mask (min q.axes axis_limit)) ≡ points (lists_of q).lengths
points_plan q ok =
    let f = few_axes ok in
    let m : min q.axes axis_limit ≡ length (lists_of q).lengths = (let e = ok.axes in omega arith) in
    counted_plan q ok (full_mask (min q.axes axis_limit)) ∙ ap (λ n. cells (lists_of q).lengths (full_mask n)) m ∙ full_cells (lists_of q).lengths

pub area_plan : (q : Plan) → board_count (lists_of q) * share (plan_grid q) ≡ work_cells (lists_of q)
unfolding work_cells share grid_of share_size
area_plan q = refl

pub area_small : (q : Plan) → Accepted q → (b s : ℕ) → b ≡ board_count (lists_of q) → s ≤ point_limit * q.axes → b * s < 274877906944
unfolding board_count lists_of
area_small q ok b s e h =
    let f = few_axes ok in
    let p = power_small q.p ok.boards in
    let m = mul-le-mul {n₁ = b} {m₁ = s} {n₂ = 1024} {m₂ = 134217728} (omega arith) (omega arith) in
    omega arith

-- ---- step

module _ (q : Plan) (array work at : ℕ) where
  pub step_due : (plan_refusal q ≡ 0 → ⊥) → plan_refusal q ≡ step_refusal q array work at
  unfolding step_refusal step_checks
  step_due h = sym (plan_due q _ h)

  module _ (h : plan_refusal q ≡ 0) where
    others : step_refusal q array work at ≡ first (check 10 (bad_array (lists_of q) array) ∷ check 11 (small_area (lists_of q) work) ∷ check 12 (past_end (lists_of q) at) ∷ [])
    unfolding step_refusal step_checks
    others = plan_passed q _ h

    pub step_points : (points (lists_of q).lengths ≡ array → ⊥) → 10 ≡ step_refusal q array work at
    unfolding first bad_array
    step_points n = rw (others, ne_eqb array (points (lists_of q).lengths) (λ e. n (sym e))) refl

    module _ (e : points (lists_of q).lengths ≡ array) where
      pub step_area : work < work_cells (lists_of q) → 11 ≡ step_refusal q array work at
      unfolding first bad_array small_area
      step_area l = rw (others, eq-eqb array (points (lists_of q).lengths) (sym e), lt-ltb work (work_cells (lists_of q)) l) refl

      module _ (l : work_cells (lists_of q) ≤ work) where
        pub step_past : step_count (lists_of q) < at → 12 ≡ step_refusal q array work at
        unfolding first bad_array small_area past_end
        step_past k = rw (others, eq-eqb array (points (lists_of q).lengths) (sym e), le-ltb work (work_cells (lists_of q)) l, lt-ltb (step_count (lists_of q)) at k) refl

        pub step_passed : at ≤ step_count (lists_of q) → 0 ≡ step_refusal q array work at
        unfolding first bad_array small_area past_end
        step_passed k = rw (others, eq-eqb array (points (lists_of q).lengths) (sym e), le-ltb work (work_cells (lists_of q)) l, le-ltb (step_count (lists_of q)) at k) refl

-- the same by the grid
pub area_boards : (q : Plan) → Accepted q → work_cells (lists_of q) ≡ boards (plan_grid q) * share (plan_grid q)
area_boards q ok = sym (area_plan q) ∙ ap (λ b. b * share (plan_grid q)) (sym (board_count_lem (lists_of q) ok.sound))
