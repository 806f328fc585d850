-- A call of step: what its refusal leaves over, and its outcome case by case.
use Prim.Native.Nat.{ℕ, zero, suc, ◌+◌, ◌-◌, ◌*◌, ◌^◌, ◌≤◌}
use mathlib.Core.Path.{◌≡◌, sym, ◌∙◌, refl, ap, ap₂}
use mathlib.Core.Option.{none, some}
use mathlib.Core.List.{List}
use native.Mathlib.Nat.{sub-zero}
use native.Mathlib.Omega.{arith}
use borrow.Author.Tests.{eqb-true, eqb-false, ltb-true, ltb-false}
use lib.Dec.{eqb, ltb}
use lib.ListN.{length, get_elem?}
use lib.IntN.{ℤ, pos}
use lib.Pow.{pow_mono}
use Rattle.cube_spec.specs.Choices.{points}
use Rattle.cube_spec.proofs.Sums.{by}
use Rattle.cube_spec.proofs.Tables.{table_of}
use Rattle.plan_spec.specs.Plans.{lists_of, step_count}
use Rattle.plan_spec.specs.Refusals.{plan_refusal}
use Rattle.plan_spec.specs.declared.types.Plan.{Plan}
use Rattle.plan_spec.specs.Accepted.{Accepted}
use Rattle.plan_spec.proofs.PricingLaws.{few_axes}
use Rattle.rack_spec.specs.Grids.{Grid}
use Rattle.rack_spec.specs.Steps.{TreeStep, transfer, finish, steps}
use Rattle.rack_spec.specs.Counts.{marks, walk_count, sendings}
use Rattle.rack_spec.specs.Finding.{plan_grid}
use Rattle.rack_spec.specs.Answers.{Told, done, refused, telling, telling_or, told_at}
use Rattle.rack_spec.proofs.Tallied.{sendings_small, steps_same}
use Rattle.run_spec.specs.Memory as Memory
use Rattle.run_spec.specs.Memory.{stepped}
use Rattle.run_spec.specs.Entries.{work_cells, step_refusal, outcome, taken, step_or, stepping}
use Rattle.run_spec.specs.Taking.{Taking}
use Rattle.run_spec.proofs.Refusing.{step_due, step_points, step_area, step_past}

-- ---- what no refusal leaves over

pub record Passed (q : Plan) (array work at : ℕ) : Type 0 where
  pub plan : plan_refusal q ≡ 0
  pub all : points (lists_of q).lengths ≡ array
  pub room : work_cells (lists_of q) ≤ work
  pub within : at ≤ step_count (lists_of q)

pub passed : (q : Plan) (array work at : ℕ) → step_refusal q array work at ≡ 0 → Passed q array work at
passed q array work at z =
    by (eqb (plan_refusal q) 0)
    (λ t.
    let p = eqb-true (plan_refusal q) 0 t in
    by (eqb (points (lists_of q).lengths) array)
    (λ u.
    let e = eqb-true (points (lists_of q).lengths) array u in
    by (ltb work (work_cells (lists_of q)))
    (λ v. let s = step_area q array work at p e (ltb-true _ _ v) in absurd (omega arith))
    (λ v.
    let r = ltb-false work (work_cells (lists_of q)) v in
    by (ltb (step_count (lists_of q)) at)
    (λ w. let s = step_past q array work at p e r (ltb-true _ _ w) in absurd (omega arith))
    (λ w. record { plan = p; all = e; room = r; within = ltb-false (step_count (lists_of q)) at w })))
    (λ u. let s = step_points q array work at p (eqb-false (points (lists_of q).lengths) array u) in absurd (omega arith)))
    (λ t. let ne = eqb-false (plan_refusal q) 0 t in let s = step_due q array work at ne in absurd (ne (s ∙ z)))

-- T is small
marks_small : (m : ℕ) → m ≤ 8 → marks m ≤ 512
unfolding marks
marks_small zero h = omega arith
marks_small (suc m) h =
    let a : 2 ^ suc m ≤ 2 ^ 8 = pow_mono {j = 8} h in
    let b : 2 ^ m ≤ 2 ^ 8 = pow_mono {j = 8} (omega arith) in
    omega arith

pub steps_few : (q : Plan) → Accepted q → step_count (lists_of q) ≤ 262657
steps_few q ok =
    let e = steps_same q ok in
    let s = sendings_small q ok 0 (omega arith) in
    let m = marks_small q.axes (few_axes ok) in
    let w : walk_count (plan_grid q) (q.axes - 0) 0 1 ≡ sendings (plan_grid q) (q.axes - 0) 0 * 1 + marks q.axes = (unfold walk_count in ap (λ n. sendings (plan_grid q) (q.axes - 0) 0 * 1 + marks n) (sub-zero q.axes)) in
    omega arith

-- ---- the outcome

module _ (q : Plan) (array work : List ℤ) (at : ℕ) where
  pub refused_out : (n : ℕ) → n ≡ step_refusal q (length array) (length work) at → (n ≡ 0 → ⊥) → outcome (refused n) work at ≡ stepping q array work at
  unfolding stepping
  refused_out n e h = rw (← e) (go n h)
    where
      go : (n : ℕ) → (n ≡ 0 → ⊥) → outcome (refused n) work at ≡ step_or n (plan_grid q) array work at
      go zero h = absurd (h refl)
      go (suc n) h = unfold step_or in refl

  module _ (z : step_refusal q (length array) (length work) at ≡ 0) where
    going_on : stepping q array work at ≡ taken (plan_grid q) array work at (get_elem? (steps (plan_grid q)) at)
    unfolding stepping step_or
    going_on = rw z refl

    pub taken_out : (m : TreeStep) (t : Told) (w : List ℤ) → get_elem? (steps (plan_grid q)) at ≡ some m → t ≡ told_at (plan_grid q) (steps (plan_grid q)) at → w ≡ stepped (plan_grid q) array m work → outcome t w (at + 1) ≡ stepping q array work at
    unfolding taken told_at
    taken_out m t w e s u =
        let r : t ≡ telling (plan_grid q) m = s ∙ ap (telling_or (plan_grid q)) e in
        sym (going_on ∙ ap (taken (plan_grid q) array work at) e ∙ ap₂ (λ t w. outcome t w (at + 1)) (sym r) (sym u))

    pub done_out : get_elem? (steps (plan_grid q)) at ≡ none → outcome done work at ≡ stepping q array work at
    unfolding taken
    done_out e = sym (going_on ∙ ap (taken (plan_grid q) array work at) e)

  pub taking : (m : TreeStep) → Passed q (length array) (length work) at → get_elem? (steps (plan_grid q)) at ≡ some m → Taking q m (length work)
  taking m p e = record { passed = p.plan; at = at; listed = e; room = p.room }

-- a step that does not read the array
pub transfer_free : (g : Grid) (a a' work : List ℤ) (Y : List ℕ) (s r n : ℕ) → stepped g a (transfer Y s r n) work ≡ stepped g a' (transfer Y s r n) work
transfer_free g a a' work Y s r n = unfold stepped Memory.after in refl

-- a finish changes nothing
pub finish_free : (g : Grid) (array work : List ℤ) (Y : List ℕ) → work ≡ stepped g array (finish Y) work
unfolding stepped Memory.after
finish_free g array work Y = table_of (length work) _ work (pos 0) refl (λ j h. refl)
