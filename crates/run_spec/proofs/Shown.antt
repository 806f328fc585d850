-- Which choice a position shows, and the refusals of viewing.
use Prim.Native.Nat.{ℕ, zero, suc, ◌+◌, ◌-◌, ◌*◌, ◌≤◌, ◌<◌}
use mathlib.Core.Path.{◌≡◌, sym, ◌∙◌, refl, ap}
use mathlib.Core.Bool.{true, false, ◌||◌, not}
use mathlib.Core.Option.{Option, none, some}
use mathlib.Core.List.{List, [], ◌∷◌}
use native.Mathlib.Omega.{arith}
use borrow.Author.Tests.{lt-ltb, le-ltb, le-leb, lt-leb, not-true, not-false, eqb-true, eqb-false, ltb-true, ltb-false, leb-true, leb-false}
use lib.Dec.{eqb, ltb, leb}
use lib.ListN.{length, get_elem?}
use lib.IntN.{ℤ}
use Rattle.cube_spec.specs.Tree.{next, last_of}
use Rattle.cube_spec.proofs.Sums.{by}
use Rattle.cube_spec.specs.Checks.{check, first}
use Rattle.cube_spec.proofs.Sets.{Down}
use Rattle.plan_spec.specs.Plans.{lists_of, step_count, board_count}
use Rattle.plan_spec.specs.Refusals.{plan_refusal}
use Rattle.plan_spec.specs.declared.types.Plan.{Plan}
use Rattle.rack_spec.specs.Grids.{Grid, Lawful, summed, boards, cells, share, index}
use Rattle.rack_spec.specs.Steps.{TreeStep, expand, transfer, finish, steps}
use Rattle.rack_spec.specs.Held.{finished_by, finished_at}
use Rattle.rack_spec.specs.Finding.{plan_grid}
use Rattle.rack_spec.specs.Answers.{Told, finishes, done, telling_or, told_at, past_end, no_board}
use Rattle.rack_spec.proofs.Told.{finish_told, finish_some}
use Rattle.rack_spec.proofs.Boards.{cells_fit}
use Rattle.rack_spec.proofs.Refusing.{plan_due, plan_passed}
use Rattle.run_spec.specs.Entries.{is_none, work_cells, small_area, no_finish, view_checks, view_refusal, view_of, view_or, viewing}
use Rattle.run_spec.proofs.Moved.{region_room}
use Rattle.run_spec.specs.Taking.{told_before}

module _ (g : Grid) where
  pub before_none : (at : ℕ) → at ≡ 0 → done ≡ told_before g at
  unfolding told_before
  before_none at e = rw e refl

  pub before_some : (at : ℕ) (t : Told) → (at ≡ 0 → ⊥) → t ≡ told_at g (steps g) (at - 1) → t ≡ told_before g at
  unfolding told_before
  before_some zero t h e = absurd (h refl)
  before_some (suc at) t h e = let z : suc at - 1 ≡ at = omega arith in e ∙ ap (told_at g (steps g)) z

  pub finished_is : Lawful g → (at mask : ℕ) → finishes mask ≡ told_before g at → (finished_at g at ≡ some (summed g mask)) × Down (summed g mask) g.axes
  unfolding told_before finished_at
  finished_is ok zero mask e = absurd (let z : ◌≡◌ {A = ℕ} 0 1 = cc in omega arith)
  finished_is ok (suc at) mask e = let f = finish_told g ok at mask e in (ap finished_by f.0, f.1)

  -- nothing but a finish finishes
  pub other_none : (at : ℕ) (t : Told) → t ≡ told_before g at → ((mask : ℕ) → finishes mask ≡ t → ⊥) → finished_at g at ≡ none
  unfolding told_before finished_at told_at
  other_none zero t e never = refl
  other_none (suc at) t e never = go (get_elem? (steps g) at) e
    where
      go : (o : Option TreeStep) → t ≡ telling_or g o → finished_by o ≡ none
      go none e = refl
      go (some (expand Y)) e = refl
      go (some (transfer Y s r n)) e = refl
      go (some (finish Y)) e = absurd (never _ (sym e))

-- ---- the refusals of viewing

module _ (q : Plan) (work at b : ℕ) where
  pub view_due : (plan_refusal q ≡ 0 → ⊥) → plan_refusal q ≡ view_refusal q work at b
  unfolding view_refusal view_checks
  view_due h = sym (plan_due q _ h)

  module _ (h : plan_refusal q ≡ 0) where
    others : view_refusal q work at b ≡ first (check 11 (small_area (lists_of q) work) ∷ check 12 (past_end (lists_of q) at || (no_finish (lists_of q) at || no_board (lists_of q) b)) ∷ [])
    unfolding view_refusal view_checks
    others = plan_passed q _ h

    pub view_area : work < work_cells (lists_of q) → 11 ≡ view_refusal q work at b
    unfolding first small_area
    view_area l = rw (others, lt-ltb work (work_cells (lists_of q)) l) refl

    module _ (l : work_cells (lists_of q) ≤ work) where
      pub view_past : step_count (lists_of q) < at → 12 ≡ view_refusal q work at b
      unfolding first small_area past_end
      view_past k = rw (others, le-ltb work (work_cells (lists_of q)) l, lt-ltb (step_count (lists_of q)) at k) refl

      module _ (k : at ≤ step_count (lists_of q)) where
        pub view_unfinished : not (is_none (finished_at (plan_grid q) at)) ≡ false → 12 ≡ view_refusal q work at b
        unfolding first small_area past_end no_finish
        view_unfinished t = rw (others, le-ltb work (work_cells (lists_of q)) l, le-ltb (step_count (lists_of q)) at k, not-false (is_none (finished_at (plan_grid q) at)) t) refl

        module _ (t : not (is_none (finished_at (plan_grid q) at)) ≡ true) where
          pub view_outside : board_count (lists_of q) ≤ b → 12 ≡ view_refusal q work at b
          unfolding first small_area past_end no_finish no_board
          view_outside m = rw (others, le-ltb work (work_cells (lists_of q)) l, le-ltb (step_count (lists_of q)) at k, not-true (is_none (finished_at (plan_grid q) at)) t, le-leb (board_count (lists_of q)) b m) refl

          pub view_passed : b < board_count (lists_of q) → 0 ≡ view_refusal q work at b
          unfolding first small_area past_end no_finish no_board
          view_passed m = rw (others, le-ltb work (work_cells (lists_of q)) l, le-ltb (step_count (lists_of q)) at k, not-true (is_none (finished_at (plan_grid q) at)) t, lt-leb (board_count (lists_of q)) b m) refl

-- ---- what no refusal of viewing leaves over

pub record Showing (q : Plan) (work at b : ℕ) : Type 0 where
  pub plan : plan_refusal q ≡ 0
  pub room : work_cells (lists_of q) ≤ work
  pub board : b < board_count (lists_of q)

pub showing : (q : Plan) (work at b : ℕ) → view_refusal q work at b ≡ 0 → Showing q work at b
showing q work at b z =
    by (eqb (plan_refusal q) 0)
    (λ t.
    let p = eqb-true (plan_refusal q) 0 t in
    by (ltb work (work_cells (lists_of q)))
    (λ u. let s = view_area q work at b p (ltb-true _ _ u) in absurd (omega arith))
    (λ u.
    let r = ltb-false work (work_cells (lists_of q)) u in
    by (ltb (step_count (lists_of q)) at)
    (λ v. let s = view_past q work at b p r (ltb-true _ _ v) in absurd (omega arith))
    (λ v.
    let k = ltb-false (step_count (lists_of q)) at v in
    by (not (is_none (finished_at (plan_grid q) at)))
    (λ w.
    by (leb (board_count (lists_of q)) b)
    (λ x. let s = view_outside q work at b p r k w (leb-true _ _ x) in absurd (omega arith))
    (λ x. record { plan = p; room = r; board = leb-false (board_count (lists_of q)) b x }))
    (λ w. let s = view_unfinished q work at b p r k w in absurd (omega arith)))))
    (λ t. let ne = eqb-false (plan_refusal q) 0 t in let s = view_due q work at b ne in absurd (ne (s ∙ z)))

-- ---- the part

module _ (q : Plan) (work : List ℤ) (at b : ℕ) where
  pub shown_refused : (n : ℕ) → n ≡ view_refusal q (length work) at b → (n ≡ 0 → ⊥) → [] ≡ viewing q work at b
  unfolding viewing
  shown_refused n e h = rw (← e) (go n h)
    where
      go : (n : ℕ) → (n ≡ 0 → ⊥) → [] ≡ view_or n (plan_grid q) work at b
      go zero h = absurd (h refl)
      go (suc n) h = unfold view_or in refl

  module _ (z : view_refusal q (length work) at b ≡ 0) where
    pub shown : viewing q work at b ≡ view_of (plan_grid q) (finished_at (plan_grid q) at) b work
    unfolding viewing view_or
    shown = rw z refl

-- a finished choice is not the root, and its cells lie within the work area
pub finished_some : (g : Grid) (at : ℕ) (Y : List ℕ) → finished_at g at ≡ some Y → 0 < next Y
unfolding finished_at
finished_some g zero Y e = absurd (let z : ◌≡◌ {A = ℕ} 0 1 = cc in omega arith)
finished_some g (suc at) Y e = go (get_elem? (steps g) at) refl e
  where
    go : (o : Option TreeStep) → get_elem? (steps g) at ≡ o → finished_by o ≡ some Y → 0 < next Y
    go none f e = absurd (let z : ◌≡◌ {A = ℕ} 0 1 = cc in omega arith)
    go (some (expand Z)) f e = absurd (let z : ◌≡◌ {A = ℕ} 0 1 = cc in omega arith)
    go (some (transfer Z s r n)) f e = absurd (let z : ◌≡◌ {A = ℕ} 0 1 = cc in omega arith)
    go (some (finish Z)) f e = let y : Z ≡ Y = cc in rw (← y) (finish_some g at Z f)

pub cells_room : (g : Grid) → Lawful g → (b : ℕ) (Y : List ℕ) (w : ℕ) → 0 < next Y → Down Y g.axes → b < boards g → boards g * share g ≤ w → (next Y - 1 ≡ last_of Y) × (index g b (last_of Y) 0 + cells g Y b ≤ w)
cells_room g ok b [] w h d on m = absurd (omega arith)
cells_room g ok b (k ∷ Z) w h d on m = (omega arith, region_room g b k (cells g (k ∷ Z) b) w on d.0 (cells_fit g ok Z b k on) m)
