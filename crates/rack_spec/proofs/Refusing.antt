-- The refusals of an entry that takes a plan and more: the plan's come first, and are passed over when none is due.
use Prim.Native.Nat.{ℕ, ◌*◌, ◌%◌, ◌^◌, ◌≤◌, ◌<◌}
use mathlib.Core.Path.{◌≡◌, sym, ◌∙◌, refl}
use mathlib.Core.Bool.{true, ◌||◌}
use mathlib.Core.List.{List, [], ◌∷◌, ◌++◌}
use native.Mathlib.Omega.{arith}
use Rattle.std.proofs.lemmas.Nat.{one_shl}
use borrow.Author.Tests.{lt-ltb, le-ltb, le-leb, lt-leb}
use Rattle.cube_spec.specs.Checks.{Check, check, first, gives, refuses, answered}
use Rattle.std.specs.Prelude.{Result, Ok, Err}
use Rattle.cube_spec.specs.Refusals.{number_of, refused_by}
use Rattle.cube_spec.specs.declared.refusals.Refusal.{Refusal}
use Rattle.cube_spec.proofs.Answered.{given, error}
use Rattle.cube_spec.proofs.Numbers.{number_positive}
use Rattle.cube_spec.proofs.Dues.{Numbered, first_due, first_passed}
use Rattle.plan_spec.specs.Plans.{lists_of, board_count, step_count}
use Rattle.plan_spec.specs.Refusals.{length_checks, plan_checks, plan_refusal}
use Rattle.plan_spec.specs.declared.types.Plan.{Plan}
use Rattle.rack_spec.specs.Held.{held}
use Rattle.rack_spec.specs.Finding.{plan_grid}
use Rattle.rack_spec.specs.Answers.{past_end, no_board, held_checks, held_refusal, holding}

pub plan_numbered : (q : Plan) → Numbered (plan_checks q)
unfolding plan_checks length_checks
plan_numbered q = (omega arith, (omega arith, (omega arith, (omega arith, (omega arith, (omega arith, tt))))))

-- a check that gives a refusal is due
pub some_due : (e : Refusal) {n : ℕ} → number_of e ≡ n → n ≡ 0 → ⊥
some_due e h z = let s = number_positive e in omega arith

-- and so is one where a result is not Ok
pub not_ok : {A : Type 0} (r : Result A Refusal) → ((x : A) → r ≡ Ok x → ⊥) → refused_by r ≡ 0 → ⊥
not_ok (Ok x) n z = n x refl
not_ok (Err e) n z = some_due e refl z

module _ (q : Plan) (r : List Check) where
  pub plan_due : (plan_refusal q ≡ 0 → ⊥) → first (plan_checks q ++ r) ≡ plan_refusal q
  unfolding plan_refusal
  plan_due h = first_due (plan_checks q) r h

  -- the same by the refusal that says so
  pub plan_refused : (e : Refusal) → number_of e ≡ plan_refusal q → first (plan_checks q ++ r) ≡ number_of e
  plan_refused e h = plan_due (some_due e h) ∙ sym h

  pub plan_passed : plan_refusal q ≡ 0 → first (plan_checks q ++ r) ≡ first r
  unfolding plan_refusal
  plan_passed h = first_passed (plan_checks q) r (plan_numbered q) h

-- ---- held

module _ (q : Plan) (at b : ℕ) where
  abbrev answer : ℕ
  answer = held (plan_grid q) at b

  pub held_due : (e : Refusal) → number_of e ≡ plan_refusal q → refuses (number_of e) ≡ holding q at b
  unfolding holding held_refusal held_checks
  held_due e h = error e _ answer (sym (plan_refused q _ e h))

  module _ (h : plan_refusal q ≡ 0) where
    last : held_refusal q at b ≡ first (check 12 (past_end (lists_of q) at || no_board (lists_of q) b) ∷ [])
    unfolding held_refusal held_checks
    last = plan_passed q _ h

    last_due : (past_end (lists_of q) at || no_board (lists_of q) b) ≡ true → refuses 12 ≡ holding q at b
    unfolding holding first answered
    last_due t = rw (last, t) refl

    pub held_past : step_count (lists_of q) < at → refuses 12 ≡ holding q at b
    held_past l = last_due (unfold past_end in rw (lt-ltb (step_count (lists_of q)) at l) refl)

    pub held_outside : at ≤ step_count (lists_of q) → board_count (lists_of q) ≤ b → refuses 12 ≡ holding q at b
    held_outside l k = last_due (unfold past_end no_board in rw (le-ltb (step_count (lists_of q)) at l, le-leb (board_count (lists_of q)) b k) refl)

    pub held_given : at ≤ step_count (lists_of q) → b < board_count (lists_of q) → gives answer ≡ holding q at b
    unfolding holding first past_end no_board
    held_given l k = given (held_refusal q at b) answer (last ∙ rw (le-ltb (step_count (lists_of q)) at l, lt-leb (board_count (lists_of q)) b k) refl)

-- 2^p, as a shift of w bits gives it
pub boards_shifted : (q : Plan) (w : ℕ) → q.p < w → (1 * 2 ^ q.p) % 2 ^ w ≡ board_count (lists_of q)
unfolding board_count lists_of
boards_shifted q w h = one_shl q.p w h
