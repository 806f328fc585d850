-- Laws of the rack's cells, of the plan in two slices and of the refusals.
use Prim.Native.Nat.{ℕ, suc, ◌+◌, ◌≤◌, ◌<◌}
use mathlib.Core.Path.{◌≡◌, refl, sym, ap, subst, ◌∙◌}
use mathlib.Core.List.{List, [], ◌∷◌, ◌++◌, append-nil}
use native.Mathlib.Omega.{arith}
use borrow.Author.Tests.{eqb-true, eqb-false, eq-eqb, ne_eqb, lt-ltb, le-ltb}
use lib.Dec.{eqb}
use borrow.Rule.Slice.PartMut.{put_mid}
use lib.ListN.{length, take, drop, set, get_or, length-drop, length-append, length-set, drop_of_length-le}
use lib.Seq.{sets, sets-eq, length-sets, take_all, length-take-le, take-append_seam, drop-append_seam}
use Rattle.cube_spec.specs.Checks.{check, first, gives, refuses}
use Rattle.cube_spec.specs.Refusals.{number_of}
use Rattle.cube_spec.specs.declared.refusals.Refusal.{Refusal}
use Rattle.cube_spec.proofs.Sums.{by}
use Rattle.cube_spec.proofs.Dues.{Numbered}
use Rattle.cube_spec.proofs.Slots.{padded_length}
use Rattle.cube_spec.proofs.Stores.{joined}
use Rattle.plan_spec.specs.declared.types.Plan.{Plan}
use Rattle.plan_spec.specs.declared.types.Marked.{Marked}
use Rattle.plan_spec.specs.Plans.{step_count, lists_of, slotted}
use Rattle.plan_spec.specs.Accepted.{HasSlots}
use Rattle.plan_spec.specs.Refusals.{plan_checks, length_checks, plan_refusal}
use Rattle.plan_spec.specs.Answers.{marked_of, pricing}
use Rattle.rack_spec.specs.Steps.{steps}
use Rattle.rack_spec.proofs.Refusing.{plan_numbered, plan_due, plan_passed}
use Rattle.rack_spec.specs.Held as Held
use Rattle.rack_spec.specs.Finding.{plan_grid}
use Rattle.rack_spec.specs.Answers.{Told, told_at, past_end, held_checks, held_refusal, holding, counting}
use Rattle.campaign_slices.specs.Lent.{lent_refusal, written_or}
use Rattle.campaign_slices.specs.Racks.{no_plan, plan_from, bytes_of, price_refusal, count_refusal, at_checks, at_refusal, hold_refusal, cells_told, cells_priced, mark_cell, priced, counted, stepped_at, held}
use Rattle.campaign_slices.proofs.Lending.{copied, some, refused, passed, told, not_told}

-- ---- copies

-- all cells of a list
all : (s l : List ℕ) → length l ≡ length s → sets s 0 l ≡ l
all s l h = sets-eq l s 0 (omega arith) ∙ rw (drop_of_length-le s {i = 0 + length l} (omega arith), append-nil l)

-- ---- the plan

module _ (small lengths : List ℕ) where
  pub no_small : (length small ≡ 18 → ⊥) → no_plan ≡ plan_from small lengths
  unfolding plan_from
  no_small h = rw (ne_eqb (length small) 18 h)

  module _ (h : length small ≡ 18) where
    pub no_lengths : (length lengths ≡ 8 → ⊥) → no_plan ≡ plan_from small lengths
    unfolding plan_from
    no_lengths k = rw (eq-eqb (length small) 18 h, ne_eqb (length lengths) 8 k)

    pub plan_is : length lengths ≡ 8 → (l o e : List ℕ) → l ≡ lengths → o ≡ take 8 (drop 2 small) → e ≡ take 8 (drop 10 small)
        → ◌≡◌ {A = Plan} (record { axes = get_or small 0 0; p = get_or small 1 0; lengths = l; order = o; exponents = e }) (plan_from small lengths)
    unfolding plan_from
    plan_is k l o e el eo ee = rw (eq-eqb (length small) 18 h, eq-eqb (length lengths) 8 k, el, eo, ee)

-- whatever the slices, the plan's arrays have their slots
pub from_slots : (small lengths : List ℕ) → HasSlots (plan_from small lengths)
from_slots small lengths =
    by (eqb (length small) 18)
    (λ t. by (eqb (length lengths) 8) (λ u. both (eqb-true _ _ t) (eqb-true _ _ u)) (λ u. subst HasSlots (no_lengths small lengths (eqb-true _ _ t) (eqb-false _ _ u)) none))
    (λ t. subst HasSlots (no_small small lengths (eqb-false _ _ t)) none)
  where
    none : HasSlots no_plan
    none = unfold no_plan slotted in (padded_length [], (padded_length [], padded_length []))

    both : length small ≡ 18 → length lengths ≡ 8 → HasSlots (plan_from small lengths)
    both h k =
        let d = length-drop 2 small in
        let c = length-drop 10 small in
        subst HasSlots (plan_is small lengths h k _ _ _ refl refl refl) (k, (length-take-le 8 (drop 2 small) (omega arith), length-take-le 8 (drop 10 small) (omega arith)))

-- and back
module _ (q : Plan) (eight : length q.order ≡ 8) (cut : length q.exponents ≡ 8) where
  stored : (s : List ℕ) → length s ≡ 18 → sets (sets (set (set s 0 q.axes) 1 q.p) 2 q.order) 10 q.exponents ≡ bytes_of q
  unfolding bytes_of
  stored s h =
      let l = length-append q.order q.exponents in
      let j = joined (set (set s 0 q.axes) 1 q.p) 2 q.order q.exponents in
      let n : 2 + length q.order ≡ 10 = omega arith in
      rw n at (sym j) ∙ all s (q.axes ∷ q.p ∷ (q.order ++ q.exponents)) (omega arith)

  pub put_is : (s o e : List ℕ) → length s ≡ 18 → o ≡ q.order → e ≡ q.exponents → put_mid 10 8 (put_mid 2 8 (set (set s 0 q.axes) 1 q.p) o) e ≡ bytes_of q
  put_is s o e h eo ee =
      let m = length-set s 0 q.axes in
      let n = length-set (set s 0 q.axes) 1 q.p in
      let l = length-sets (set (set s 0 q.axes) 1 q.p) 2 q.order in
      let first = copied (set (set s 0 q.axes) 1 q.p) o q.order 2 8 (omega arith) eo eight in
      rw first (copied _ e q.exponents 10 8 (omega arith) ee cut ∙ stored s h)

  -- what is put is the plan that is taken
  pub taken_back : length q.lengths ≡ 8 → plan_from (bytes_of q) q.lengths ≡ q
  unfolding bytes_of plan_from
  taken_back k =
      let l = length-append q.order q.exponents in
      let n : suc (suc (length (q.order ++ q.exponents))) ≡ 18 = omega arith in
      let a : take 8 (q.order ++ q.exponents) ≡ q.order = ap (λ i. take i (q.order ++ q.exponents)) (sym eight) ∙ take-append_seam q.order q.exponents in
      let b : drop 8 (q.order ++ q.exponents) ≡ q.exponents = ap (λ i. drop i (q.order ++ q.exponents)) (sym eight) ∙ drop-append_seam q.order q.exponents in
      let c : take 8 q.exponents ≡ q.exponents = take_all 8 q.exponents (omega arith) in
      rw (eq-eqb (suc (suc (length (q.order ++ q.exponents)))) 18 n, eq-eqb (length q.lengths) 8 k, a, b, c)

-- ---- the refusals

held_numbered : (q : Plan) (at b : ℕ) → Numbered (held_checks q at b)
unfolding held_checks plan_checks length_checks
held_numbered q at b = (omega arith, (omega arith, (omega arith, (omega arith, (omega arith, (omega arith, (omega arith, tt)))))))

at_numbered : (q : Plan) (at : ℕ) → Numbered (at_checks q at)
unfolding at_checks plan_checks length_checks
at_numbered q at = (omega arith, (omega arith, (omega arith, (omega arith, (omega arith, (omega arith, (omega arith, tt)))))))

-- ---- the entries: a refusal, and the cells of an answer that are put

module _ (q : Plan) (s : List ℕ) where
  pub count_refused : (k : ℕ) → refuses k ≡ counting q → (k ≡ count_refusal q (length s)) × (s ≡ counted q s)
  unfolding counting plan_refusal count_refusal counted
  count_refused k h = not_told (plan_checks q) 1 s (step_count (lists_of q)) (λ n. n ∷ []) k h

  pub count_given : (n : ℕ) → gives n ≡ counting q → (r : ℕ) (w : List ℕ) → (r ≡ lent_refusal [] 1 (length s)) × (w ≡ written_or r (n ∷ []) s)
      → (r ≡ count_refusal q (length s)) × (w ≡ counted q s)
  unfolding counting plan_refusal count_refusal counted
  count_given n h r w e = told (plan_checks q) 1 s (step_count (lists_of q)) (λ n. n ∷ []) (plan_numbered q) n h r w e

  pub held_refused : (at b k : ℕ) → refuses k ≡ holding q at b → (k ≡ hold_refusal q at b (length s)) × (s ≡ held q at b s)
  unfolding holding held_refusal hold_refusal held
  held_refused at b k h = not_told (held_checks q at b) 1 s (Held.held (plan_grid q) at b) (λ n. n ∷ []) k h

  pub held_given : (at b n : ℕ) → gives n ≡ holding q at b → (r : ℕ) (w : List ℕ) → (r ≡ lent_refusal [] 1 (length s)) × (w ≡ written_or r (n ∷ []) s)
      → (r ≡ hold_refusal q at b (length s)) × (w ≡ held q at b s)
  unfolding holding held_refusal hold_refusal held
  held_given at b n h r w e = told (held_checks q at b) 1 s (Held.held (plan_grid q) at b) (λ n. n ∷ []) (held_numbered q at b) n h r w e

  abbrev marked_cells : Marked → List ℕ
  marked_cells m = cells_priced m.prices (mark_cell m.fewest)

  pub price_refused : (k : ℕ) → refuses k ≡ pricing q → (k ≡ price_refusal q (length s)) × (s ≡ priced q s)
  unfolding pricing plan_refusal price_refusal priced
  price_refused k h = not_told (plan_checks q) 4 s (marked_of (lists_of q)) marked_cells k h

  pub price_given : (m : Marked) → gives m ≡ pricing q → (r : ℕ) (w : List ℕ) → (r ≡ lent_refusal [] 4 (length s)) × (w ≡ written_or r (cells_priced m.prices (mark_cell m.fewest)) s)
      → (r ≡ price_refusal q (length s)) × (w ≡ priced q s)
  unfolding pricing plan_refusal price_refusal priced
  price_given m h r w e = told (plan_checks q) 4 s (marked_of (lists_of q)) marked_cells (plan_numbered q) m h r w e

  -- the step at a position: the plan's refusal, a position past the end, and one that is not
  module _ (at : ℕ) where
    pub at_refused : (x : Refusal) → number_of x ≡ plan_refusal q → (number_of x ≡ at_refusal q at (length s)) × (s ≡ stepped_at q at s)
    unfolding at_checks at_refusal stepped_at
    at_refused x h =
        let due = plan_due q (check 12 (past_end (lists_of q) at) ∷ []) (λ y. some x (h ∙ y)) in
        refused (at_checks q at) 5 s (number_of x) (h ∙ sym due) (some x) _

    module _ (h : plan_refusal q ≡ 0) where
      at_first : first (at_checks q at) ≡ first (check 12 (past_end (lists_of q) at) ∷ [])
      unfolding at_checks
      at_first = plan_passed q _ h

      pub at_past : step_count (lists_of q) < at → (12 ≡ at_refusal q at (length s)) × (s ≡ stepped_at q at s)
      unfolding at_refusal stepped_at first past_end
      at_past l =
          let f : 12 ≡ first (at_checks q at) = rw (at_first, lt-ltb (step_count (lists_of q)) at l) refl in
          refused (at_checks q at) 5 s 12 f (λ z. omega arith) _

      pub at_given : at ≤ step_count (lists_of q) → (t : Told) → t ≡ told_at (plan_grid q) (steps (plan_grid q)) at
          → (r : ℕ) (w : List ℕ) → (r ≡ lent_refusal [] 5 (length s)) × (w ≡ written_or r (cells_told t) s) → (r ≡ at_refusal q at (length s)) × (w ≡ stepped_at q at s)
      unfolding at_refusal stepped_at first past_end
      at_given l t et r w e =
          let f : first (at_checks q at) ≡ 0 = rw (at_first, le-ltb (step_count (lists_of q)) at l) refl in
          passed (at_checks q at) 5 s (at_numbered q at) f r _ w e.0 (e.1 ∙ ap (λ x. written_or r (cells_told x) s) et)
