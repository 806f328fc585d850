-- The transfer that the code finds among those of a choice, and what a board forms.
use Prim.Native.Nat.{ℕ, zero, suc, ◌+◌, ◌-◌, ◌*◌, ◌/◌, ◌%◌, ◌^◌, ◌<◌}
use mathlib.Core.Path.{◌≡◌, sym, ◌∙◌, refl, ap}
use mathlib.Core.Bool.{true, false}
use mathlib.Core.List.{List}
use native.Mathlib.Nat.{div-lt_iff_lt-mul, mod-lt, mul-zero}
use native.Mathlib.Numerals.{add-one}
use native.Mathlib.Omega.{arith}
use borrow.Author.Tests.{eqb-true, eqb-false}
use lib.Dec.{eqb}
use lib.ListN.{length, get_or, set}
use lib.Seq.{get_or-set_same, get_or-set_other}
use Rattle.cube_spec.specs.Boxes.{put}
use Rattle.cube_spec.specs.Tree.{has, kept, parent_of}
use Rattle.cube_spec.proofs.Sums.{by, put_same, put_other}
use Rattle.cube_spec.proofs.Boxing.{position_lt}
use Rattle.cube_spec.proofs.Sets.{kept_has, kept_out}
use Rattle.plan_spec.specs.declared.types.Plan.{Plan}
use Rattle.plan_spec.specs.Accepted.{Accepted}
use Rattle.plan_spec.proofs.PricingLaws.{few_axes}
use Rattle.rack_spec.specs.Grids.{summed, mask_of, board_with, with_label, label, lead, cells}
use Rattle.rack_spec.specs.Held.{own}
use Rattle.rack_spec.specs.Finding.{plan_grid, summed_in, leads, lead_label, lead_at, found, Labels, Sending, Forming}
use Rattle.rack_spec.specs.Answers.{transfers, telling}
use Rattle.rack_spec.proofs.Tallied.{lawful, axes_same, parts_small}
use Rattle.rack_spec.proofs.Masks.{mask_set}
use Rattle.rack_spec.proofs.Planned.{label_with, board_same}

-- ---- what a board forms

module _ {q : Plan} {parent child b : ℕ} (f : Forming q parent child b) where
  same_parent : lead (plan_grid q) (parent_of (summed_in q child)) b ≡ lead (plan_grid q) (summed_in q parent) b
  same_parent = ap (λ Y. lead (plan_grid q) Y b) f.child_of

  pub own_formed : lead (plan_grid q) (summed_in q parent) b ≡ true → cells (plan_grid q) (summed_in q child) b ≡ own (plan_grid q) b (summed_in q child)
  unfolding own
  own_formed t = rw (same_parent ∙ t) refl

  pub own_none : lead (plan_grid q) (summed_in q parent) b ≡ false → 0 ≡ own (plan_grid q) b (summed_in q child)
  unfolding own
  own_none t = rw (same_parent ∙ t) refl

-- ---- the transfer at a position

pub factor_some : (a b c : ℕ) → c < a * b → 0 < b
factor_some a zero c h = let z = mul-zero a in absurd (omega arith)
factor_some a (suc b) c h = omega arith

module _ {q : Plan} {mask d at : ℕ} (s : Sending q mask d at) where
  pub others_some : 0 < (plan_grid q).parts d - 1
  others_some = factor_some (leads (plan_grid q) (summed_in q mask)) ((plan_grid q).parts d - 1) at s.below

  pub rank_in : at / ((plan_grid q).parts d - 1) < leads (plan_grid q) (summed_in q mask)
  rank_in = (div-lt_iff_lt-mul {k = (plan_grid q).parts d - 1} others_some).1 s.below

module _ {q : Plan} (ok : Accepted q) {mask d at : ℕ} (s : Sending q mask d at) where
  pub label_fits : at % ((plan_grid q).parts d - 1) + 1 < (plan_grid q).parts d
  label_fits = let m = mod-lt at (others_some s) in omega arith

  module _ (labels : List ℕ) where
    abbrev Lead : Type 0
    Lead = (i : ℕ) → i < q.axes → get_or labels i 0 ≡ lead_label (plan_grid q) (summed_in q mask) (at / ((plan_grid q).parts d - 1)) i

    pub lead_fits : Lead → Labels q labels
    unfolding lead_label leads
    lead_fits known i h =
        let e = axes_same q ok in
        let p = position_lt (kept (summed_in q mask) (plan_grid q).parts) (plan_grid q).axes 0 (at / ((plan_grid q).parts d - 1)) i (rank_in s) (omega arith) (omega arith) in
        let k = known i h in
        let one = (parts_small q ok i h).0 in
        by (has (summed_in q mask) i)
        (λ t. let z = kept_has (plan_grid q).parts (summed_in q mask) i t in omega arith)
        (λ t. let z = kept_out (plan_grid q).parts (summed_in q mask) i t in omega arith)

    abbrev changed : List ℕ
    changed = set labels d (at % ((plan_grid q).parts d - 1) + 1)

    in_slots : length labels ≡ 8 → d < length labels
    in_slots n = let f = few_axes ok in omega (arith, s.within)

    pub sender_fits : length labels ≡ 8 → Lead → Labels q changed
    sender_fits n known i h =
        by (eqb i d)
        (λ t. rw (eqb-true i d t, get_or-set_same labels d (at % ((plan_grid q).parts d - 1) + 1) 0 (in_slots n)) label_fits)
        (λ t. rw (get_or-set_other labels d i (at % ((plan_grid q).parts d - 1) + 1) 0 (eqb-false i d t)) (lead_fits known i h))

    module _ (n : length labels ≡ 8) (known : Lead) where
      lead_board : board_with (plan_grid q) (λ i. get_or labels i 0) ≡ lead_at (plan_grid q) (summed_in q mask) (at / ((plan_grid q).parts d - 1))
      unfolding lead_at
      lead_board = let e = axes_same q ok in board_same (plan_grid q) (λ i. get_or labels i 0) (lead_label (plan_grid q) (summed_in q mask) (at / ((plan_grid q).parts d - 1))) (λ i h. known i (omega arith))

      own_label : (i : ℕ) → i < (plan_grid q).axes → label (plan_grid q) (board_with (plan_grid q) (λ i. get_or labels i 0)) i ≡ get_or labels i 0
      own_label i h = label_with (plan_grid q) (lawful q ok) (λ i. get_or labels i 0) (λ i h. let e = axes_same q ok in lead_fits known i (omega arith)) i h

      sender_board : board_with (plan_grid q) (λ i. get_or changed i 0) ≡ with_label (plan_grid q) (board_with (plan_grid q) (λ i. get_or labels i 0)) d (suc (at % ((plan_grid q).parts d - 1)))
      unfolding with_label
      sender_board =
          board_same (plan_grid q) (λ i. get_or changed i 0) (put (label (plan_grid q) (board_with (plan_grid q) (λ i. get_or labels i 0))) d (suc (at % ((plan_grid q).parts d - 1))))
          (λ i h. by (eqb i d)
          (λ t. rw (eqb-true i d t, get_or-set_same labels d (at % ((plan_grid q).parts d - 1) + 1) 0 (in_slots n), put_same (label (plan_grid q) (board_with (plan_grid q) (λ i. get_or labels i 0))) d (suc (at % ((plan_grid q).parts d - 1)))) (add-one _))
          (λ t. get_or-set_other labels d i (at % ((plan_grid q).parts d - 1) + 1) 0 (eqb-false i d t) ∙ sym (own_label i h) ∙ sym (put_other (label (plan_grid q) (board_with (plan_grid q) (λ i. get_or labels i 0))) d (suc (at % ((plan_grid q).parts d - 1))) i (eqb-false i d t))))

      pub sent_told : {receiver sender values : ℕ} → receiver ≡ board_with (plan_grid q) (λ i. get_or labels i 0) → sender ≡ board_with (plan_grid q) (λ i. get_or changed i 0)
          → values ≡ cells (plan_grid q) (summed_in q mask) (board_with (plan_grid q) (λ i. get_or changed i 0))
          → transfers sender receiver mask values ≡ telling (plan_grid q) (found (plan_grid q) (summed_in q mask) at)
      unfolding found summed
      sent_told er es ev =
          let e = axes_same q ok in
          let small : mask < 2 ^ (plan_grid q).axes = rw e s.small in
          let m : mask_of (plan_grid q) (summed_in q mask) ≡ mask = mask_set (plan_grid q) (lawful q ok) mask small in
          rw (er, es, ev, sender_board, lead_board, s.last, m) refl
