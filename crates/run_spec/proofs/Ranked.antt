-- A lead and its rank among the leads of a choice tell each other.
use Prim.Native.Nat.{ℕ, ◌<◌}
use mathlib.Core.Path.{◌≡◌, sym, ◌∙◌, refl}
use mathlib.Core.Bool.{true}
use mathlib.Core.List.{List, []}
use native.Mathlib.Omega.{arith}
use lib.ListN.{get_or}
use Rattle.cube_spec.specs.Tree.{has, kept}
use Rattle.cube_spec.proofs.Boxing.{place_cong, place_lt, place_position, position_place, position_lt}
use Rattle.cube_spec.proofs.Sets.{Down, down_lt, kept_has, kept_out}
use Rattle.cube_spec.proofs.Sums.{by}
use Rattle.plan_spec.specs.declared.types.Plan.{Plan}
use Rattle.plan_spec.specs.Accepted.{Accepted}
use Rattle.rack_spec.specs.Grids.{Grid, Lawful, summed_by, summed, boards, board_with, label, lead}
use Rattle.rack_spec.specs.Finding.{plan_grid, summed_in, leads, lead_label, lead_at, Labels}
use Rattle.rack_spec.proofs.Boards.{label_lt}
use Rattle.rack_spec.proofs.Moving.{lead_each, lead_none}
use Rattle.rack_spec.proofs.Planned.{label_with, board_with_lem, board_labels, set_down}
use Rattle.rack_spec.proofs.Tallied.{lawful, axes_same}
use Rattle.run_spec.specs.Copies.{rank_of}
use Rattle.run_spec.specs.Expansions.{Own}

module _ (g : Grid) (ok : Lawful g) (Y : List ℕ) (down : Down Y g.axes) where
  -- ---- from a rank to its lead

  module _ (r : ℕ) (below : r < leads g Y) where
    in_kept : (d : ℕ) → d < g.axes → lead_label g Y r d < kept Y g.parts d
    unfolding lead_label leads
    in_kept d h = position_lt (kept Y g.parts) g.axes 0 r d below (omega arith) (omega arith)

    pub in_parts : (d : ℕ) → d < g.axes → lead_label g Y r d < g.parts d
    in_parts d h =
        let k = in_kept d h in
        by (has Y d)
        (λ t. let e = kept_has g.parts Y d t in let s = ok.some d h in omega arith)
        (λ t. let e = kept_out g.parts Y d t in omega arith)

    pub label_at : (d : ℕ) → d < g.axes → label g (lead_at g Y r) d ≡ lead_label g Y r d
    unfolding lead_at
    label_at d h = label_with g ok (lead_label g Y r) in_parts d h

    pub lead_inside : lead_at g Y r < boards g
    unfolding lead_at
    lead_inside = board_with_lem g ok (lead_label g Y r) in_parts

    -- labels that spell the rank give the lead
    pub lead_of_labels : (x : ℕ → ℕ) → ((d : ℕ) → d < g.axes → x d ≡ lead_label g Y r d) → board_with g x ≡ lead_at g Y r
    unfolding lead_at board_with
    lead_of_labels x h = place_cong g.axes 0 (λ i l u. refl) (λ i l u. h i (omega arith))

    pub lead_true : lead g Y (lead_at g Y r) ≡ true
    lead_true =
        by (lead g Y (lead_at g Y r))
        (λ t. t)
        (λ t. absurd (
        let w = lead_none g ok Y (lead_at g Y r) t in
        let d = down_lt Y g.axes w.0 down w.1 in
        let k = in_kept w.0 d in
        let e = kept_has g.parts Y w.0 w.1 in
        let l = label_at w.0 d in
        w.2 (omega arith)))

    pub rank_at : rank_of g Y (lead_at g Y r) ≡ r
    unfolding rank_of lead_label leads
    rank_at = place_cong g.axes 0 (λ i l u. refl) (λ i l u. label_at i (omega arith)) ∙ place_position (kept Y g.parts) g.axes 0 r below

  -- ---- from a lead to its rank

  module _ (b : ℕ) (on : b < boards g) (t : lead g Y b ≡ true) where
    own_kept : (d : ℕ) → d < g.axes → label g b d < kept Y g.parts d
    own_kept d h =
        by (has Y d)
        (λ s. let e = kept_has g.parts Y d s in let z = lead_each g ok Y b d t s in omega arith)
        (λ s. let e = kept_out g.parts Y d s in let l = label_lt g ok b d on h in omega arith)

    pub rank_lt : rank_of g Y b < leads g Y
    unfolding rank_of leads
    rank_lt = place_lt g.axes 0 (λ i l u. own_kept i (omega arith))

    pub at_rank : lead_at g Y (rank_of g Y b) ≡ b
    unfolding lead_at lead_label rank_of board_with
    at_rank =
        place_cong g.axes 0 (λ i l u. refl) (λ i l u. position_place g.axes 0 i (λ j m v. own_kept j (omega arith)) (omega arith) (omega arith))
        ∙ board_labels g b on

-- of the root every board is a lead, and its number is its rank
root_first : (g : Grid) (b : ℕ) → b < leads g [] → (b < boards g) × (lead g [] b ≡ true) × (lead_at g [] b ≡ b)
unfolding leads lead_at lead_label boards kept has label lead
root_first g b h = (h, refl, board_labels g b h)

pub root_lead : (g : Grid) (Y : List ℕ) (b : ℕ) → Y ≡ [] → b < leads g Y → (b < boards g) × (lead g Y b ≡ true) × (lead_at g Y b ≡ b)
root_lead g Y b e h = rw e (root_first g b (rw e at h))

-- ---- of a machine's plan

module _ {q : Plan} (ok : Accepted q) (mask r : ℕ) (below : r < leads (plan_grid q) (summed_in q mask)) where
  set : Down (summed_in q mask) (plan_grid q).axes
  unfolding summed
  set = set_down (summed_by (plan_grid q) mask) (plan_grid q).axes

  pub ranked_inside : lead_at (plan_grid q) (summed_in q mask) r < boards (plan_grid q)
  ranked_inside = lead_inside (plan_grid q) (lawful q ok) (summed_in q mask) set r below

  pub ranked_lead : lead (plan_grid q) (summed_in q mask) (lead_at (plan_grid q) (summed_in q mask) r) ≡ true
  ranked_lead = lead_true (plan_grid q) (lawful q ok) (summed_in q mask) set r below

  -- labels that spell the rank are those of the lead
  module _ (labels : List ℕ) (spelt : (d : ℕ) → d < q.axes → get_or labels d 0 ≡ lead_label (plan_grid q) (summed_in q mask) r d) where
    pub ranked_own : Own q (lead_at (plan_grid q) (summed_in q mask) r) labels
    ranked_own d h = let x = axes_same q ok in spelt d h ∙ sym (label_at (plan_grid q) (lawful q ok) (summed_in q mask) set r below d (omega arith))

    pub ranked_labels : Labels q labels
    ranked_labels d h = let x = axes_same q ok in rw (spelt d h) (in_parts (plan_grid q) (lawful q ok) (summed_in q mask) set r below d (omega arith))

    pub ranked_board : board_with (plan_grid q) (λ d. get_or labels d 0) ≡ lead_at (plan_grid q) (summed_in q mask) r
    ranked_board = let x = axes_same q ok in lead_of_labels (plan_grid q) (lawful q ok) (summed_in q mask) set r below (λ d. get_or labels d 0) (λ d h. spelt d (omega arith))
