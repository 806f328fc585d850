-- The step at a position of a walk and of a visit, part by part, as the code descends.
use Prim.Native.Nat.{ℕ, zero, suc, ◌+◌, ◌-◌, ◌*◌, ◌^◌, ◌≤◌, ◌<◌, min}
use mathlib.Core.Path.{◌≡◌, sym, ◌∙◌, refl, ap, ap₂}
use mathlib.Core.Bool.{Bool, true, false, not}
use mathlib.Core.List.{List, [], ◌∷◌, ◌++◌}
use native.Mathlib.Nat.{zero-add, sub-zero, le_refl, mul-le-mul}
use native.Mathlib.Omega.{arith}
use borrow.Author.Tests.{leb-true, leb-false}
use lib.Dec.{leb}
use lib.ListN.{length, get_or, get_elem?}
use lib.Pow.{pow_pos}
use Rattle.cube_spec.specs.Boxes.{pick, product}
use Rattle.cube_spec.specs.Choices.{keeps, full_mask, without_mask}
use Rattle.cube_spec.specs.Limits.{axis_limit}
use Rattle.cube_spec.specs.Tree.{has, kept, last_of, parent_of}
use Rattle.cube_spec.proofs.Sums.{by}
use Rattle.cube_spec.proofs.Naturals.{clash, sum_n_but_one}
use Rattle.cube_spec.proofs.Digits.{without_kept, without_summed}
use Rattle.cube_spec.proofs.Products.{product_le, product_append, product_pos}
use Rattle.cube_spec.proofs.Sets.{Down, down_out, has_head, has_other, kept_has, kept_out}
use Rattle.plan_spec.specs.Refusals.{plan_refusal}
use Rattle.plan_spec.specs.declared.types.Plan.{Plan}
use Rattle.plan_spec.specs.Accepted.{Accepted}
use Rattle.plan_spec.proofs.PricingLaws.{few_axes}
use Rattle.rack_spec.specs.Grids.{Grid, Lawful, set_of, summed_by, summed, mask_of, boards}
use Rattle.rack_spec.specs.Steps.{TreeStep, expand, finish, transfers, around, walk, steps}
use Rattle.rack_spec.specs.Counts.{span, labellings, walk_count}
use Rattle.rack_spec.specs.Finding.{plan_grid, summed_in, leads, found, Walking, Sending, Forming}
use Rattle.rack_spec.specs.Answers.{Told, done, expands, finishes, telling, telling_or, told_at}
use Rattle.rack_spec.proofs.Tallies.{labellings_kept, labellings_summed, labellings_leads, walk_count_lem}
use Rattle.rack_spec.proofs.Tallied.{lawful, axes_same, boards_few, labellings_none}
use Rattle.rack_spec.proofs.Masks.{mask_set, set_mask}
use Rattle.rack_spec.proofs.Planned.{order_slot, has_slot, set_down, full_set}
use Rattle.rack_spec.proofs.Leading.{inside, past, transfers_count, transfers_at}

-- ---- a set told by a test that holds of no place from d on

pub set_below : (f : ℕ → Bool) (n d : ℕ) → ((e : ℕ) → d ≤ e → e < n → f e ≡ false) → Down (set_of f n) d
unfolding set_of
set_below f zero d h = tt
set_below f (suc n) d h =
    by (f n)
    (λ t. rw t (by_less t, set_down f n))
    (λ t. rw t (set_below f n d (λ e l r. h e l (omega arith))))
  where
    by_less : f n ≡ true → n < d
    by_less t = by (leb d n) (λ s. clash (sym t ∙ h n (leb-true d n s) (omega arith))) (λ s. leb-false d n s)

-- ---- a mask with one axis more summed out

module _ (g : Grid) (ok : Lawful g) (Y : List ℕ) (d : ℕ) (h : d < g.axes) (out : has Y d ≡ false) where
  pub mask_less : mask_of g Y ≡ mask_of g (d ∷ Y) + 2 ^ g.order d
  unfolding mask_of
  mask_less =
      sum_n_but_one g.axes (g.order d) (2 ^ g.order d) (λ a. pick (has Y (g.rank a)) 0 (2 ^ a)) (λ a. pick (has (d ∷ Y) (g.rank a)) 0 (2 ^ a)) (ok.order_lt d h)
      (let r = ok.rank_order d h in rw (r, out, has_head d Y) (sym (zero-add _)))
      (λ a l ne. ap (λ t. pick t 0 (2 ^ a)) (sym (has_other d (g.rank a) Y (λ z. ne (sym (ok.order_rank a l) ∙ ap g.order z)))))

without_le : (mask a : ℕ) → without_mask mask a ≤ mask
without_le mask a = by (keeps mask a) (λ t. rw (without_kept mask a t) (omega arith)) (λ t. rw (without_summed mask a t) (le_refl mask))

-- ---- the places below a place

module _ {q : Plan} (ok : Accepted q) {mask d n : ℕ} (w : Walking q mask d n) where
  law : Lawful (plan_grid q)
  law = lawful q ok

  left : d + (q.axes - d) ≡ (plan_grid q).axes
  left = let e = axes_same q ok in omega (arith, w.within)

  pub down : Down (summed_in q mask) d
  unfolding summed
  down = let a = axes_same q ok in set_below (summed_by (plan_grid q) mask) (plan_grid q).axes d (λ e l r. unfold summed_by in ap not (w.later e l (omega arith)))

  pub mask_back : mask_of (plan_grid q) (summed_in q mask) ≡ mask
  unfolding summed
  mask_back = let e = axes_same q ok in mask_set (plan_grid q) law mask (rw e w.small)

  -- as many steps as the code counts
  pub counted : length (walk (plan_grid q) (q.axes - d) d (summed_in q mask)) ≡ walk_count (plan_grid q) (q.axes - d) d n
  counted = walk_count_lem (plan_grid q) law (q.axes - d) d (summed_in q mask) left down ∙ ap (walk_count (plan_grid q) (q.axes - d) d) (sym w.exact)

  kept_le : (i : ℕ) → i < (plan_grid q).axes → kept (summed_in q mask) (plan_grid q).parts i ≤ (plan_grid q).parts i
  kept_le i h =
      by (has (summed_in q mask) i)
      (λ t. rw (kept_has (plan_grid q).parts (summed_in q mask) i t) (law.some i h))
      (λ t. rw (kept_out (plan_grid q).parts (summed_in q mask) i t) (le_refl _))

  pub few : n ≤ 1024
  unfolding labellings boards
  few =
      let e = axes_same q ok in
      let x = w.exact in
      let b = boards_few q ok in
      let a = product_le (kept (summed_in q mask) (plan_grid q).parts) (plan_grid q).parts d 0 (λ i l r. kept_le i (omega (arith, w.within))) in
      let s = ap (λ m. product (plan_grid q).parts m 0) (sym left) ∙ product_append (plan_grid q).parts d (q.axes - d) 0 in
      let p = product_pos (plan_grid q).parts (q.axes - d) (0 + d) (λ i l r. law.some i (omega (arith, w.within))) in
      let m = mul-le-mul {n₁ = product (plan_grid q).parts d 0} {m₁ = 1} {n₂ = product (plan_grid q).parts d 0} {m₂ = product (plan_grid q).parts (q.axes - d) (0 + d)} (le_refl _) p in
      omega arith

  module _ (h : d < q.axes) where
    here : d < (plan_grid q).axes
    here = let e = axes_same q ok in omega arith

    after : d + suc (q.axes - (d + 1)) ≡ (plan_grid q).axes
    after = let e = axes_same q ok in omega arith

    pub fuel : q.axes - d ≡ suc (q.axes - (d + 1))
    fuel = omega arith

    -- axis d kept
    pub kept_on : Walking q mask (d + 1) (n * (plan_grid q).parts d)
    kept_on =
        record {
          passed = w.passed;
          within = omega arith;
          small = w.small;
          later = λ e l r. w.later e (omega arith) r;
          exact = ap (λ x. x * (plan_grid q).parts d) w.exact ∙ sym (labellings_kept (plan_grid q) law d (summed_in q mask) down);
        }

    -- axis d summed out
    abbrev pub child : ℕ
    child = without_mask mask (get_or q.order d 0)

    child_mask : mask_of (plan_grid q) (d ∷ summed_in q mask) ≡ child
    child_mask =
        let a = mask_less (plan_grid q) law (summed_in q mask) d here (down_out (summed_in q mask) d d down (le_refl d)) in
        let b = mask_back in
        let c = without_kept mask ((plan_grid q).order d) (w.later d (le_refl d) h) in
        rw (order_slot q ok d h) (omega arith)

    pub child_set : summed_in q child ≡ d ∷ summed_in q mask
    unfolding summed
    child_set = set_mask (plan_grid q) law (d ∷ summed_in q mask) child (here, down) child_mask

    pub summed_out : Walking q child (d + 1) n
    summed_out =
        record {
          passed = w.passed;
          within = omega arith;
          small = let l = without_le mask (get_or q.order d 0) in omega (arith, w.small);
          later = λ e l r. ap (keeps child) (sym (order_slot q ok e r)) ∙ has_slot q ok child e r ∙ ap (λ Z. not (has Z e)) child_set ∙ ap not (down_out (d ∷ summed_in q mask) (d + 1) e (omega arith, down) l);
          exact = w.exact ∙ sym (labellings_summed (plan_grid q) law d (summed_in q mask)) ∙ ap (labellings (plan_grid q) (d + 1)) (sym child_set);
        }

    pub forming : (b : ℕ) → b < boards (plan_grid q) → Forming q mask child b
    forming b l = record { passed = w.passed; inside = l; child_of = ap parent_of child_set }

    -- as many transfers stand between as the code counts
    child_leads : leads (plan_grid q) (d ∷ summed_in q mask) ≡ n * span (plan_grid q) (q.axes - (d + 1)) (d + 1)
    unfolding leads
    child_leads = labellings_leads (plan_grid q) law (q.axes - (d + 1)) d (summed_in q mask) after down ∙ ap (λ x. x * span (plan_grid q) (q.axes - (d + 1)) (d + 1)) (sym w.exact)

    pub sent_count : length (transfers (plan_grid q) (d ∷ summed_in q mask) (boards (plan_grid q))) ≡ n * span (plan_grid q) (q.axes - (d + 1)) (d + 1) * ((plan_grid q).parts d - 1)
    sent_count = transfers_count (plan_grid q) law (d ∷ summed_in q mask) (here, down) ∙ ap (λ x. x * ((plan_grid q).parts d - 1)) child_leads

    pub sending : {at : ℕ} → at < n * span (plan_grid q) (q.axes - (d + 1)) (d + 1) * ((plan_grid q).parts d - 1) → Sending q child d at
    sending l =
        record {
          passed = w.passed;
          within = h;
          small = summed_out.small;
          last = ap last_of child_set;
          below = rw (child_set, child_leads) l;
        }

-- ---- what is told at a position of two lists joined

module _ (g : Grid) where
  told_inside : (l k : List TreeStep) (at c : ℕ) → length l ≡ c → at < c → told_at g (l ++ k) at ≡ told_at g l at
  unfolding told_at
  told_inside l k at c e h = ap (telling_or g) (inside l k at (rw e h))

  told_past : (l k : List TreeStep) (at c : ℕ) → length l ≡ c → c ≤ at → told_at g (l ++ k) at ≡ told_at g k (at - c)
  unfolding told_at
  told_past l k at c e h = ap (telling_or g) (past l k at (rw e h) ∙ ap (λ n. get_elem? k (at - n)) e)

  -- a list of one step
  alone : (s : TreeStep) (at : ℕ) → at ≡ 0 → telling g s ≡ told_at g (s ∷ []) at
  unfolding told_at
  alone s at e = rw e refl

  alone_past : (s : TreeStep) (at : ℕ) → (at ≡ 0 → ⊥) → done ≡ told_at g (s ∷ []) at
  unfolding told_at
  alone_past s zero h = absurd (h refl)
  alone_past s (suc at) h = refl

module _ {q : Plan} (ok : Accepted q) {mask d n : ℕ} (w : Walking q mask d n) where
  abbrev told_walk : ℕ → Told
  told_walk at = told_at (plan_grid q) (walk (plan_grid q) (q.axes - d) d (summed_in q mask)) at

  abbrev told_visit : ℕ → Told
  told_visit at = told_at (plan_grid q) (around (summed_in q mask) (q.axes - d) (walk (plan_grid q) (q.axes - d) d (summed_in q mask))) at

  -- ---- no child more

  module _ (h : d ≡ q.axes) where
    none_left : q.axes - d ≡ 0
    none_left = omega arith

    pub walk_done : (at : ℕ) → done ≡ told_walk at
    unfolding walk told_at
    walk_done at = rw none_left refl

    one_left : around (summed_in q mask) (q.axes - d) (walk (plan_grid q) (q.axes - d) d (summed_in q mask)) ≡ finish (summed_in q mask) ∷ []
    unfolding walk
    one_left = rw none_left refl

    pub leaf_finish : {at : ℕ} → at ≡ 0 → finishes mask ≡ told_visit at
    leaf_finish {at} e = ap finishes (sym (mask_back ok w)) ∙ alone (plan_grid q) (finish (summed_in q mask)) at e ∙ ap (λ l. told_at (plan_grid q) l at) (sym one_left)

    pub leaf_done : {at : ℕ} → (at ≡ 0 → ⊥) → done ≡ told_visit at
    leaf_done {at} e = alone_past (plan_grid q) (finish (summed_in q mask)) at e ∙ ap (λ l. told_at (plan_grid q) l at) (sym one_left)

  module _ (h : d < q.axes) where
    abbrev siblings : List TreeStep
    siblings = walk (plan_grid q) (q.axes - (d + 1)) (d + 1) (summed_in q mask)

    abbrev sent : List TreeStep
    sent = transfers (plan_grid q) (d ∷ summed_in q mask) (boards (plan_grid q))

    abbrev visited : List TreeStep
    visited = around (d ∷ summed_in q mask) (q.axes - (d + 1)) (walk (plan_grid q) (q.axes - (d + 1)) (d + 1) (d ∷ summed_in q mask))

    parted : walk (plan_grid q) (q.axes - d) d (summed_in q mask) ≡ siblings ++ (sent ++ visited)
    unfolding walk
    parted = rw (fuel ok w h) refl

    -- ---- the walk: the later children, the transfers, the visit

    pub as_long : {later : ℕ} → later ≡ walk_count (plan_grid q) (q.axes - (d + 1)) (d + 1) (n * (plan_grid q).parts d) → length siblings ≡ later
    as_long e = counted ok (kept_on ok w h) ∙ sym e

    pub as_many : {count : ℕ} → count ≡ n * span (plan_grid q) (q.axes - (d + 1)) (d + 1) * ((plan_grid q).parts d - 1) → length sent ≡ count
    as_many o = sent_count ok w h ∙ sym o

    module _ {later at : ℕ} (e : later ≡ walk_count (plan_grid q) (q.axes - (d + 1)) (d + 1) (n * (plan_grid q).parts d)) where
      pub walk_later : at < later → told_at (plan_grid q) siblings at ≡ told_walk at
      walk_later l = sym (ap (λ s. told_at (plan_grid q) s at) parted ∙ told_inside (plan_grid q) siblings (sent ++ visited) at later (as_long e) l)

      module _ (l : later ≤ at) where
        behind : told_walk at ≡ told_at (plan_grid q) (sent ++ visited) (at - later)
        behind = ap (λ s. told_at (plan_grid q) s at) parted ∙ told_past (plan_grid q) siblings (sent ++ visited) at later (as_long e) l

        module _ {count : ℕ} (o : count ≡ n * span (plan_grid q) (q.axes - (d + 1)) (d + 1) * ((plan_grid q).parts d - 1)) where
          pub walk_sends : at - later < count → telling (plan_grid q) (found (plan_grid q) (summed_in q (child ok w h)) (at - later)) ≡ told_walk at
          walk_sends r =
              let b : at - later < leads (plan_grid q) (d ∷ summed_in q mask) * ((plan_grid q).parts d - 1) = rw (child_leads ok w h) (omega arith) in
              let f = transfers_at (plan_grid q) (lawful q ok) (d ∷ summed_in q mask) (here ok w h, down ok w) (at - later) b in
              ap (λ Z. telling (plan_grid q) (found (plan_grid q) Z (at - later))) (child_set ok w h)
              ∙ sym (behind ∙ told_inside (plan_grid q) sent visited (at - later) count (as_many o) r ∙ (unfold told_at in ap (telling_or (plan_grid q)) f))

          pub walk_visits : count ≤ at - later → told_at (plan_grid q) (around (summed_in q (child ok w h)) (q.axes - (d + 1)) (walk (plan_grid q) (q.axes - (d + 1)) (d + 1) (summed_in q (child ok w h)))) (at - later - count) ≡ told_walk at
          walk_visits r =
              ap (λ Z. told_at (plan_grid q) (around Z (q.axes - (d + 1)) (walk (plan_grid q) (q.axes - (d + 1)) (d + 1) Z)) (at - later - count)) (child_set ok w h)
              ∙ sym (behind ∙ told_past (plan_grid q) sent visited (at - later) count (as_many o) r)

    -- ---- the visit: the expansion, the walk, the finish

    abbrev inner : List TreeStep
    inner = walk (plan_grid q) (q.axes - d) d (summed_in q mask)

    opened : around (summed_in q mask) (q.axes - d) inner ≡ (expand (summed_in q mask) ∷ []) ++ (inner ++ (finish (summed_in q mask) ∷ []))
    opened = ap (λ m. around (summed_in q mask) m inner) (fuel ok w h)

    pub visit_first : {at : ℕ} → at ≡ 0 → expands mask ≡ told_visit at
    visit_first {at} e =
        ap expands (sym (mask_back ok w)) ∙ alone (plan_grid q) (expand (summed_in q mask)) at e
        ∙ sym (ap (λ s. told_at (plan_grid q) s at) opened ∙ told_inside (plan_grid q) (expand (summed_in q mask) ∷ []) (inner ++ (finish (summed_in q mask) ∷ [])) at 1 refl (omega arith))

    as_counted : {below : ℕ} → below ≡ walk_count (plan_grid q) (q.axes - d) d n → length inner ≡ below
    as_counted e = counted ok w ∙ sym e

    module _ {at : ℕ} (z : at ≡ 0 → ⊥) where
      further : told_visit at ≡ told_at (plan_grid q) (inner ++ (finish (summed_in q mask) ∷ [])) (at - 1)
      further = ap (λ s. told_at (plan_grid q) s at) opened ∙ told_past (plan_grid q) (expand (summed_in q mask) ∷ []) (inner ++ (finish (summed_in q mask) ∷ [])) at 1 refl (omega (arith, z))

    module _ {below at : ℕ} (e : below ≡ walk_count (plan_grid q) (q.axes - d) d n) (z : at ≡ 0 → ⊥) where
      pub visit_walks : at - 1 < below → told_walk (at - 1) ≡ told_visit at
      visit_walks l = sym (further z ∙ told_inside (plan_grid q) inner (finish (summed_in q mask) ∷ []) (at - 1) below (as_counted e) l)

      ended : below ≤ at - 1 → told_visit at ≡ told_at (plan_grid q) (finish (summed_in q mask) ∷ []) (at - 1 - below)
      ended l = further z ∙ told_past (plan_grid q) inner (finish (summed_in q mask) ∷ []) (at - 1) below (as_counted e) l

      pub visit_last : at - 1 ≡ below → finishes mask ≡ told_visit at
      visit_last l = ap finishes (sym (mask_back ok w)) ∙ alone (plan_grid q) (finish (summed_in q mask)) (at - 1 - below) (omega arith) ∙ sym (ended (omega arith))

      pub visit_past : below ≤ at - 1 → (at - 1 ≡ below → ⊥) → done ≡ told_visit at
      visit_past l ne = alone_past (plan_grid q) (finish (summed_in q mask)) (at - 1 - below) (λ r. ne (omega arith)) ∙ sym (ended l)

-- ---- the whole list

module _ {q : Plan} (ok : Accepted q) (passed : plan_refusal q ≡ 0) where
  pub root_walking : Walking q (full_mask (min q.axes axis_limit)) 0 1
  root_walking =
      let f = few_axes ok in
      let m : min q.axes axis_limit ≡ q.axes = omega arith in
      record {
        passed = passed;
        within = omega arith;
        small = let p = pow_pos q.axes in rw m (unfold full_mask in omega arith);
        later = λ e l r. ap (keeps (full_mask (min q.axes axis_limit))) (sym (order_slot q ok e r)) ∙ has_slot q ok (full_mask (min q.axes axis_limit)) e r ∙ ap (λ Z. not (has Z e)) (full_set q ok) ∙ (unfold has in refl);
        exact = sym (ap (labellings (plan_grid q) 0) (full_set q ok) ∙ labellings_none (plan_grid q));
      }

  pub steps_first : {at : ℕ} → at ≡ 0 → expands (full_mask (min q.axes axis_limit)) ≡ told_at (plan_grid q) (steps (plan_grid q)) at
  unfolding steps told_at
  steps_first {at} e = rw e (ap expands (sym (mask_back ok root_walking) ∙ ap (mask_of (plan_grid q)) (full_set q ok)))

  pub steps_later : {at : ℕ} → (at ≡ 0 → ⊥) → told_at (plan_grid q) (walk (plan_grid q) (q.axes - 0) 0 (summed_in q (full_mask (min q.axes axis_limit)))) (at - 1) ≡ told_at (plan_grid q) (steps (plan_grid q)) at
  unfolding steps
  steps_later {at} e =
      ap₂ (λ m Z. told_at (plan_grid q) (walk (plan_grid q) m 0 Z) (at - 1)) (sub-zero q.axes ∙ sym (axes_same q ok)) (full_set q ok)
      ∙ sym (told_past (plan_grid q) (expand [] ∷ []) (walk (plan_grid q) (plan_grid q).axes 0 []) at 1 refl (omega (arith, e)))
