-- The search for a step, part by part as the code descends: what its numbers are in the plan, and what is found there.
use Rattle.std.proofs.Common.{ℕ, zero, suc, ◌+◌, ◌-◌, ◌*◌, ◌/◌, ◌%◌, ◌^◌, ◌≤◌, ◌<◌, min, ◌≡◌, sym, ◌∙◌, ap, arith, get_or}
use Rattle.std.proofs.lemmas.Nat.{shl_whole}
use native.Mathlib.Nat.{mul_comm, mul-le-mul, mul-div_cancel, le_refl}
use lib.Pow.{pow_pos}
use Rattle.cube_spec.specs.Limits.{axis_limit}
use Rattle.cube_spec.specs.Choices.{full_mask, without_mask}
use Rattle.plan_spec.specs.Accepted.{Accepted}
use Rattle.plan_spec.specs.Refusals.{plan_refusal}
use Rattle.plan_spec.specs.declared.types.Plan.{Plan}
use Rattle.plan_spec.proofs.PricingLaws.{few_axes}
use Rattle.rack_spec.specs.Counts.{span, marks, walk_count}
use Rattle.rack_spec.specs.Finding.{plan_grid, summed_in, found, Sending}
use Rattle.rack_spec.proofs.Tallied as Tallied
use Rattle.rack_spec.proofs.Tallied.{parts_slot, exponent_small, span_next, span_small}
use Rattle.rack_spec.specs.Steps.{visit, walk}
use Rattle.rack_spec.specs.Answers.{Told, done, expands, finishes, telling, told_at}
use Rattle.rack_spec.proofs.Seeking.{few, kept_on, summed_out, sending, leaf_finish, leaf_done, visit_first, visit_walks, visit_last, visit_past, walk_done, walk_later, walk_sends, walk_visits, root_walking}
use Rattle.rack_count.specs.Tallied.{Tallied}
use Rattle.rack_count.specs.declared.counts.Tally.{Tally}
use Rattle.rack_count.specs.declared.counts.Tallies.{Tallies}
use Rattle.rack_count.proofs.Tallying.{nothing, tallied_at, tally_small}
use Rattle.rack_find.specs.Searching.{Searching}

shared : (n p m : ℕ) → (n * p - n) * m ≡ n * m * (p - 1)
shared n zero m = let e : n * zero - n ≡ 0 = omega arith in rw e (omega arith)
shared n (suc p) m = let e : n * suc p - n ≡ n * p = omega arith in let f : suc p - 1 ≡ p = omega arith in rw (e, f) (omega arith)

module _ {q : Plan} {t : Tallies} {mask d n rest : ℕ} (z : Searching q t mask d n rest) where
  pub places : q.axes ≤ 8
  places = few_axes z.accepted

  -- an axis is left
  pub left : (d ≡ q.axes → ⊥) → d < q.axes
  left f = omega (arith, z.walking.within, f)

  pub labellings_few : n ≤ 1024
  labellings_few = few z.accepted z.walking

  pub sent_few : (i : ℕ) → i ≤ q.axes → (get_or t.places i nothing).sent ≤ 262144
  sent_few i l = rw (tallied_at q z.accepted z.tallied i l) (tally_small q z.accepted i l).1

  -- as many steps as the code counts from a place on
  pub count_is : (i m c : ℕ) → i ≤ q.axes → c ≡ (get_or t.places i nothing).sent * m + marks (q.axes - i) → c ≡ walk_count (plan_grid q) (q.axes - i) i m
  unfolding walk_count
  count_is i m c l e = e ∙ ap (λ (x : Tally). x.sent * m + marks (q.axes - i)) (tallied_at q z.accepted z.tallied i l)

  -- ---- what is told at a position of the walk, and of the visit

  abbrev told_walk : ℕ → Told
  told_walk at = told_at (plan_grid q) (walk (plan_grid q) (q.axes - d) d (summed_in q mask)) at

  abbrev told_visit : ℕ → Told
  told_visit at = told_at (plan_grid q) (visit (walk (plan_grid q) (q.axes - d) d) (q.axes - d) (summed_in q mask)) at

  -- no axis is left
  pub none_walked : d ≡ q.axes → (at : ℕ) → done ≡ told_walk at
  none_walked = walk_done z.accepted z.walking

  pub leaf_finished : d ≡ q.axes → {at : ℕ} → at ≡ 0 → finishes mask ≡ told_visit at
  leaf_finished = leaf_finish z.accepted z.walking

  pub leaf_over : d ≡ q.axes → {at : ℕ} → (at ≡ 0 → ⊥) → done ≡ told_visit at
  leaf_over = leaf_done z.accepted z.walking

  -- an axis is left
  module _ (h : d < q.axes) where
    abbrev pub axis : ℕ
    axis = get_or q.order d 0

    abbrev pub k : ℕ
    k = get_or q.exponents axis 0

    -- with the axis kept as many labellings more, those of the axes after it, and the transfers of the child, as the code works them out
    abbrev pub more : ℕ
    more = n * 2 ^ k % 18446744073709551616

    abbrev pub after : ℕ
    after = rest / 2 ^ k

    abbrev pub sends : ℕ
    sends = (more - n) * after

    pub axis_fits : axis < 8
    axis_fits = Tallied.axis_fits q z.accepted d h

    pub k_small : k ≤ 10
    k_small = exponent_small q z.accepted d h

    power_is : 2 ^ k ≡ (plan_grid q).parts d
    power_is = parts_slot q z.accepted d h

    more_is : more ≡ n * (plan_grid q).parts d
    more_is =
        let a = labellings_few in
        let b = k_small in
        shl_whole n 11 k 64 (omega arith) (omega arith) ∙ ap (λ x. n * x) power_is

    -- the labellings of the axes after this one
    pub after_is : after ≡ span (plan_grid q) (q.axes - (d + 1)) (d + 1)
    after_is =
        let s = z.spans ∙ span_next (plan_grid q) q.axes d h in
        let p = ap (λ x. x * span (plan_grid q) (q.axes - (d + 1)) (d + 1)) (sym power_is) ∙ mul_comm (2 ^ k) _ in
        ap (λ x. x / 2 ^ k) (s ∙ p) ∙ mul-div_cancel _ (pow_pos k)

    -- the axis kept, and the axis summed out
    pub kept_next : Searching q t mask (d + 1) more after
    kept_next = record { accepted = z.accepted; tallied = z.tallied; walking = rw more_is (kept_on z.accepted z.walking h); spans = after_is }

    pub summed_next : Searching q t (without_mask mask axis) (d + 1) n after
    summed_next = record { accepted = z.accepted; tallied = z.tallied; walking = summed_out z.accepted z.walking h; spans = after_is }

    pub more_few : more ≤ 1024
    more_few = few z.accepted kept_next.walking

    pub more_least : n ≤ more
    more_least =
        let p = pow_pos k in
        let m = mul-le-mul {n₁ = n} {m₁ = 1} {n₂ = n} {m₂ = 2 ^ k} (le_refl n) p in
        rw (more_is, ← power_is) (omega arith)

    pub sends_few : sends ≤ 1048576
    sends_few =
        let a = more_few in
        let b : after ≤ 1024 = rw after_is (span_small q z.accepted (d + 1) (omega (arith, h))) in
        mul-le-mul {n₁ = more - n} {m₁ = after} {n₂ = 1024} {m₂ = 1024} (omega arith) b

    -- the transfers of the child
    pub sends_are : sends ≡ n * span (plan_grid q) (q.axes - (d + 1)) (d + 1) * ((plan_grid q).parts d - 1)
    sends_are = rw (more_is, after_is) (shared n ((plan_grid q).parts d) (span (plan_grid q) (q.axes - (d + 1)) (d + 1)))

    -- the visit: expanded first, then the walk, then finished
    pub expanded : {at : ℕ} → at ≡ 0 → expands mask ≡ told_visit at
    expanded = visit_first z.accepted z.walking h

    module _ {below at : ℕ} (e : below ≡ (get_or t.places d nothing).sent * n + marks (q.axes - d)) (some : at ≡ 0 → ⊥) where
      counted : below ≡ walk_count (plan_grid q) (q.axes - d) d n
      counted = count_is d n below (omega arith) e

      pub walked : at - 1 < below → told_walk (at - 1) ≡ told_visit at
      walked = visit_walks z.accepted z.walking h counted some

      pub finished : at - 1 ≡ below → finishes mask ≡ told_visit at
      finished = visit_last z.accepted z.walking h counted some

      pub over : below ≤ at - 1 → (at - 1 ≡ below → ⊥) → done ≡ told_visit at
      over = visit_past z.accepted z.walking h counted some

    -- the walk: the later children, then the transfers of this one, then its visit
    module _ {later : ℕ} (e : later ≡ (get_or t.places (d + 1) nothing).sent * more + marks (q.axes - (d + 1))) where
      counted_later : later ≡ walk_count (plan_grid q) (q.axes - (d + 1)) (d + 1) (n * (plan_grid q).parts d)
      counted_later = count_is (d + 1) _ later (omega arith) e ∙ ap (walk_count (plan_grid q) (q.axes - (d + 1)) (d + 1)) more_is

      pub later_walked : {at : ℕ} → at < later → told_at (plan_grid q) (walk (plan_grid q) (q.axes - (d + 1)) (d + 1) (summed_in q mask)) at ≡ told_walk at
      later_walked = walk_later z.accepted z.walking h counted_later

      module _ {child at : ℕ} (c : child ≡ without_mask mask axis) (l : later ≤ at) where
        pub sent_found : at - later < sends
            → telling (plan_grid q) (found (plan_grid q) (summed_in q child) (at - later)) ≡ told_walk at
        sent_found r = rw c (walk_sends z.accepted z.walking h counted_later l sends_are r)

        pub sendable : at - later < sends → Sending q child d (at - later)
        sendable r = rw c (sending z.accepted z.walking h (rw sends_are at r))

        pub child_visited : {t : Told} → sends ≤ at - later
            → t ≡ told_at (plan_grid q) (visit (walk (plan_grid q) (q.axes - (d + 1)) (d + 1)) (q.axes - (d + 1)) (summed_in q child)) (at - later - sends)
            → t ≡ told_walk at
        child_visited r v =
            v ∙ ap (λ x. told_at (plan_grid q) (visit (walk (plan_grid q) (q.axes - (d + 1)) (d + 1)) (q.axes - (d + 1)) (summed_in q x)) (at - later - sends)) c
            ∙ walk_visits z.accepted z.walking h counted_later l sends_are r

-- the search begins at the root: every axis is kept, and none stands before place 0
pub root_searching : {q : Plan} (ok : Accepted q) → plan_refusal q ≡ 0 → {t : Tallies} → Tallied q t
    → {mask rest : ℕ} → mask ≡ full_mask (min q.axes axis_limit) → rest ≡ (get_or t.places 0 nothing).span
    → Searching q t mask 0 1 rest
root_searching {q} ok passed h e r =
    record { accepted = ok; tallied = h; walking = rw e (root_walking ok passed); spans = r ∙ ap (λ (x : Tally). x.span) (tallied_at q ok h 0 (omega arith)) }
