-- The tallies of a plan, place by place from the last axis on.
use Rattle.std.proofs.Common.{ℕ, ◌+◌, ◌-◌, ◌*◌, ◌≤◌, ◌<◌, ◌≡◌, List, length, get_or, set, replicate, eqb, arith, sym, ap, ◌∙◌, zero-add}
use Rattle.std.proofs.lemmas.List.{ext_get_or, get_or-set_same, get_or-set_other, get_or-replicate}
use native.Mathlib.Nat.{mul-le-mul}
use borrow.Author.Tests.{eqb-true, eqb-false}
use Rattle.cube_spec.specs.Limits.{axis_limit}
use Rattle.cube_spec.specs.Boxes.{table}
use Rattle.cube_spec.proofs.Tables.{table_length, table_at}
use Rattle.cube_spec.proofs.Sums.{by}
use Rattle.plan_spec.specs.Accepted.{Accepted}
use Rattle.plan_spec.specs.declared.types.Plan.{Plan}
use Rattle.plan_spec.proofs.PricingLaws.{few_axes}
use Rattle.rack_spec.specs.Finding.{plan_grid}
use Rattle.rack_count.specs.Tallied.{Tallied, tally}
use Rattle.rack_count.specs.declared.counts.Tally.{Tally}
use Rattle.rack_count.specs.declared.counts.Tallies.{Tallies}
use Rattle.rack_spec.proofs.Tallied.{span_end, span_next, sendings_end, sendings_next, span_small, sendings_small}

-- as many places as a walk may begin at: one for each axis, and the end
abbrev pub places : ℕ
places = axis_limit + 1

abbrev pub nothing : Tally
nothing = record { span = 0; sent = 0 }

-- the places from d on are filled
abbrev pub Filled : Plan → List Tally → ℕ → Type 0
Filled q r d = (i : ℕ) → d ≤ i → i < places → get_or r i nothing ≡ tally q i

-- a tally from that of the next place, where an axis is cut into p portions
abbrev pub before : ℕ → Tally → Tally
before p t = record { span = p * t.span; sent = t.sent * (p + 1) + t.span * (p - 1) }

pub turn_fits : (s k p : ℕ) → s ≤ 262144 → k ≤ 1024 → p ≤ 1024 → (p * k < 4294967296) × (s * (p + 1) < 4294967296) × (k * (p - 1) < 4294967296) × (s * (p + 1) + k * (p - 1) < 4294967296)
turn_fits s k p a b c =
    let x = mul-le-mul {n₁ = s} {m₁ = p + 1} {n₂ = 262144} {m₂ = 1025} a (omega arith) in
    let y = mul-le-mul {n₁ = k} {m₁ = p - 1} {n₂ = 1024} {m₂ = 1024} b (omega arith) in
    let z = mul-le-mul {n₁ = p} {m₁ = k} {n₂ = 1024} {m₂ = 1024} c b in
    (omega arith, omega arith, omega arith, omega arith)

module _ (q : Plan) (ok : Accepted q) where
  pub filled_none : Filled q (replicate 9 (record { span = 1; sent = 0 })) q.axes
  filled_none i l h = get_or-replicate 9 i (record { span = 1; sent = 0 }) nothing h ∙ rw (span_end (plan_grid q) q.axes i l, sendings_end (plan_grid q) q.axes i l)

  pub tally_small : (d : ℕ) → d ≤ q.axes → ((tally q d).span ≤ 1024) × ((tally q d).sent ≤ 262144)
  tally_small d l = (span_small q ok d l, sendings_small q ok d l)

  module _ (r : List Tally) (d : ℕ) (h : Filled q r d) (s : 0 < d) (l : d ≤ q.axes) (n : length r ≡ 9) where
    pub here : get_or r (d - 1 + 1) nothing ≡ tally q d
    here = let f = few_axes ok in let e : d - 1 + 1 ≡ d = omega arith in rw e (h d (omega arith) (omega arith))

    pub turn_small : (p : ℕ) → p ≤ 1024 → let t = get_or r (d - 1 + 1) nothing in (p * t.span < 4294967296) × (t.sent * (p + 1) < 4294967296) × (t.span * (p - 1) < 4294967296) × (t.sent * (p + 1) + t.span * (p - 1) < 4294967296)
    turn_small p b = let s = tally_small d l in rw here (turn_fits _ _ p s.1 s.0 b)

    turn : before ((plan_grid q).parts (d - 1)) (tally q d) ≡ tally q (d - 1)
    turn =
        let e : d - 1 + 1 ≡ d = omega arith in
        rw (span_next (plan_grid q) q.axes (d - 1) (omega arith), sendings_next (plan_grid q) q.axes (d - 1) (omega arith), e)

    pub filled_more : (p : ℕ) → p ≡ (plan_grid q).parts (d - 1) → Filled q (set r (d - 1) (before p (get_or r (d - 1 + 1) nothing))) (d - 1)
    filled_more p e i a b =
        let f = few_axes ok in
        rw (here, e, turn)
        (by (eqb i (d - 1))
        (λ t. rw (eqb-true i (d - 1) t) (get_or-set_same r (d - 1) _ nothing (omega arith)))
        (λ t. let ne = eqb-false i (d - 1) t in get_or-set_other r (d - 1) i _ nothing ne ∙ h i (omega (arith, ne)) b))

  filled_at : (i : ℕ) → i < places → get_or (table places (tally q)) i nothing ≡ tally q i
  filled_at i l = table_at places 0 (tally q) i nothing l ∙ ap (tally q) (zero-add i)

  pub filled_all : (r : List Tally) (d : ℕ) → d ≤ 0 → length r ≡ 9 → Filled q r d → r ≡ table places (tally q)
  filled_all r d z n h =
      let m = table_length places 0 (tally q) in
      ext_get_or nothing r (table places (tally q)) (omega arith) (λ i l. h i (omega arith) (omega arith) ∙ sym (filled_at i (omega arith)))

  module _ {t : Tallies} (h : Tallied q t) (d : ℕ) (l : d ≤ q.axes) where
    pub tallied_at : get_or t.places d nothing ≡ tally q d
    tallied_at = let f = few_axes ok in ap (λ r. get_or r d nothing) h.all ∙ filled_at d (omega arith)
