-- Demand 3 over every list of calls (specs/Calls), by what callers of plan, step and held learn: the functions' own contracts, as the check reads them.
use Prim.Native.Nat.{ℕ, zero, suc, ◌+◌, ◌≤◌, ◌<◌}
use native.Mathlib.Nat.{add_comm}
use mathlib.Core.Path.{◌≡◌, sym, ◌∙◌, refl, ap, ap₂, subst}
use mathlib.Core.Option.{Option, none, some}
use mathlib.Core.List.{List, [], ◌∷◌, ◌++◌}
use native.Mathlib.Omega.{arith}
use lib.ListN.{length, get_elem?}
use lib.IntN.{ℤ}
use contract.Lifetimes.{Lfts}
use borrow.Fn.World.{ArgsD, ResD}
use denote.Triple.Clauses.{AtExit}
use Rattle.std.specs.Prelude.{Ok}
use Rattle.cube_spec.specs.Checks.{gives}
use Rattle.cube_spec.specs.Refusals.{reply_of}
use Rattle.plan_spec.specs.Plans.{Sound, moved, board_count, step_count, lists_of}
use Rattle.plan_spec.specs.Rule.{power_used}
use Rattle.plan_spec.specs.Answers.{prices_of}
use Rattle.plan_spec.specs.declared.types.Plan.{Plan}
use Rattle.plan_spec.specs.declared.types.Planned.{Planned}
use Rattle.rack_spec.specs.Finding.{plan_grid}
use Rattle.rack_spec.specs.Steps.{TreeStep, expand, transfer, finish, steps}
use Rattle.rack_spec.specs.Grids as Grids
use Rattle.rack_spec.specs.Grids.{mask_of}
use Rattle.rack_spec.specs.Answers.{Told, transfers, done, refused, told_by, telling, told_at, holding, reported_by}
use Rattle.rack_spec.specs.Held as Held
use Rattle.rack_spec.proofs.Lawful.{grid_lawful}
use Rattle.rack_spec.proofs.Counting.{steps_length}
use Rattle.rack_spec.proofs.Told.{transfer_told}
use Rattle.rack_spec.proofs.Claim.{some_below, none_past}
use Rattle.rack_spec.proofs.Refusing.{held_given}
use Rattle.plan_entry.specs.Best.{Runnable}
use Rattle.plan_entry.proofs.Best.{planned_runs}
use Rattle.plan_entry.specs.contracts.planning.plan as plan
use Rattle.plan_entry.proofs.planning.plan.Reads as plan_reads
use Rattle.rack_held.specs.contracts.holds.held as held
use Rattle.rack_held.proofs.holds.held.Reads as held_reads
use Rattle.run_spec.specs.Entries.{Outcome, outcome, taken, step_or, step_refusal, stepping}
use Rattle.run_spec.proofs.Claimed as Claimed
use Rattle.run_spec.proofs.Claimed.{Lent, claim_within, claim_moved, claim_all, claim_held}
use Rattle.run_step.specs.contracts.stepping.step.{signature, ended}
use Rattle.run_step.proofs.stepping.step.Reads as reads
use Rattle.run_claims.specs.Calls.{Call, reached, reported, AnsweredWith, Answered, StepsClaim, Holds}

-- ---- lists of calls

-- Statement: of a call, what it was lent and what it left.
abbrev pub call_of : (κs : Lfts 3) (a : ArgsD signature κs) (r : ResD signature κs) (s : AtExit ended κs) → Call
call_of κs a r s = record { array = a.1.0.now; work = a.1.1.0.now; from = a.1.1.1.0.now; answer = told_by r; left = s.1.1.0.now; to = s.1.1.1.0.now }

-- Statement: "The list holds step calls on one plan"; "The first gets position 0, each later one the position as it stood after the call before".
-- "Each call may be lent any array and any work area": others may write between calls.
pub data Calls (q : Plan) : List Call → Type 0 where
  start : Calls q []
  one_more : {l : List Call} → Calls q l → (κs : Lfts 3) (a : ArgsD signature κs) (r : ResD signature κs) (s : AtExit ended κs)
      → reads.Learnt κs a r s → a.0 ≡ q → a.1.1.1.0.now ≡ reached l → Calls q (call_of κs a r s ∷ l)

-- what one call did
pub does : (κs : Lfts 3) (a : ArgsD signature κs) (r : ResD signature κs) (s : AtExit ended κs) → reads.Learnt κs a r s → outcome (told_by r) s.1.1.0.now s.1.1.1.0.now ≡ stepping a.0 a.1.0.now a.1.1.0.now a.1.1.1.0.now
does κs a r s h = h

-- what is so of a call that is made after any list is so of every call of a list
every : {q : Plan} {l : List Call} (P : Call → Type 0)
    → ((l : List Call) → Calls q l → (κs : Lfts 3) (a : ArgsD signature κs) (r : ResD signature κs) (s : AtExit ended κs) → reads.Learnt κs a r s → a.0 ≡ q → a.1.1.1.0.now ≡ reached l → P (call_of κs a r s))
    → Calls q l → (k : ℕ) (c : Call) → get_elem? l k ≡ some c → P c
every P f start k c g = absurd (let z : ◌≡◌ {A = ℕ} 0 1 = cc in omega arith)
every P f (one_more {l} b κs a r s h e p) zero c g = subst P (let x : call_of κs a r s ≡ c = cc in x) (f l b κs a r s h e p)
every P f (one_more b κs a r s h e p) (suc k) c g = every P f b k c g

-- ---- the same by what is lent

reached_more : (q : Plan) (at : ℕ) (l : List Lent) (c : Lent) → Claimed.reached q at (l ++ (c ∷ [])) ≡ (stepping q c.array c.work (Claimed.reached q at l)).position
unfolding Claimed.reached
reached_more q at [] c = refl
reached_more q at (b ∷ l) c = reached_more q (stepping q b.array b.work at).position l c

reported_more : (q : Plan) (at : ℕ) (l : List Lent) (c : Lent) → Claimed.reported q at (l ++ (c ∷ [])) ≡ Claimed.reported q at l + reported_by (stepping q c.array c.work (Claimed.reached q at l)).says
unfolding Claimed.reached Claimed.reported
reported_more q at [] c = omega arith
reported_more q at (b ∷ l) c = let i = reported_more q (stepping q b.array b.work at).position l c in omega arith

record Listed (q : Plan) (at sum : ℕ) : Type 0 where
  calls : List Lent
  there : Claimed.reached q 0 calls ≡ at
  total : Claimed.reported q 0 calls ≡ sum

listed : {q : Plan} {l : List Call} → Calls q l → Listed q (reached l) (reported l)
unfolding reached reported
listed start = record { calls = []; there = unfold Claimed.reached in refl; total = unfold Claimed.reported in refl }
listed {q} (one_more {l} before κs a r s h e p) =
    let i = listed before in
    let c : Lent = record { array = a.1.0.now; work = a.1.1.0.now } in
    let o : outcome (told_by r) s.1.1.0.now s.1.1.1.0.now ≡ stepping q a.1.0.now a.1.1.0.now (reached l) = does κs a r s h ∙ ap₂ (λ x y. stepping x a.1.0.now a.1.1.0.now y) e p in
    record {
      calls = i.calls ++ (c ∷ []);
      there = reached_more q 0 i.calls c ∙ ap (λ x. (stepping q a.1.0.now a.1.1.0.now x).position) i.there ∙ ap (λ (x : Outcome). x.position) (sym o);
      total = reported_more q 0 i.calls c ∙ ap₂ ◌+◌ i.total (ap (λ x. reported_by (stepping q a.1.0.now a.1.1.0.now x).says) i.there ∙ ap (λ (x : Outcome). reported_by x.says) (sym o)) ∙ add_comm (reported l) (reported_by (told_by r));
    }

-- ---- what one call answers

module _ (q : Plan) (sound : Sound (lists_of q)) (some_axes : 1 ≤ length (lists_of q).lengths) (array work : List ℤ) (at : ℕ) (inside : at ≤ step_count (lists_of q)) where
  count : length (steps (plan_grid q)) ≡ step_count (lists_of q)
  count = steps_length (lists_of q) sound some_axes

  told_next : (m : TreeStep) → get_elem? (steps (plan_grid q)) at ≡ some m → step_refusal q (length array) (length work) at ≡ 0 → (t : Told) (w : List ℤ) (p : ℕ)
      → t ≡ telling (plan_grid q) m → p ≡ at + 1 → w ≡ (stepping q array work at).work → AnsweredWith q array work at w p t
  told_next m f z t w p e k x = go m f e
    where
      lt : at < step_count (lists_of q)
      lt = let i = some_below (steps (plan_grid q)) at m f in let c = count in omega arith

      there : t ≡ told_at (plan_grid q) (steps (plan_grid q)) at
      there = e ∙ (unfold told_at in rw f refl)

      go : (m : TreeStep) → get_elem? (steps (plan_grid q)) at ≡ some m → t ≡ telling (plan_grid q) m → AnsweredWith q array work at w p t
      go (expand Y) f e = rw e (z, (lt, sym e ∙ there, k, x))
      go (finish Y) f e = rw e (z, (lt, sym e ∙ there, k, x))
      go (transfer Y s r n) f e =
          let a : transfers s r (mask_of (plan_grid q) Y) n ≡ told_at (plan_grid q) (steps (plan_grid q)) at = sym e ∙ there in
          let n' = (transfer_told (plan_grid q) (grid_lawful (lists_of q) sound) at (mask_of (plan_grid q) Y) s r n a).1 in
          rw e (z, (lt, a, k, x), n'.count ∙ ap (λ Z. Grids.cells (plan_grid q) Z s) (sym n'.set))

  answered_by : (k : ℕ) → step_refusal q (length array) (length work) at ≡ k → (t : Told) (w : List ℤ) (p : ℕ) → outcome t w p ≡ step_or k (plan_grid q) array work at → AnsweredWith q array work at w p t
  unfolding step_or
  answered_by zero z t w p e = go (get_elem? (steps (plan_grid q)) at) refl e
    where
      left : (stepping q array work at).work ≡ (step_or 0 (plan_grid q) array work at).work
      left = unfold stepping in ap (λ k. (step_or k (plan_grid q) array work at).work) z

      all : w ≡ (stepping q array work at).work
      all = ap (λ (x : Outcome). x.work) e ∙ sym left

      go : (o : Option TreeStep) → get_elem? (steps (plan_grid q)) at ≡ o → outcome t w p ≡ taken (plan_grid q) array work at o → AnsweredWith q array work at w p t
      go none f e =
          let a : t ≡ done = ap (λ (x : Outcome). x.says) e ∙ (unfold taken in refl) in
          let b : w ≡ work = ap (λ (x : Outcome). x.work) e ∙ (unfold taken in refl) in
          let c : p ≡ at = ap (λ (x : Outcome). x.position) e ∙ (unfold taken in refl) in
          let i = none_past (steps (plan_grid q)) at f in
          let n = count in
          let l : at ≡ step_count (lists_of q) = omega arith in
          rw a (z, l, b, c)
      go (some m) f e =
          told_next m f z t w p (ap (λ (x : Outcome). x.says) e ∙ (unfold taken in refl)) (ap (λ (x : Outcome). x.position) e ∙ (unfold taken in omega arith)) all
  answered_by (suc k) z t w p e =
      let a : t ≡ refused (suc k) = ap (λ (x : Outcome). x.says) e in
      let n : suc k ≡ 0 → ⊥ = λ e. omega arith in
      rw a (sym z, n, ap (λ (x : Outcome). x.work) e, ap (λ (x : Outcome). x.position) e)

-- ---- the claim, on "one plan that the planner returned": what its callers learned with a plan

module _ (κp : Lfts 1) (ap' : ArgsD plan.signature κp) (rp : ResD plan.signature κp) (sp : AtExit plan.ended κp) (hp : plan_reads.Learnt κp ap' rp sp) (v : Planned) (answered : rp ≡ Ok v) where
  -- Statement: of a whole list of calls,
  pub record Claim (calls : List Call) : Type 0 where
    -- what the transfers report and every call answers, with the planner's values moved;
    pub steps : StepsClaim v.plan v.prices.moved calls
    -- and "After each call the bound on held is for every board below 2^p, at the position reached, against the same board's held at position 1.", as calls of held tell.
    pub holds : (k : ℕ) (c : Call) → get_elem? calls k ≡ some c
        → (κ₁ κ₂ : Lfts 0) (a₁ : ArgsD held.signature κ₁) (a₂ : ArgsD held.signature κ₂) (r₁ : ResD held.signature κ₁) (r₂ : ResD held.signature κ₂) (s₁ : AtExit held.ended κ₁) (s₂ : AtExit held.ended κ₂)
        → held_reads.Learnt κ₁ a₁ r₁ s₁ → held_reads.Learnt κ₂ a₂ r₂ s₂ → (b : ℕ) → b < board_count (lists_of v.plan)
        → a₁.0 ≡ v.plan → a₂.0 ≡ v.plan → a₁.1.0 ≡ c.to → a₂.1.0 ≡ 1 → a₁.1.1.0 ≡ b → a₂.1.1.0 ≡ b
        → Holds (reply_of r₁) (reply_of r₂)

  runs : Runnable ap'.0.now (power_used ap'.0.now ap'.1.0) v
  runs = planned_runs κp ap' rp sp hp v answered

  price : v.prices.moved ≡ moved (lists_of v.plan)
  price = ap (λ x. x.moved) runs.prices ∙ (unfold prices_of in refl)

  some_steps : 1 ≤ step_count (lists_of v.plan)
  some_steps = rw (sym (steps_length (lists_of v.plan) runs.sound runs.some)) (unfold steps in omega arith)

  held_is : (κ : Lfts 0) (a : ArgsD held.signature κ) (r : ResD held.signature κ) (s : AtExit held.ended κ) → held_reads.Learnt κ a r s → (at b : ℕ) → at ≤ step_count (lists_of v.plan) → b < board_count (lists_of v.plan)
      → a.0 ≡ v.plan → a.1.0 ≡ at → a.1.1.0 ≡ b → reply_of r ≡ gives (Held.held (plan_grid v.plan) at b)
  held_is κ a r s h at b l k e p f = h ∙ ap₂ (λ x y. holding x y a.1.1.0) e p ∙ ap (holding v.plan at) f ∙ sym (held_given v.plan at b runs.passed l k)

  inside : {l : List Call} → Calls v.plan l → reached l ≤ step_count (lists_of v.plan)
  inside c = let i = listed c in rw (← i.there) (claim_within v.plan runs.sound runs.some i.calls)

  -- the position that a call leaves
  record After (c : Call) : Type 0 where
    within : c.to ≤ step_count (lists_of v.plan)
    bound : (b : ℕ) → b < board_count (lists_of v.plan) → Held.held (plan_grid v.plan) c.to b ≤ Held.held (plan_grid v.plan) 1 b

  after : {l : List Call} → Calls v.plan l → (k : ℕ) (c : Call) → get_elem? l k ≡ some c → After c
  after = every After made
    where
      made : (l : List Call) → Calls v.plan l → (κs : Lfts 3) (a : ArgsD signature κs) (r : ResD signature κs) (s : AtExit ended κs) → reads.Learnt κs a r s → a.0 ≡ v.plan → a.1.1.1.0.now ≡ reached l → After (call_of κs a r s)
      made l c κs a r s h e p =
          let m = one_more c κs a r s h e p in
          let i = listed m in
          let t : reached (call_of κs a r s ∷ l) ≡ s.1.1.1.0.now = (unfold reached in refl) in
          record {
            within = rw (← t) (inside m);
            bound = λ b k. rw (← t, ← i.there) (claim_held v.plan runs.sound runs.some i.calls b k);
          }

  -- Statement: so of every list of calls.
  pub demand : {calls : List Call} → Calls v.plan calls → Claim calls
  demand {calls} c =
      let i = listed c in
      record {
        steps = record {
          within = inside c;
          at_most = rw (← i.total, price) (claim_moved v.plan runs.sound runs.some i.calls);
          exactly = λ e. sym i.total ∙ claim_all v.plan runs.sound runs.some i.calls (i.there ∙ e) ∙ sym price;
          each = every (Answered v.plan) (λ l b κs a r s h e p.
              let at = a.1.1.1.0.now in
              answered_by v.plan runs.sound runs.some a.1.0.now a.1.1.0.now at (rw p (inside b)) (step_refusal v.plan (length a.1.0.now) (length a.1.1.0.now) at) refl (told_by r) s.1.1.0.now s.1.1.1.0.now
              (does κs a r s h ∙ ap (λ x. stepping x a.1.0.now a.1.1.0.now at) e ∙ (unfold stepping in refl))) c;
        };
        holds = λ k x g κ₁ κ₂ a₁ a₂ r₁ r₂ s₁ s₂ h₁ h₂ b l p₁ p₂ e₁ e₂ f₁ f₂. record {
          here = Held.held (plan_grid v.plan) x.to b;
          there = Held.held (plan_grid v.plan) 1 b;
          gives_here = held_is κ₁ a₁ r₁ s₁ h₁ x.to b (after c k x g).within l p₁ e₁ f₁;
          gives_there = held_is κ₂ a₂ r₂ s₂ h₂ 1 b some_steps l p₂ e₂ f₂;
          at_most = (after c k x g).bound b l;
        };
      }
