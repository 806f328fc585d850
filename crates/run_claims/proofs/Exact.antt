-- Demand 2 over the calls of step, view and gather (specs/Exact), by what their callers learn: the functions' own contracts, as the check reads them.
use Prim.Native.Nat.{ℕ, zero, suc, ◌+◌, ◌^◌, ◌≤◌, ◌<◌}
use native.Mathlib.Nat.{add_comm, zero-add}
use mathlib.Core.Path.{◌≡◌, sym, ◌∙◌, refl, ap, ap₂}
use mathlib.Core.Option.{Option, none, some}
use mathlib.Core.List.{List, [], ◌∷◌, ◌++◌}
use native.Mathlib.Omega.{arith}
use borrow.Author.Tests.{leb-true, leb-false}
use lib.Dec.{leb}
use lib.ListN.{length, take, get_elem?}
use lib.IntN.{ℤ, nat_abs}
use contract.Lifetimes.{Lfts}
use borrow.Fn.World.{ArgsD, ResD}
use denote.Triple.Clauses.{AtExit}
use Rattle.cube_spec.specs.Boxes.{pick, table, position}
use Rattle.cube_spec.specs.Refusals.{refused_by}
use Rattle.cube_spec.specs.Choices.{cells, total, totals, full_mask}
use Rattle.plan_spec.specs.Plans.{board_count, step_count, lists_of}
use Rattle.plan_spec.specs.Accepted.{Accepted}
use Rattle.plan_spec.specs.declared.types.Plan.{Plan}
use Rattle.rack_spec.specs.Grids as Grids
use Rattle.rack_spec.specs.Grids.{Grid, grid_of, mask_of, lead, box, global}
use Rattle.rack_spec.specs.Finding.{plan_grid, summed_in}
use Rattle.rack_spec.specs.Steps.{TreeStep, expand, transfer, finish, steps, finishes_mask, times_finished}
use Rattle.rack_spec.specs.Held.{finished_at, finished_by}
use Rattle.rack_spec.specs.Answers.{Told, finishes, done, told_by, telling, telling_or, told_at}
use Rattle.cube_spec.proofs.Sums.{by}
use Rattle.plan_spec.proofs.Accepting.{accepted}
use Rattle.rack_spec.proofs.Claim.{some_below, none_past}
use Rattle.rack_spec.proofs.Counting.{steps_length}
use Rattle.rack_spec.proofs.Masks.{each_choice_once, no_other_choice}
use Rattle.rack_spec.proofs.Tallied.{lawful}
use Rattle.run_spec.specs.Memory.{read, stepped, ran}
use Rattle.run_spec.specs.Entries.{Outcome, outcome, taken, work_cells, step_or, stepping, view_refusal, view_of, viewing, gather_refusal, gathering}
use Rattle.run_spec.specs.Gather.{gathered, viewed}
use Rattle.run_spec.proofs.Lists.{ran_more}
use Rattle.run_spec.proofs.Gathers.{gather_passed, gathered_some}
use Rattle.run_spec.proofs.Shown.{view_passed, shown, finished_is}
use Rattle.run_spec.specs.Taking.{told_before}
use Rattle.run_spec.proofs.Stepped.{Passed, passed}
use Rattle.run_spec.proofs.Refusing.{step_passed}
use Rattle.run_spec.proofs.Lists.{ran_length}
use Rattle.run_claims.specs.Exact.{Begins, finishes_once, times_said, Reached}
use Rattle.run_claims.proofs.Called.{does}
use Rattle.run_spec.proofs.Positions.{take_next, gathered_at, viewed_at}
use Rattle.run_gather.specs.contracts.copying.gather as gather
use Rattle.run_gather.proofs.copying.gather.Reads as gather_reads
use Rattle.run_view.specs.contracts.viewing.view as view
use Rattle.run_view.proofs.viewing.view.Reads as view_reads
use Rattle.run_view.specs.contracts.viewing.check_view as refusing
use Rattle.run_view.proofs.viewing.check_view.Reads as refusal_reads
use Rattle.run_step.specs.contracts.stepping.step.{signature, ended}
use Rattle.run_step.proofs.stepping.step.Reads as reads

-- Statement: calls from position 0 on a work area of any contents, while no one else writes to it: the position, the work area and the answers, the newest first.
pub data Run (q : Plan) (array work₀ : List ℤ) : ℕ → List ℤ → List Told → Type 0 where
  start : Run q array work₀ 0 work₀ []
  one_more : {at : ℕ} {w : List ℤ} {l : List Told} → Run q array work₀ at w l → (κs : Lfts 3) (a : ArgsD signature κs) (r : ResD signature κs) (s : AtExit ended κs)
      → reads.Learnt κs a r s → a.0 ≡ q → a.1.0.now ≡ array → a.1.1.0.now ≡ w → a.1.1.1.0.now ≡ at
      → Run q array work₀ s.1.1.1.0.now s.1.1.0.now (told_by r ∷ l)

-- ---- one call more

finished_more : (g : Grid) (mask : ℕ) (l : List TreeStep) (m : TreeStep) → times_finished g mask (l ++ (m ∷ [])) ≡ times_finished g mask l + finishes_mask g mask m
unfolding times_finished
finished_more g mask [] m = omega arith
finished_more g mask (s ∷ l) m = let i = finished_more g mask l m in omega arith

telling_once : (g : Grid) (mask : ℕ) (m : TreeStep) → finishes_once mask (telling g m) ≡ finishes_mask g mask m
telling_once g mask (expand Y) = refl
telling_once g mask (transfer Y s r n) = refl
telling_once g mask (finish Y) = refl

-- the choice that a mask told at a position names
record Named (g : Grid) (at mask : ℕ) : Type 0 where
  set : List ℕ
  there : finished_at g at ≡ some set
  mask_is : mask_of g set ≡ mask

module _ (q : Plan) (array work₀ : List ℤ) (begins : Begins q array work₀) where
  abbrev g : Grid
  g = plan_grid q

  first_call : Passed q (length array) (length work₀) 0
  first_call = passed q (length array) (length work₀) 0 begins.accepted

  ok : Accepted q
  ok = accepted q begins.lengths begins.order begins.exponents first_call.plan

  count : length (steps g) ≡ step_count (lists_of q)
  count = steps_length (lists_of q) ok.sound ok.lengths.axes

  axes_some : 0 < g.axes
  unfolding grid_of
  axes_some = ok.lengths.axes

  more : (at : ℕ) (w : List ℤ) (l : List Told) → Reached q array work₀ at w l → (t : Told) (v : List ℤ) (p : ℕ) → outcome t v p ≡ taken g array w at (get_elem? (steps g) at) → Reached q array work₀ p v (t ∷ l)
  more at w l k t v p e = go (get_elem? (steps g) at) refl e
    where
      newest_is : {mask : ℕ} {r : List Told} → t ∷ l ≡ finishes mask ∷ r → finishes mask ≡ t
      newest_is s = cc

      done_is : {r : List Told} → t ∷ l ≡ done ∷ r → t ≡ done
      done_is s = cc

      done_never : (m : TreeStep) → telling g m ≡ done → ⊥
      done_never (expand Y) e = let z : ◌≡◌ {A = ℕ} 0 1 = cc in omega arith
      done_never (transfer Y s r n) e = let z : ◌≡◌ {A = ℕ} 0 1 = cc in omega arith
      done_never (finish Y) e = let z : ◌≡◌ {A = ℕ} 0 1 = cc in omega arith

      said_more : (mask : ℕ) → times_said mask (t ∷ l) ≡ finishes_once mask t + times_said mask l
      said_more mask = unfold times_said in refl

      go : (o : Option TreeStep) → get_elem? (steps g) at ≡ o → outcome t v p ≡ taken g array w at o → Reached q array work₀ p v (t ∷ l)
      go none f e =
          let a : t ≡ done = ap (λ (x : Outcome). x.says) e ∙ (unfold taken in refl) in
          let b : v ≡ w = ap (λ (x : Outcome). x.work) e ∙ (unfold taken in refl) in
          let c : p ≡ at = ap (λ (x : Outcome). x.position) e ∙ (unfold taken in refl) in
          let n = none_past (steps g) at f in
          let i = k.within in
          rw (c, b) (record {
            within = k.within;
            there = k.there;
            said = λ mask. said_more mask ∙ ap (λ t. finishes_once mask t + times_said mask l) a ∙ zero-add (times_said mask l) ∙ k.said mask;
            paced = λ h. absurd (let y = k.paced (omega arith) in omega arith);
            ends = λ h. omega arith;
            newest = λ mask r s. absurd (let d : finishes mask ≡ done = newest_is s ∙ a in let z : ◌≡◌ {A = ℕ} 0 1 = cc in omega arith);
            stops = λ r s. omega arith;
          })
      go (some m) f e =
          let a : t ≡ telling g m = ap (λ (x : Outcome). x.says) e ∙ (unfold taken in refl) in
          let b : v ≡ stepped g array m w = ap (λ (x : Outcome). x.work) e ∙ (unfold taken in refl) in
          let c : p ≡ suc at = ap (λ (x : Outcome). x.position) e ∙ (unfold taken in omega arith) in
          let n = take_next (steps g) at m f in
          let i = some_below (steps g) at m f in
          rw c (record {
            within = i;
            there = b ∙ ap (stepped g array m) k.there ∙ sym (ran_more g array (take at (steps g)) m work₀) ∙ ap (λ l. ran g array l work₀) (sym n);
            said = λ mask. said_more mask ∙ add_comm (finishes_once mask t) (times_said mask l) ∙ ap₂ ◌+◌ (k.said mask) (ap (finishes_once mask) a ∙ telling_once g mask m) ∙ sym (finished_more g mask (take at (steps g)) m) ∙ ap (times_finished g mask) (sym n);
            paced = λ h. (let y = k.paced (omega arith) in omega arith);
            ends = λ h. by_calls h i;
            newest = λ mask r s. newest_is s ∙ a ∙ (unfold told_before told_at in rw f refl);
            stops = λ r s. absurd (done_never m (sym a ∙ done_is s));
          })
        where
          by_calls : length (steps g) ≤ suc (length l) → at < length (steps g) → suc at ≡ length (steps g)
          by_calls h i = by (leb (length (steps g)) (length l))
              (λ y. absurd (let z = k.ends (leb-true (length (steps g)) (length l) y) in omega arith))
              (λ y. (let x = leb-false (length (steps g)) (length l) y in let z = k.paced (omega arith) in omega arith))

  goes_on : (w : List ℤ) (at : ℕ) → length w ≡ length work₀ → at ≤ length (steps g) → stepping q array w at ≡ taken g array w at (get_elem? (steps g) at)
  unfolding stepping step_or
  goes_on w at n b =
      let c = count in
      let r = first_call.room in
      let z = step_passed q (length array) (length w) at first_call.plan first_call.all (omega arith) (omega arith) in
      rw (← z) refl

  -- Statement: where a run is.
  pub run_reached : {at : ℕ} {w : List ℤ} {l : List Told} → Run q array work₀ at w l → Reached q array work₀ at w l
  run_reached start = record {
    within = omega arith;
    there = unfold ran in refl;
    said = λ mask. (unfold times_said times_finished in refl);
    paced = λ h. refl;
    ends = λ h. omega arith;
    newest = λ mask r s. absurd (let z : ◌≡◌ {A = ℕ} 0 1 = cc in omega arith);
    stops = λ r s. absurd (let z : ◌≡◌ {A = ℕ} 0 1 = cc in omega arith);
  }
  run_reached (one_more {at} {w} {l} before κs a r s h e f v p) =
      let k = run_reached before in
      let n : length w ≡ length work₀ = ap length k.there ∙ ran_length g (lawful q ok) axes_some array (take at (steps g)) work₀ in
      more at w l k (told_by r) s.1.1.0.now s.1.1.1.0.now (goes κs a r s h e f v p ∙ goes_on w at n k.within)
    where
      goes : (κs : Lfts 3) (a : ArgsD signature κs) (r : ResD signature κs) (s : AtExit ended κs) → reads.Learnt κs a r s → a.0 ≡ q → {w : List ℤ} {at : ℕ} → a.1.0.now ≡ array → a.1.1.0.now ≡ w → a.1.1.1.0.now ≡ at → outcome (told_by r) s.1.1.0.now s.1.1.1.0.now ≡ stepping q array w at
      goes κs a r s h e f v p = does κs a r s h ∙ ap₂ (λ x y. stepping x y a.1.1.0.now a.1.1.1.0.now) e f ∙ ap₂ (λ x y. stepping q array x y) v p

  whole : (l : List TreeStep) (n : ℕ) → n ≡ length l → take n l ≡ l
  whole [] zero e = refl
  whole [] (suc n) e = absurd (omega arith)
  whole (s ∷ l) zero e = absurd (omega arith)
  whole (s ∷ l) (suc n) e = ap (λ r. s ∷ r) (whole l n (omega arith))

  -- Statement: T calls or more end a run, and so does an answer `done`.
  pub ended_by_calls : {at : ℕ} {w : List ℤ} {l : List Told} → Run q array work₀ at w l → step_count (lists_of q) ≤ length l → at ≡ step_count (lists_of q)
  ended_by_calls run h = let c = count in (run_reached run).ends (omega arith) ∙ c

  pub ended_by_done : {at : ℕ} {w : List ℤ} {l : List Told} → Run q array work₀ at w (done ∷ l) → at ≡ step_count (lists_of q)
  ended_by_done {at} {w} {l} run = (run_reached run).stops l refl ∙ count

  -- Statement: each choice but the full one is finished exactly once, by the answers of a run that has ended,
  pub each_once : {at : ℕ} {w : List ℤ} {l : List Told} → Run q array work₀ at w l → at ≡ step_count (lists_of q) → (mask : ℕ) → mask < full_mask (length (lists_of q).lengths) → times_said mask l ≡ 1
  each_once {at} run e mask h =
      (run_reached run).said mask ∙ ap (times_finished g mask) (whole (steps g) at (e ∙ sym count)) ∙ each_choice_once (lists_of q) ok.sound mask h

  -- Statement: and nothing else ever is.
  pub none_else : {at : ℕ} {w : List ℤ} {l : List Told} → Run q array work₀ at w l → at ≡ step_count (lists_of q) → (mask : ℕ) → full_mask (length (lists_of q).lengths) ≤ mask → times_said mask l ≡ 0
  none_else {at} run e mask h =
      (run_reached run).said mask ∙ ap (times_finished g mask) (whole (steps g) at (e ∙ sym count)) ∙ no_other_choice (lists_of q) ok.sound mask h

  -- what a finish names
  named : (at mask : ℕ) → finishes mask ≡ told_before g at → Named g at mask
  unfolding told_before told_at finished_at
  named zero mask e = absurd (let z : ◌≡◌ {A = ℕ} 0 1 = cc in omega arith)
  named (suc at) mask e = go (get_elem? (steps g) at) refl e
    where
      go : (o : Option TreeStep) → get_elem? (steps g) at ≡ o → finishes mask ≡ telling_or g o → Named g (suc at) mask
      go none f e = absurd (let z : ◌≡◌ {A = ℕ} 0 1 = cc in omega arith)
      go (some (expand Y)) f e = absurd (let z : ◌≡◌ {A = ℕ} 0 1 = cc in omega arith)
      go (some (transfer Y s r n)) f e = absurd (let z : ◌≡◌ {A = ℕ} 0 1 = cc in omega arith)
      go (some (finish Y)) f e = record { set = Y; there = unfold finished_at in ap finished_by f; mask_is = (let y : mask ≡ mask_of g Y = cc in sym y) }

  -- After a call that answers a finish. That points are at most 2^31 in size is what their type, i32, says.
  module _ (small : (i : ℕ) → nat_abs (read array i) ≤ 2 ^ 31) {at : ℕ} {w : List ℤ} {l : List Told} {mask : ℕ} (run : Run q array work₀ at w (finishes mask ∷ l)) where
    kept_room : work_cells (lists_of q) ≤ length w
    kept_room = let n : length w ≡ length work₀ = ap length (run_reached run).there ∙ ran_length g (lawful q ok) axes_some array (take at (steps g)) work₀ in let r = first_call.room in omega arith

    kept_within : at ≤ step_count (lists_of q)
    kept_within = let k = (run_reached run).within in let c = count in omega arith

    name : Named g at mask
    name = named at mask ((run_reached run).newest mask l refl)

    abbrev Y : List ℕ
    Y = name.set

    -- Statement: what gather gives, no refusal and the exact totals of the choice.
    pub gathered_run : (κs : Lfts 2) (a : ArgsD gather.signature κs) (r : ResD gather.signature κs) (s : AtExit gather.ended κs) → gather_reads.Learnt κs a r s → a.0 ≡ q → a.1.0.now ≡ w → a.1.1.0 ≡ at → length a.1.1.1.0.now ≡ cells (lists_of q).lengths mask
        → (refused_by r ≡ 0) × (s.1.1.1.0.now ≡ totals (lists_of q).lengths (read array) mask)
    gathered_run κs a r s h e v p n =
        let old = a.1.1.1.0.now in
        let f = name.there in
        let d = name.mask_is in
        let m : gather_refusal q (length w) at (length old) ≡ 0 = sym (gather_passed q (length w) at (length old) first_call.plan kept_room kept_within Y f (n ∙ ap (cells (lists_of q).lengths) (sym d))) in (
          h.0 ∙ ap₂ (λ q x. gather_refusal q (length x) a.1.1.0 (length old)) e v ∙ ap (λ at. gather_refusal q (length w) at (length old)) p ∙ m,
          h.1
              ∙ ap₂ (λ q x. gathering q x a.1.1.0 old) e v
              ∙ ap (λ at. gathering q w at old) p
              ∙ sym (gathered_some q w at old m Y f)
              ∙ ap (λ x. gathered (lists_of q).lengths g Y (read x)) (run_reached run).there
              ∙ gathered_at (lists_of q) ok.sound ok.lengths.axes array work₀ (unfold work_cells in first_call.room) small ok.lengths.small at Y f
              ∙ ap (totals (lists_of q).lengths (read array)) d,
        )

    -- Statement: no view of a board of the rack is refused.
    pub viewed_granted : (κs : Lfts 1) (a : ArgsD refusing.signature κs) (r : ResD refusing.signature κs) (s : AtExit refusing.ended κs) → refusal_reads.Learnt κs a r s → a.0 ≡ q → a.1.0.now ≡ w → a.1.1.0 ≡ at → a.1.1.1.0 < board_count (lists_of q) → refused_by r ≡ 0
    viewed_granted κs a r s h e v p n =
        h
        ∙ ap₂ (λ q x. view_refusal q (length x) a.1.1.0 a.1.1.1.0) e v
        ∙ ap (λ at. view_refusal q (length w) at a.1.1.1.0) p
        ∙ sym (view_passed q (length w) at a.1.1.1.0 first_call.plan kept_room kept_within (let f = name.there in rw f refl) n)

    -- Statement: what view shows, on a lead of the choice the exact totals at the positions of its cells, on another board nothing.
    pub viewed_run : (κs : Lfts 1) (a : ArgsD view.signature κs) (r : ResD view.signature κs) (s : AtExit view.ended κs) → view_reads.Learnt κs a r s → a.0 ≡ q → a.1.0.now ≡ w → a.1.1.0 ≡ at → a.1.1.1.0 < board_count (lists_of q)
        → r.now ≡ pick (lead g (summed_in q mask) a.1.1.1.0) (table (Grids.cells g (summed_in q mask) a.1.1.1.0) (λ c. total (lists_of q).lengths (read array) mask (λ d. global g a.1.1.1.0 (position (box g (summed_in q mask) a.1.1.1.0) g.axes 0 c) (g.rank d)))) []
    viewed_run κs a r s h e v p n =
        let b = a.1.1.1.0 in
        let f = name.there in
        let d = name.mask_is in
        let y : Y ≡ summed_in q mask = same_set (sym f ∙ (finished_is g (lawful q ok) at mask ((run_reached run).newest mask l refl)).0) in
        let m : view_refusal q (length w) at b ≡ 0 = sym (view_passed q (length w) at b first_call.plan kept_room kept_within (rw f refl) n) in
        h
        ∙ ap₂ (λ q x. viewing q x a.1.1.0 b) e v
        ∙ ap (λ at. viewing q w at b) p
        ∙ shown q w at b m
        ∙ ap (λ o. view_of g o b w) f
        ∙ ap (viewed g Y b) (run_reached run).there
        ∙ viewed_at (lists_of q) ok.sound ok.lengths.axes array work₀ (unfold work_cells in first_call.room) small ok.lengths.small at Y f b n
        ∙ ap₂ (λ Z k. pick (lead g Z b) (table (Grids.cells g Z b) (λ c. total (lists_of q).lengths (read array) k (λ d. global g b (position (box g Z b) g.axes 0 c) (g.rank d)))) []) y d
      where
        same_set : {A B : List ℕ} → some A ≡ some B → A ≡ B
        same_set e = cc
