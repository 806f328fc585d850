-- The program's output over a whole run: calls of next_line one after the other, by what its callers learn: the function's own contract, as the check reads it.
use Prim.Native.Nat.{ℕ, zero, suc, ◌+◌, ◌≤◌, ◌<◌}
use mathlib.Core.Path.{◌≡◌, sym, ◌∙◌, refl, ap, ap₂}
use mathlib.Core.List.{List, [], ◌∷◌, ◌++◌, append-nil, append_assoc}
use native.Mathlib.Omega.{arith}
use borrow.Author.Tests.{ltb-true, ltb-false}
use lib.Dec.{ltb}
use lib.IntN.{ℤ}
use lib.ListN.{length, take, get_or, get_or-eq_default}
use lib.Seq.{sets, take_all}
use contract.Lifetimes.{Lfts}
use borrow.Fn.World.{ArgsD, ResD}
use denote.Triple.Clauses.{AtExit}
use Rattle.std.specs.Prelude.{Result, Ok, Err, IfOk}
use Rattle.cube_spec.specs.Refusals.{reply_of}
use Rattle.cube_spec.specs.declared.refusals.Refusal.{Refusal}
use Rattle.cube_spec.proofs.Stores.{stored_first}
use Rattle.cube_spec.proofs.Sums.{by}
use Rattle.plan_spec.specs.Plans.{PlanLists}
use Rattle.plan_spec.specs.declared.types.Planned.{Planned}
use Rattle.rack_spec.specs.Steps.{TreeStep, expand, transfer, finish}
use Rattle.tape_spec.specs.Tapes.{Campaign, campaign}
use Rattle.tape_spec.specs.Reading.{or_empty}
use Rattle.report_spec.specs.Text.{text}
use Rattle.report_spec.specs.Printed as Printed
use Rattle.report_spec.specs.Printed.{plan_line, dim_line, dim_lines, group_line, group_lines, end_line, refused_line, report, report_or, program_refusal, printed_lines, line_at, joined, printed}
use Rattle.totals_check.specs.Judging.{judging}
use Rattle.totals.specs.Handed.{Begins}
use Rattle.totals_line.specs.Standing.{campaign_of, Stands}
use Rattle.totals_line.proofs.Lined.{begins, lines_few}
use Rattle.totals_check.specs.contracts.judging.judge as judge
use Rattle.totals_check.proofs.judging.judge.Reads as judge-reads
use Rattle.totals.specs.contracts.loading.load as load
use Rattle.totals.proofs.loading.load.Reads as load-reads
use Rattle.totals.specs.contracts.loading.bounded as bounded
use Rattle.totals.proofs.loading.bounded.Reads as bounded-reads
use Rattle.totals_line.specs.contracts.next_line.{signature, ended}
use Rattle.totals_line.proofs.next_line.Reads as reads

-- ---- every line of a report has bytes

abbrev Filled : List (List ℕ) → Type 0
Filled l = (i : ℕ) → i < length l → 0 < length (get_or l i [])

filled_none : Filled []
filled_none i h = absurd (omega arith)

filled_more : (x : List ℕ) (l : List (List ℕ)) → 0 < length x → Filled l → Filled (x ∷ l)
filled_more x l h f zero k = h
filled_more x l h f (suc i) k = f i (omega arith)

filled_append : (l r : List (List ℕ)) → Filled l → Filled r → Filled (l ++ r)
filled_append [] r f g = g
filled_append (x ∷ l) r f g = filled_more x (l ++ r) (f 0 (omega arith)) (filled_append l r (λ i h. f (suc i) (omega arith)) g)

plan_filled : (a : PlanLists) → 0 < length (plan_line a)
unfolding plan_line text
plan_filled a = omega arith

dim_filled : (a : PlanLists) (d : ℕ) → 0 < length (dim_line a d)
unfolding dim_line text
dim_filled a d = omega arith

group_filled : (ds : List ℕ) (array : ℕ → ℤ) (mask : ℕ) → 0 < length (group_line ds array mask)
unfolding group_line text
group_filled ds array mask = omega arith

end_filled : (n : ℕ) → 0 < length (end_line n)
unfolding end_line text
end_filled n = omega arith

refused_filled : (n : ℕ) → 0 < length (refused_line n)
unfolding refused_line text
refused_filled n = omega arith

dims_filled : (a : PlanLists) (m d : ℕ) → Filled (dim_lines a m d)
unfolding dim_lines
dims_filled a zero d = filled_none
dims_filled a (suc m) d = filled_more (dim_line a d) (dim_lines a m (d + 1)) (dim_filled a d) (dims_filled a m (d + 1))

groups_filled : (a : PlanLists) (array : ℕ → ℤ) (l : List TreeStep) → Filled (group_lines a array l)
unfolding group_lines
groups_filled a array [] = filled_none
groups_filled a array (expand Y ∷ l) = groups_filled a array l
groups_filled a array (transfer Y s r n ∷ l) = groups_filled a array l
groups_filled a array (finish Y ∷ l) = filled_more _ (group_lines a array l) (group_filled _ array _) (groups_filled a array l)

report_filled : (a : PlanLists) (array : ℕ → ℤ) (l : List TreeStep) → Filled (report a array l)
unfolding report Printed.ended
report_filled a array l =
    let groups = group_lines a array l in
    let last = end_line (length groups) ∷ [] in
    let dims = dim_lines a (length a.lengths) 0 in
    filled_more (plan_line a) (dims ++ (groups ++ last)) (plan_filled a)
    (filled_append dims (groups ++ last) (dims_filled a (length a.lengths) 0)
    (filled_append groups last (groups_filled a array l) (filled_more (end_line (length groups)) [] (end_filled (length groups)) filled_none)))

or_filled : (n : ℕ) (c : Campaign) → Filled (report_or n c)
unfolding report_or
or_filled zero c = report_filled _ _ _
or_filled (suc n) c = filled_more (refused_line (suc n)) [] (refused_filled (suc n)) filled_none

-- EVERY LINE HAS BYTES, of a report and of a refusal,
pub line_filled : (tape : List ℕ) (k : ℕ) → k < length (printed_lines tape) → 0 < length (line_at tape k)
unfolding line_at printed_lines
line_filled tape k h = or_filled (program_refusal tape) (or_empty (campaign tape)) k h

-- and past the last line there is nothing.
pub line_none : (tape : List ℕ) (k : ℕ) → length (printed_lines tape) ≤ k → length (line_at tape k) ≡ 0
unfolding line_at
line_none tape k h = ap length (get_or-eq_default (printed_lines tape) [] {n = k} h)

-- ---- one line after the other

joined_next : (l : List (List ℕ)) (k : ℕ) → joined (take (suc k) l) ≡ joined (take k l) ++ get_or l k []
unfolding joined
joined_next [] zero = refl
joined_next [] (suc k) = refl
joined_next (x ∷ l) zero = append-nil x
joined_next (x ∷ l) (suc k) = ap (λ r. x ++ r) (joined_next l k) ∙ sym (append_assoc x (joined (take k l)) (get_or l k []))

lines_next : (tape : List ℕ) (k : ℕ) → joined (take k (printed_lines tape)) ++ line_at tape k ≡ joined (take (suc k) (printed_lines tape))
unfolding line_at
lines_next tape k = sym (joined_next (printed_lines tape) k)

-- what a call leaves in its buffer
pub line_there : (tape : List ℕ) (k : ℕ) (out out' : List ℕ) (r : ℕ) → r ≡ length (line_at tape k) → r ≤ length out' → out' ≡ sets out 0 (line_at tape k) → take r out' ≡ line_at tape k
line_there tape k out out' r e h p = stored_first out out' (line_at tape k) r e h p

stands_as : (t t' : List ℕ) (j j' : Result Planned Refusal) (k k' : ℕ) (p p' w w' : List ℤ) (at at' : ℕ) → t ≡ t' → j ≡ j' → k ≡ k' → p ≡ p' → w ≡ w' → at ≡ at' → Stands t' j' k' p' w' at' → Stands t j k p w at
stands_as t t' j j' k k' p p' w w' at at' a b c d e f s = rw (a, b, c, d, e, f) s

-- ---- runs

-- Statement: calls of next_line on one tape, one after the other. Of each call a is its arguments (tape, judged, handed, points, work, position, cells, out), r its answer and s the arguments at
-- exit; where what it asks is met, its callers learn what it ensures. `handed` is the number of calls before, and the work area and the position are as the call before left them; the
-- cells and the buffer that it is lent hold anything. The run's indices: work area, position, the answers, the newest first, and the bytes handed out, after an answer r the first r of the buffer.
pub data Run (tape : List ℕ) (judged : Result Planned Refusal) (points work₀ : List ℤ) : List ℤ → ℕ → List ℕ → List ℕ → Type 0 where
  start : Run tape judged points work₀ work₀ 0 [] []
  one_more : {work : List ℤ} {at : ℕ} {answers bytes : List ℕ} → Run tape judged points work₀ work at answers bytes
      → (κs : Lfts 6) (a : ArgsD signature κs) (r : ResD signature κs) (s : AtExit ended κs) → (reads.Asked κs a → reads.Learnt κs a r s)
      → a.0.now ≡ tape → a.1.0 ≡ judged → a.1.1.0 ≡ length answers → a.1.1.1.0.now ≡ points → a.1.1.1.1.0.now ≡ work → a.1.1.1.1.1.0.now ≡ at
      → length a.1.1.1.1.1.1.0.now ≡ 8192 → length a.1.1.1.1.1.1.1.0.now ≡ 172064
      → Run tape judged points work₀ s.1.1.1.1.0.now s.1.1.1.1.1.0.now (r ∷ answers) (bytes ++ take r s.1.1.1.1.1.1.1.0.now)

-- For every tape, one that is refused included:
module _ (tape : List ℕ) (judged : Result Planned Refusal) (points work₀ : List ℤ) (from : Begins tape judged points work₀) where
  -- each answer is the length of its line
  abbrev Lengths : List ℕ → Type 0
  Lengths [] = Unit
  Lengths (r ∷ l) = (r ≡ length (line_at tape (length l))) × Lengths l

  -- where a run is
  record Reached (work : List ℤ) (at : ℕ) (answers bytes : List ℕ) : Type 0 where
    stands : Stands tape judged (length answers) points work at
    lines : bytes ≡ joined (take (length answers) (printed_lines tape))
    lengths : Lengths answers

  reached : {work : List ℤ} {at : ℕ} {answers bytes : List ℕ} → Run tape judged points work₀ work at answers bytes → Reached work at answers bytes
  reached start = record {
    stands = begins tape judged from.judgement points work₀ from.loaded from.small from.room;
    lines = unfold joined in refl;
    lengths = tt;
  }
  reached (one_more {work} {at} {answers} {bytes} before κs a r s h t j k p w n c o) =
      let i = reached before in
      let m = h (stands_as _ tape _ judged _ (length answers) _ points _ work _ at t j k p w n i.stands, c, o) in
      let line : line_at a.0.now a.1.1.0 ≡ line_at tape (length answers) = ap₂ line_at t k in
      let next : suc (length answers) ≡ a.1.1.0 + 1 = omega arith in
      record {
        stands = stands_as tape _ judged _ (suc (length answers)) _ points _ _ _ _ _ (sym t) (sym j) next (sym p) refl refl m.3;
        lines = ap₂ ◌++◌ i.lines (line_there a.0.now a.1.1.0 _ _ r m.0 m.1 m.2 ∙ line) ∙ lines_next tape (length answers);
        lengths = (m.0 ∙ ap length line, i.lengths);
      }

  -- Statement: after k calls the bytes handed out are the first k lines, one after the other.
  pub handed_lines : {work : List ℤ} {at : ℕ} {answers bytes : List ℕ} → Run tape judged points work₀ work at answers bytes → bytes ≡ joined (take (length answers) (printed_lines tape))
  handed_lines run = (reached run).lines

  -- Statement: a call answers 0 exactly when all lines were handed out before it: only then,
  pub zero_after_all : {work : List ℤ} {at : ℕ} {answers bytes : List ℕ} → Run tape judged points work₀ work at (0 ∷ answers) bytes → length (printed_lines tape) ≤ length answers
  zero_after_all {answers = answers} run = by (ltb (length answers) (length (printed_lines tape)))
      (λ t. absurd (let f = line_filled tape (length answers) (ltb-true _ _ t) in let e = (reached run).lengths.0 in omega arith))
      (λ t. ltb-false (length answers) (length (printed_lines tape)) t)

  -- and always then;
  pub after_all_zero : {work : List ℤ} {at r : ℕ} {answers bytes : List ℕ} → Run tape judged points work₀ work at (r ∷ answers) bytes → length (printed_lines tape) ≤ length answers → r ≡ 0
  after_all_zero {answers = answers} run h = (reached run).lengths.0 ∙ line_none tape (length answers) h

  -- before that it answers more than 0.
  pub before_more : {work : List ℤ} {at r : ℕ} {answers bytes : List ℕ} → Run tape judged points work₀ work at (r ∷ answers) bytes → length answers < length (printed_lines tape) → 0 < r
  before_more {answers = answers} run h = let f = line_filled tape (length answers) h in let e = (reached run).lengths.0 in omega arith

  -- Statement: as soon as a call answers 0, the bytes handed out over the whole run, one after the other, are the definition's printed output, byte for byte.
  pub handed_all : {work : List ℤ} {at : ℕ} {answers bytes : List ℕ} → Run tape judged points work₀ work at (0 ∷ answers) bytes → bytes ≡ printed tape
  unfolding printed
  handed_all {answers = answers} run = let h = zero_after_all run in handed_lines run ∙ ap joined (take_all (suc (length answers)) (printed_lines tape) (omega arith))

  -- Statement: a caller that goes on until the first 0 hands out every line once: it made one call for each line, and the one that answers 0.
  pub one_call_a_line : {work : List ℤ} {at : ℕ} {answers bytes : List ℕ} → Run tape judged points work₀ work at (0 ∷ answers) bytes → ((i : ℕ) → i < length answers → 0 < get_or answers i 0) → length answers ≡ length (printed_lines tape)
  one_call_a_line {answers = answers} run h = let z = zero_after_all run in let f = most answers (reached run).lengths.1 h in omega arith
    where
      most : (l : List ℕ) → Lengths l → ((i : ℕ) → i < length l → 0 < get_or l i 0) → length l ≤ length (printed_lines tape)
      most [] e h = omega arith
      most (r ∷ l) e h = by (ltb (length l) (length (printed_lines tape)))
          (λ t. ltb-true (length l) (length (printed_lines tape)) t)
          (λ t. absurd (let n = line_none tape (length l) (ltb-false _ _ t) in let m = h 0 (omega arith) in let x = e.0 in omega arith))

  -- Statement: it comes to that end, no report has more than 300 lines.
  pub soon_zero : {work : List ℤ} {at r : ℕ} {answers bytes : List ℕ} → Run tape judged points work₀ work at (r ∷ answers) bytes → 300 ≤ length answers → r ≡ 0
  soon_zero run h = after_all_zero run (let f = lines_few tape in omega arith)

  -- Statement: of the next call after a run, what next_line asks is met, and the bytes it hands out are exactly the next line.
  module _ {work : List ℤ} {at : ℕ} {answers bytes : List ℕ} (run : Run tape judged points work₀ work at answers bytes) (κs : Lfts 6) (a : ArgsD signature κs)
      (t : a.0.now ≡ tape) (j : a.1.0 ≡ judged) (k : a.1.1.0 ≡ length answers) (p : a.1.1.1.0.now ≡ points) (w : a.1.1.1.1.0.now ≡ work) (n : a.1.1.1.1.1.0.now ≡ at)
      (c : length a.1.1.1.1.1.1.0.now ≡ 8192) (o : length a.1.1.1.1.1.1.1.0.now ≡ 172064) where
    pub asked_met : reads.Asked κs a
    asked_met = (stands_as _ tape _ judged _ (length answers) _ points _ work _ at t j k p w n (reached run).stands, c, o)

    pub next_handed : (r : ResD signature κs) (s : AtExit ended κs) → reads.Learnt κs a r s → take r s.1.1.1.1.1.1.1.0.now ≡ line_at tape (length answers)
    next_handed r s m = line_there a.0.now a.1.1.0 _ _ r m.0 m.1 m.2 ∙ ap₂ line_at t k

points_of : {P Q : Type 0} (judged : Result Planned Refusal) → (Q → P) → IfOk judged (λ planned. Q) → IfOk judged (λ planned. P)
points_of (Ok planned) f q = f q
points_of (Err refusal) f q = tt

-- Statement: what a run starts from is what the program's calls of judge, load and bounded leave, by what their callers learn: for every tape, over a work area of any contents.
pub begun : (κj : Lfts 1) (aj : ArgsD judge.signature κj) (rj : ResD judge.signature κj) (sj : AtExit judge.ended κj) → judge-reads.Learnt κj aj rj sj
    → (κl : Lfts 2) (al : ArgsD load.signature κl) (rl : ResD load.signature κl) (sl : AtExit load.ended κl) → (load-reads.Asked κl al → load-reads.Learnt κl al rl sl)
    → al.0.now ≡ aj.0.now → al.1.0 ≡ rj → length al.1.1.0.now ≡ 8192
    → (κb : Lfts 1) (ab : ArgsD bounded.signature κb) (rb : ResD bounded.signature κb) (sb : AtExit bounded.ended κb) → bounded-reads.Learnt κb ab rb sb → ab.0.now ≡ take rl sl.1.1.0.now
    → (work₀ : List ℤ) → length work₀ ≡ 8192 → Begins aj.0.now rj ab.0.now work₀
begun κj aj rj sj hj κl al rl sl hl t j n κb ab rb sb hb p work₀ room =
    let m = hl (ap reply_of j ∙ hj ∙ ap judging (sym t), n) in
    record {
      judgement = hj;
      loaded = points_of rj (λ q. p ∙ q.0 ∙ ap (λ x. (campaign_of x).points) t) (rw j at m.1);
      small = hb;
      room = room;
    }
