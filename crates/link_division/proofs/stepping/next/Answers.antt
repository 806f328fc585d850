use Rattle.std.proofs.Common.{ℕ, List, ◌-◌, ◌+◌, ◌<◌, ◌≤◌, ◌≡◌, ◌∷◌, ◌++◌, length, get_or, take, true, refl, sym, ap, ◌∙◌, arith}
use Rattle.std.proofs.lemmas.List.{take_rest}
use lib.ListN.{length-set}
use Rattle.cube_spec.specs.Limits.{power_limit}
use Rattle.cube_spec.specs.Ways.{sum_list}
use Rattle.link_spec.specs.Stepping.{filled, next_of, next_or, went}
use Rattle.link_spec.proofs.Stepping.{Stuck, stuck_start, stuck_next, stuck_sum, raised_next, raised_put, stuck_end, before_last, kept_on}
use Rattle.link_division.proofs.stepping.next.Goals as goal
use Rattle.link_division.proofs.stepping.next.Goals.{else-rest-gt0-via-then-rest-gt0+else-k-caps, else-rest-gt0-via-else-rest-gt0}

pub loop-i-init : goal.loop-i-init
loop-i-init c = let a = c.args in (refl, stuck_start a.exponents.now a.caps.now c.requires.0)

pub returns-then-k-caps : goal.returns-then-k-caps
returns-then-k-caps c =
    let s = c.loop-i in
    let a = c.args in
    let h = c.loop-i-test.true in
    let each : length s.exponents ≡ length a.caps.now = omega arith in
    let on = before_last (λ i. Stuck s.exponents a.caps.now i s.rest) h s.invariant.1 in
    let raised = raised_next s.exponents a.caps.now each (s.i - 1) s.rest (omega arith) on c.if-rest-gt0.true c.if-k-caps.true in
    let put = raised_put s.exponents a.caps.now each (s.i - 1) _ (get_or s.exponents (s.i - 1) 0 + 1) c.fill.new.exponents (omega arith) (omega (arith, length-set s.exponents (s.i - 1) (get_or s.exponents (s.i - 1) 0 + 1))) in
    ap (went true) (put ∙ ap (λ (x : List ℕ). take (s.i - 1) s.exponents ++ ((get_or s.exponents (s.i - 1) 0 + 1) ∷ x)) (c.fill.ensures ∙ ap (λ (x : List ℕ). filled x (s.rest - 1)) (take_rest a.caps.now (s.i - 1 + 1)))) ∙ sym raised ∙ ap (λ (x : List ℕ). next_or x (next_of a.caps.now x)) s.invariant.0

pub overflow_add-rest : goal.overflow_add-rest
overflow_add-rest c =
    let s = c.loop-i in
    let a = c.args in
    let each : length s.exponents ≡ length a.caps.now = omega arith in
    let on = before_last (λ i. Stuck s.exponents a.caps.now i s.rest) c.loop-i-test.true s.invariant.1 in
    let q = stuck_sum s.exponents a.caps.now each (s.i - 1) s.rest (omega arith) on in
    let b : sum_list s.exponents ≤ power_limit = rw s.invariant.0 c.requires.1 in
    record { fits = omega arith }

pub loop-i-preserved : goal.loop-i-preserved
loop-i-preserved c =
    let s = c.loop-i in
    let a = c.args in
    let each : length s.exponents ≡ length a.caps.now = omega arith in
    let on = before_last (λ i. Stuck s.exponents a.caps.now i s.rest) c.loop-i-test.true s.invariant.1 in
    let kept : 0 < s.rest → get_or a.caps.now (s.i - 1) 0 ≤ get_or s.exponents (s.i - 1) 0 =
    elim c.else-rest-gt0.branch [ else-rest-gt0-via-then-rest-gt0+else-k-caps w ↦ λ p. w.if-k-caps.false | else-rest-gt0-via-else-rest-gt0 w ↦ λ p. absurd (let q = w.if-rest-gt0.false in omega arith) ] in
    (s.invariant.0, stuck_next s.exponents a.caps.now each (s.i - 1) s.rest (omega arith) on (kept_on kept))

pub returns : goal.returns
returns c =
    let s = c.loop-i in
    let a = c.args in
    let each : length s.exponents ≡ length a.caps.now = omega arith in
    let z : s.i ≡ 0 = omega arith in
    sym (stuck_end s.exponents a.caps.now each s.rest (rw z at s.invariant.1)) ∙ ap (λ (x : List ℕ). next_or x (next_of a.caps.now x)) s.invariant.0
