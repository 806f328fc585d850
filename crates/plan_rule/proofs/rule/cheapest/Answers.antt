use mathlib.Core.Path.{◌≡◌, sym, ◌∙◌, ap}
use Prim.Native.Nat.{◌-◌}
use native.Mathlib.Omega.{arith}
use native.Mathlib.Nat.{le_refl}
use lib.ListN.{length, drop}
use Rattle.std.specs.Prelude.{unwrap_or}
use Rattle.plan_spec.specs.Rule.{Entry}
use Rattle.plan_spec.proofs.Raising.{chosen, turn_none, turn_takes, turn_passes, price_small, raise_taken}
use Rattle.plan_rule.proofs.rule.cheapest.Goals as goal

abbrev spare : Entry
spare = record { weight = 0; len = 0; exp = 0 }

pub loop-i-init : goal.loop-i-init
loop-i-init c =
    let l = c.args.entries.now in
    let q = turn_none l (length l) (le_refl _) in
    (omega arith, q.1, tt)

pub loop-i-preserved-then-better : goal.loop-i-preserved-then-better
loop-i-preserved-then-better c =
    let l = c.args.entries.now in
    let v = c.loop-i.invariant in
    let i = c.loop-i.i in
    let q = turn_takes l spare i c.loop-i-test.true (omega arith) (rw (← v.1) (sym c.better.ensures ∙ c.if-better.true)) in
    (let e = q.0 in omega arith, c.cost-least.ensures ∙ q.1, omega arith)

pub loop-i-preserved : goal.loop-i-preserved
loop-i-preserved c =
    let l = c.args.entries.now in
    let v = c.loop-i.invariant in
    let i = c.loop-i.i in
    let q = turn_passes l spare i c.loop-i-test.true (omega arith) (rw (← v.1) (sym c.better.ensures ∙ c.if-better.false)) (price_small _ (c.requires (i - 1) spare (omega arith))) in
    (let e = q.0 in let f = v.0 in omega arith, v.1 ∙ q.1, v.2)

pub returns-clause-raised : goal.returns-clause-raised
returns-clause-raised c =
    let l = c.args.entries.now in
    let v = c.loop-i.invariant in
    let z : c.loop-i.i ≡ 0 = omega arith in
    let e : unwrap_or c.loop-i.best (length l) ≡ chosen (drop c.loop-i.i l) = (let f = v.0 in omega arith) in
    raise_taken l c.loop-i.best (e ∙ ap (λ k. chosen (drop k l)) z)
