use mathlib.Core.List.{List, ◌++◌}
use mathlib.Core.Path.{◌≡◌, refl, sym, ◌∙◌, ap}
use mir.Val.{Fits}
use mir.Syntax.{w64}
use Prim.Native.Nat.{ℕ, ◌<◌, ◌-◌, ◌+◌, ◌*◌}
use native.Mathlib.Omega.{arith}
use native.Mathlib.Nat.{zero-add}
use lib.ListN.{length, get_or, set, take, replicate}
use Rattle.cube_spec.specs.Limits.{axis_limit}
use Rattle.cube_spec.specs.Boxes.{table, table_from, product}
use Rattle.cube_spec.specs.Choices.{length_of}
use Rattle.cube_spec.specs.Tree.{weight}
use Rattle.cube_spec.proofs.Products.{product_last}
use Rattle.cube_spec.proofs.Slots.{spaced_next}
use Rattle.plan_spec.specs.Rule.{Entry}
use Rattle.plan_spec.specs.Choosing.{Bounded}
use Rattle.plan_spec.proofs.Bounding.{more_small, weight_parts, weight_small}
use Rattle.plan_rule.proofs.rule.entries.Invariants.{spare}
use Rattle.plan_rule.proofs.rule.entries.Goals as goal

module _ (l : List ℕ) (i before : ℕ) (ok : Bounded (length_of l) (length l)) (h : i < length l) (e : before ≡ product (λ j. get_or l j 0 + 1) i 0) where
  before-next : before * (get_or l i 0 + 1) ≡ product (λ j. get_or l j 0 + 1) (i + 1) 0
  before-next = let p = product_last (λ j. get_or l j 0 + 1) i 0 in let z = zero-add i in sym (p ∙ (rw (z, ← e)))

  fits-before : Fits w64 (before * (get_or l i 0 + 1))
  fits-before = let m = more_small (length_of l) (length l) ok (i + 1) (omega arith) in let q = before-next in omega arith

  weighed : (after : ℕ) → after ≡ product (length_of l) (length l - (i + 1)) (i + 1) → before * after ≡ weight (length l) (length_of l) i
  weighed after f = rw (e, f) (sym (weight_parts (length_of l) (length l) ok i))

pub loop-i-init : goal.loop-i-init
unfolding product table_from
loop-i-init c = (refl, refl)

pub overflow_mul-weight : goal.overflow_mul-weight
overflow_mul-weight c =
    let l = c.args.lengths.now in
    let i = c.loop-i.i in
    let w = weighed l i c.loop-i.before c.requires c.loop-i-test.true c.loop-i.invariant.0 c.product_from.result c.product_from.ensures in
    let s = weight_small (length_of l) (length l) c.requires i c.loop-i-test.true in
    omega arith

pub overflow_mul-before : goal.overflow_mul-before
overflow_mul-before c = rw c.from.ensures (fits-before c.args.lengths.now c.loop-i.i c.loop-i.before c.requires c.loop-i-test.true c.loop-i.invariant.0)

pub loop-i-preserved : goal.loop-i-preserved
loop-i-preserved c =
    let l = c.args.lengths.now in
    let i = c.loop-i.i in
    let v = c.loop-i.invariant in
    let E : ℕ → Entry = λ i. record { weight = weight (length l) (length_of l) i; len = length_of l i; exp = 0 } in
    let w = weighed l i c.loop-i.before c.requires c.loop-i-test.true v.0 c.product_from.result c.product_from.ensures in (
      rw c.from.ensures (before-next l i c.loop-i.before c.requires c.loop-i-test.true v.0),
      ap (λ k. set c.loop-i.out i (record { weight = k; len = get_or l i 0; exp = 0 })) w ∙ ap (λ o. set o i (E i)) v.1 ∙ spaced_next spare i E (let f = c.requires.few in omega arith),
    )

pub returns : goal.returns
returns c =
    let l = c.args.lengths.now in
    let E : ℕ → Entry = λ i. record { weight = weight (length l) (length_of l) i; len = length_of l i; exp = 0 } in
    let all : c.loop-i.i ≡ length l = omega arith in
    c.loop-i.invariant.1 ∙ ap (λ n. take axis_limit (table n E ++ replicate axis_limit spare)) all
