use Rattle.std.proofs.Common.{◌≡◌, ◌-◌, arith}
use Rattle.link_spec.proofs.Stepping.{Filling, fill_start, fill_turn, fill_end, before_last}
use Rattle.link_division.proofs.stepping.fill.Goals as goal

pub loop-i-init : goal.loop-i-init
loop-i-init c = let a = c.args in fill_start a.exponents.now a.caps.now c.requires a.amount

pub loop-i-preserved : goal.loop-i-preserved
loop-i-preserved c =
    let h = c.loop-i-test.true in
    let a = c.args in
    let before = before_last (λ i. Filling a.exponents.now a.caps.now a.amount i c.loop-i.exponents c.loop-i.left) h c.loop-i.invariant in
    fill_turn a.exponents.now a.caps.now c.requires a.amount (c.loop-i.i - 1) c.loop-i.exponents c.loop-i.left c.min-k.result (omega arith) c.min-k.ensures before

pub returns : goal.returns
returns c =
    let a = c.args in
    let z : c.loop-i.i ≡ 0 = omega arith in
    fill_end a.exponents.now a.caps.now c.requires a.amount c.loop-i.exponents c.loop-i.left (rw z at c.loop-i.invariant)
