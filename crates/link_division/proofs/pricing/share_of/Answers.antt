use Rattle.std.proofs.Common.{ℕ, length, get_or, ◌∙◌, ap, arith}
use Rattle.std.proofs.Math.Nat.{le_antisymm}
use Rattle.cube_spec.specs.Boxes.{product}
use Rattle.link_spec.specs.Shares.{factor, share}
use Rattle.link_spec.proofs.Pricing.{factor_after, share_self, share_next, share_fits, bounded_front}
use Rattle.link_division.proofs.pricing.share_of.Goals as goal

pub share_before-cells-requires : goal.share_before-cells-requires
share_before-cells-requires c =
    let a = c.args in
    let h = c.requires.1 in
    let few = c.requires.0.few in
    (bounded_front (λ d. get_or a.lens.now d 0) (length a.lens.now) a.i c.requires.0 h, omega arith, h)

pub loop-j-init : goal.loop-j-init
loop-j-init c = let a = c.args in share_self a.lens.now a.fares.now a.i c.share_before-cells.result c.share_before-cells.ensures

pub overflow_mul-cells : goal.overflow_mul-cells
overflow_mul-cells c =
    let h = c.loop-j-test.true in
    let a = c.args in
    let f = c.factor-cells.ensures ∙ factor_after _ _ _ c.loop-j.j a.i (omega arith) in
    record { fits = share_fits a.lens.now a.fares.now (length a.lens.now) a.i c.requires.0 c.loop-j.j c.loop-j.cells _ h c.loop-j.invariant f }

pub loop-j-preserved : goal.loop-j-preserved
loop-j-preserved c =
    let h = c.loop-j-test.true in
    let a = c.args in
    let f = c.factor-cells.ensures ∙ factor_after _ _ _ c.loop-j.j a.i (omega arith) in
    share_next a.lens.now a.fares.now (length a.lens.now) a.i c.requires.0 c.loop-j.j c.loop-j.cells _ h c.loop-j.invariant f

pub returns : goal.returns
unfolding share
returns c =
    let a = c.args in
    let j = c.loop-j.auto.j-end (omega arith) in
    c.loop-j.invariant ∙ ap (λ (m : ℕ). product (factor (λ d. get_or a.lens.now d 0) (λ d. get_or a.fares.now d 0) a.i) m 0) (le_antisymm j c.loop-j-test.false)
