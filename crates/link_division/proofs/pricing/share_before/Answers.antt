use Rattle.std.proofs.Common.{refl, ◌∙◌}
use Rattle.cube_spec.specs.Boxes.{product}
use Rattle.link_spec.proofs.Pricing.{factor_before, share_next, share_fits}
use Rattle.link_division.proofs.pricing.share_before.Goals as goal

pub loop-j-init : goal.loop-j-init
unfolding product
loop-j-init c = refl

pub overflow_mul-cells : goal.overflow_mul-cells
overflow_mul-cells c =
    let h = c.loop-j-test.true in
    let a = c.args in
    let f = c.factor-cells.ensures ∙ factor_before _ _ _ c.loop-j.j a.i h in
    record { fits = share_fits a.lens.now a.fares.now a.i a.i c.requires.0 c.loop-j.j c.loop-j.cells _ h c.loop-j.invariant f }

pub loop-j-preserved : goal.loop-j-preserved
loop-j-preserved c =
    let h = c.loop-j-test.true in
    let a = c.args in
    let f = c.factor-cells.ensures ∙ factor_before _ _ _ c.loop-j.j a.i h in
    share_next a.lens.now a.fares.now a.i a.i c.requires.0 c.loop-j.j c.loop-j.cells _ h c.loop-j.invariant f
