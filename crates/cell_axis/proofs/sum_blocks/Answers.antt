use Rattle.std.proofs.Common.{refl, zero-add}
use Rattle.std.proofs.Math.Nat.{zero-mul}
use Rattle.std.proofs.lemmas.List.{map-id}
use Rattle.cell_spec.specs.Rows.{placed, written}
use Rattle.cell_spec.proofs.Combs.{blocks_more}
use Rattle.cell_axis.proofs.sum_blocks.Goals as goal

pub loop-o-init : goal.loop-o-init
unfolding written placed
loop-o-init c = rw zero-mul refl

pub loop-o-preserved : goal.loop-o-preserved
loop-o-preserved c =
    let a = c.args in
    rw (c.sum_combs.ensures, c.loop-o.invariant, map-id a.parent.now) (rw zero-add at (blocks_more a.child.now a.parent.now a.src 0 c.loop-o.o a.extent a.inner))
