use Rattle.std.proofs.Common.{◌≡◌, ◌∙◌, arith, rules, sym}
use Rattle.cube_spec.proofs.Counting.{counted_start, counted_kept, counted_summed}
use Rattle.cube_choice.proofs.Bytes.{counted_byte}
use Rattle.cube_choice.proofs.types.Choice.cells.Goals as goal
use Rattle.cube_choice.proofs.types.Choice.cells.Goals.{then-keeps, else-keeps}

pub loop-axis-init : goal.loop-axis-init
loop-axis-init c = (search rules, counted_start c.args.lengths.now c.args.self.mask)

pub loop-axis-preserved : goal.loop-axis-preserved
loop-axis-preserved c =
    let i = c.loop-axis.invariant in
    let ds = c.args.lengths.now in
    let mask = c.args.self.mask in
    let d = c.loop-axis.axis in
    let e = sym c.keeps.ensures in
    elim c.if-keeps.branch [
      | then-keeps w ↦
          let m = w.count-is ∙ w.min-count.ensures in (omega arith, (rw w.from.ensures at m) ∙ counted_kept ds mask d c.loop-axis.count i.1 (e ∙ w.if-keeps.true))
      | else-keeps w ↦ (omega (arith, w.count-is, i.0), w.count-is ∙ counted_summed ds mask d c.loop-axis.count i.1 (e ∙ w.if-keeps.false))
    ]

pub returns : goal.returns
returns c =
    let w = c.well_formed in
    let e : c.loop-axis.axis ≡ c.min-axis-end.result = omega arith in
    counted_byte c.args.lengths.now c.args.self.mask c.loop-axis.count (search rules) (rw (← c.min-axis-end.ensures, ← e) c.loop-axis.invariant.1)
