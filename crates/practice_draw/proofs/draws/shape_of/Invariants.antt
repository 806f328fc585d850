-- `shape_of` draws the lengths. The invariant: d lengths are drawn from the first state on, and stand in the slots, with their product.
use Rattle.practice_draw.proofs.Shaping.{Drawing}
use Rattle.practice_draw.proofs.draws.shape_of.Given as goal

abbrev pub invariant-loop-d : goal.invariant-loop-d
invariant-loop-d l = Drawing l.initial.state l.d l.state l.lengths l.points
