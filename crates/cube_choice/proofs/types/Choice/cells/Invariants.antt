-- The axes before this one are counted.
use Rattle.std.proofs.Common.{◌≡◌, ◌≤◌}
use Rattle.cube_spec.specs.Choices.{cell_cap}
use Rattle.cube_spec.proofs.Counting.{counted}
use Rattle.cube_choice.proofs.types.Choice.cells.Given as goal

abbrev pub invariant-loop-axis : goal.invariant-loop-axis
invariant-loop-axis l = (l.count ≤ cell_cap) × (l.count ≡ counted l.lengths l.self.mask l.axis)
