-- `put_line` meets its contract.
use mathlib.Core.Path.{◌∙◌}
use Rattle.cell_spec.proofs.Writing.{placed_line}
use Rattle.cell_copy.proofs.put_line.Goals as goal

pub returns-then-step-eq1 : goal.returns-then-step-eq1
returns-then-step-eq1 c = c.put_row.ensures ∙ placed_line _ _ _ _ _ c.if-step-eq1.true
