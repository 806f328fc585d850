use mathlib.Core.Path.{sym, ◌∙◌}
use Rattle.cube_spec.specs.Checks.{first}
use Rattle.plan_check.proofs.check_lengths.Goals as goal

pub returns-then-bad_lengths : goal.returns-then-bad_lengths
unfolding first
returns-then-bad_lengths c = rw (sym c.bad_lengths.ensures ∙ c.if-bad_lengths.true)

pub returns-then-too_many_points : goal.returns-then-too_many_points
unfolding first
returns-then-too_many_points c = rw (sym c.bad_lengths.ensures ∙ c.if-bad_lengths.false, sym c.too_many_points.ensures ∙ c.if-too_many_points.true)

pub returns : goal.returns
unfolding first
returns c = rw (sym c.bad_lengths.ensures ∙ c.if-bad_lengths.false, sym c.too_many_points.ensures ∙ c.if-too_many_points.false)
