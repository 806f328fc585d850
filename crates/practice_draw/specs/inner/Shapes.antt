-- What the code hands from one function to the next: everything that is drawn before the points.
use Rattle.std.specs.Prelude.{ℕ}
use Rattle.cube_spec.specs.Limits.{padded}
use Rattle.cube_spec.specs.Choices.{points}
use Rattle.practice_spec.specs.Draws.{axes_of, lengths_of, power_draw, power_of}
use Rattle.practice_draw.specs.declared.types.Shape.{Shape}

unfoldable pub shape_of : ℕ → Shape
shape_of seed =
    record { axes = axes_of seed; lengths = padded (lengths_of seed); p = power_of seed; points = points (lengths_of seed); state = power_draw seed }
