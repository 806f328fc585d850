-- Fields, each after a space, without the end of the line.
use Rattle.std.specs.Prelude.{ℕ, List, [], ◌∷◌, ◌++◌}
use Rattle.report_spec.specs.Text.{text}

unfoldable pub spread : List (List ℕ) → List ℕ
spread [] = []
spread (f ∷ r) = text " " ++ (f ++ spread r)
