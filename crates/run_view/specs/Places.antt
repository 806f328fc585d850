-- Where a viewed part stands in the work area.
use Rattle.std.specs.Prelude.{ℕ, List}
use Rattle.std.proofs.Math.Option.{Option, none, some}
use Rattle.cube_spec.specs.Boxes.{pick}
use Rattle.cube_spec.specs.Tree.{last_of}
use Rattle.rack_spec.specs.Grids.{Grid, lead, cells, index}
use Rattle.rack_spec.specs.Held.{finished_at}
use Rattle.run_view.specs.declared.types.Part.{Part}

abbrev pub no_part : Part
no_part = record { start = 0; cells = 0 }

-- "as a part of the work area itself, empty for a board that is no lead": its first cell, and how many cells it has
abbrev pub part_with : Grid → Option (List ℕ) → ℕ → Part
part_with g none b = no_part
part_with g (some Y) b = pick (lead g Y b) (record { start = index g b (last_of Y) 0; cells = cells g Y b }) no_part

-- of the choice that a position finishes, on board b
unfoldable pub part_of : Grid → ℕ → ℕ → Part
part_of g at b = part_with g (finished_at g at) b
