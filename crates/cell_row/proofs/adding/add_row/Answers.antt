use Rattle.std.proofs.Common.{arith}
use Rattle.std.proofs.lemmas.List.{map-id}
use Rattle.cell_spec.proofs.Halves.{added_right, added_left}
use Rattle.cell_row.proofs.adding.add_row.Goals as goal

pub returns-then-src-dst : goal.returns-then-src-dst
returns-then-src-dst c =
    let s = c.split_at_mut-front.ensures in
    rw (c.add_values.ensures, map-id c.split_at_mut-front.result.0.now, s.front, s.back) (added_right _ _ _ _ (omega arith) (grind (arith, c.requires.2)))

pub returns-else-src-dst : goal.returns-else-src-dst
returns-else-src-dst c =
    let s = c.split_at_mut-front-else-src-dst.ensures in
    rw (c.add_values-else-src-dst.ensures, map-id c.split_at_mut-front-else-src-dst.result.1.now, s.front, s.back) (added_left _ _ _ _ (omega arith) (grind (arith, c.requires.2)))
