-- `print_for` lends `write` what `practise` has put.
use Rattle.cube_spec.proofs.Stores.{stored_first}
use Rattle.practice_spec.specs.Seeds.{practised}
use Rattle.practice.proofs.writing.print_for.Goals as goal

pub write-whole-requires : goal.write-whole-requires
write-whole-requires c = let s = c.args in
    let p = c.practise-used in
    (p.ensures.1, stored_first s.out.now p.new.out (practised s.input.now) p.result p.ensures.0 p.ensures.1 p.ensures.2)
