-- `tape_reading::bits_point` meets its contract. The size is one that is taken.
use Rattle.tape_reading.proofs.Sizes.{passed}
use Rattle.tape_reading.proofs.bits_point.Goals as goal

pub whole-requires : goal.whole-requires
whole-requires c = let i = passed _ _ c.requires.0 c.requires.1 in (i.bounded, i.small)
