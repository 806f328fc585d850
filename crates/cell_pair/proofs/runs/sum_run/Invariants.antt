-- the column holds the first m points
use Rattle.cell_pair.specs.Tiles.{Column}
use Rattle.cell_pair.proofs.runs.sum_run.Given as goal

abbrev pub invariant-loop-m : goal.invariant-loop-m
invariant-loop-m l = Column l.array l.at 1 l.m l.low l.high l.hits
