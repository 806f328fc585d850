-- `merge` meets its contract. The invariant: the axes from d on are merged, to those from k on.
use Rattle.cell_spec.proofs.Merging.{MergedTo}
use Rattle.run_merge.proofs.merging.merge.Given as goal

abbrev pub invariant-loop-d : goal.invariant-loop-d
invariant-loop-d l = MergedTo l.initial.extents l.initial.strides l.extents l.strides l.n l.d l.k
