-- `tape_fill::fill` meets its contract. Where it refuses, the slice is as it was.
use Rattle.cube_spec.specs.Refusals.{number_of}
use Rattle.tape_spec.proofs.Refusing as laws
use Rattle.tape_fill.proofs.fill.Goals as goal

pub returns-in_err-found-clause-points : goal.returns-in_err-found-clause-points
returns-in_err-found-clause-points c = (laws.refused _ (number_of c.in_err-found.field-0.0) c.in_err-found.ensures _).1

pub returns-then-slice-found-clause-points : goal.returns-then-slice-found-clause-points
returns-then-slice-found-clause-points c = (laws.short _ _ c.in_ok-found.ensures _ c.if-slice-found.true).1
